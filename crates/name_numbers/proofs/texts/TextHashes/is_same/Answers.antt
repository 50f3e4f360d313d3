use Rattle.std.proofs.Common.{◌≡◌, IsTrue, get_or, sym, ◌∙◌, ap, subst}
use Rattle.std.specs.Prelude.{◌↔◌}
use Rattle.std.proofs.lemmas.Bool.{eq-eqb, eqb-true}
use Rattle.name_numbers.specs.Texts.{front_at}
use Rattle.name_numbers.proofs.Fronts.{first_same, first_same_back, both_behind}
use Rattle.name_numbers.proofs.texts.TextHashes.is_same.Goals as goal

pub returns-then-one-eq0 : goal.returns-then-one-eq0
returns-then-one-eq0 c =
    let f = first_same c.args.self.now c.args.one c.args.other c.if-one-eq0.true (λ z. c.if-one-other.false (c.if-one-eq0.true ∙ sym z)) in
    let b : c.byte_at.result ≡ get_or c.args.self.now c.args.other 0 = c.byte_at.ensures ∙ ap (λ h. get_or h c.args.other 0) c.self.view_is in
    (λ yes. f.1 (sym b ∙ eqb-true c.byte_at.result 0 yes), λ h. eq-eqb c.byte_at.result 0 (b ∙ f.0 h))

pub returns-then-other-eq0 : goal.returns-then-other-eq0
returns-then-other-eq0 c =
    let f = first_same_back c.args.self.now c.args.one c.args.other c.if-other-eq0.true c.if-one-eq0.false in
    let b : c.byte_at-then-other-eq0.result ≡ get_or c.args.self.now c.args.one 0 = c.byte_at-then-other-eq0.ensures ∙ ap (λ h. get_or h c.args.one 0) c.self.view_is in
    (λ yes. f.1 (sym b ∙ eqb-true c.byte_at-then-other-eq0.result 0 yes), λ h. eq-eqb c.byte_at-then-other-eq0.result 0 (b ∙ f.0 h))

pub returns : goal.returns
returns c =
    let b = both_behind c.args.self.now c.args.one c.args.other c.if-one-eq0.false c.if-other-eq0.false in
    let a : IsTrue c.are_same.result ↔ (front_at c.args.self.now c.args.one ≡ front_at c.args.self.now c.args.other)
    = subst (λ h. IsTrue c.are_same.result ↔ (front_at h c.args.one ≡ front_at h c.args.other)) c.self.view_is c.are_same.ensures in
    (λ yes. b.1 (a.0 yes), λ h. a.1 (b.0 h))
