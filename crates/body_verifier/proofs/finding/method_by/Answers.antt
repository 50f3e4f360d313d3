use Rattle.std.proofs.Common.{◌≡◌, [], sym, ◌∙◌, ap}
use Rattle.body_verifier.specs.Finding.{typedef_at}
use Rattle.body_verifier.proofs.Walking.{in_module, in_type, in_none}
use Rattle.body_verifier.proofs.finding.method_by.Goals as goal

pub returns-then-is_empty : goal.returns-then-is_empty
returns-then-is_empty c = c.get.ensures ∙ sym (in_module c.args.a.now c.args.at.now (c.is_empty.ensures.0 c.if-is_empty.true))

pub returns-in-Some : goal.returns-in-Some
returns-in-Some c =
    let ne : c.args.at.now.types ≡ [] → ⊥ = λ e. Rattle.std.proofs.lemmas.Bool.false≢true (sym c.if-is_empty.false ∙ c.is_empty.ensures.1 e) in
    c.get-in-Some.ensures ∙ sym (in_type c.args.a.now c.args.at.now c.in-Some.of.now ne (ap (typedef_at c.args.a.now) (sym c.as_slice.ensures) ∙ sym c.in-Some.ensures))

pub returns-in-None : goal.returns-in-None
returns-in-None c =
    let ne : c.args.at.now.types ≡ [] → ⊥ = λ e. Rattle.std.proofs.lemmas.Bool.false≢true (sym c.if-is_empty.false ∙ c.is_empty.ensures.1 e) in
    sym (in_none c.args.a.now c.args.at.now ne (ap (typedef_at c.args.a.now) (sym c.as_slice.ensures) ∙ sym c.in-None.ensures))
