use Rattle.std.proofs.Common.{◌≡◌, [], ◌∷◌, sym, subst}
use Rattle.std.specs.Prelude.{IfOk}
use Rattle.ilasm_grammar.specs.declared.productions.TheConstants.{KEY_CULTURE, KEY_LOCALE, TEXT}
use Rattle.source_model.specs.Constants.{text_in}
use Rattle.source_model.specs.Forest.{parts, the}
use Rattle.source_flags.specs.InRange.{IsInRange}
use Rattle.lower_manifest.proofs.ConstantLemmas.{culture_text}
use Rattle.source_flags.proofs.Gathered.{has_bodies, said, said_last}
use Rattle.lower_manifest.proofs.externs.culture.Goals as goal

pub returns-in-Some : goal.returns-in-Some
returns-in-Some c s f r e h =
    let l = said (IsInRange s) (KEY_CULTURE ∷ KEY_LOCALE ∷ []) f c.in_ok-said.said c.in-Some.line h c.in-Some.is (c.in_ok-said.ensures f e) in
    let t = culture_text s l.of.below l.each l.of.production l.sought-is l.own in
    subst (λ v. IfOk c.text_in.result (λ text. text ≡ v))
    (sym (said_last (λ q. text_in s (the TEXT q.below)) [] (parts (KEY_CULTURE ∷ KEY_LOCALE ∷ []) f) l.of l.last))
    (c.text_in.ensures s (the TEXT l.of.below) r (sym (c.the.ensures l.of.below l.below)) t.0.fits (has_bodies s (the TEXT l.of.below) t.1))
