use Rattle.std.proofs.Common.{◌≡◌, [], ◌∷◌, ap, sym, subst, ◌∙◌}
use Rattle.std.specs.Prelude.{true}
use Rattle.ilasm_grammar.specs.declared.productions.TheConstants.{ITEM_MAXSTACK}
use Rattle.source_model.specs.Forest.{leaf_at, parts}
use Rattle.source_model.specs.Manifests.{last_said}
use Rattle.source_model.specs.OutOfRange.{is_16_bits}
use Rattle.source_model.specs.Shapes.{natural}
use Rattle.source_model.specs.TypeRules.{unless}
use Rattle.source_model.specs.Values.{int_at}
use Rattle.source_flags.specs.Lines.{IsLast}
use Rattle.source_flags.specs.declared.outside.Shut.TheVariants.{Instructions}
use Rattle.source_flags.proofs.Apart.{same_outside}
use Rattle.source_flags.proofs.Bits.{passes_at}
use Rattle.source_flags.proofs.Gathered.{last_of_line, nothing_said, said_last}
use Rattle.lower_manifest.proofs.PastLemmas.{bound_past}
use Rattle.lower_manifest.proofs.PlaceLemmas.{fold_said, nothing_of_last}
use Rattle.lower_manifest.proofs.bounds.bound.Goals as goal

pub returns-in-Some : goal.returns-in-Some
returns-in-Some c s f r e bodies nothing =
    let ps = parts (ITEM_MAXSTACK ∷ []) f in
    let last = subst (IsLast c.in_ok-said.said) (same_outside Instructions (ITEM_MAXSTACK ∷ []) bound_past s f bodies) (c.in_ok-said.ensures f e) in
    let l = last_of_line ps c.in_ok-said.said c.in-Some.line c.in-Some.is last in
    let token = c.leaf_at.ensures l.0.below l.2.below in
    let fits : is_16_bits (int_at s c.leaf_at.result) ≡ true =
    ap (λ k. is_16_bits (int_at s k)) token
    ∙ passes_at is_16_bits s (leaf_at 1 l.0.below) (nothing_of_last (λ g. unless is_16_bits s (leaf_at 1 g)) ps l.0 nothing l.1) in
    c.natural_16.ensures s r fits ∙ ap (λ k. natural (int_at s k)) token
    ∙ sym (said_last (λ p. natural (int_at s (leaf_at 1 p.below))) 8 ps l.0 l.1)
    ∙ sym (fold_said (λ g. natural (int_at s (leaf_at 1 g))) 8 ps)

pub returns-in-None : goal.returns-in-None
returns-in-None c s f r e bodies nothing =
    let ps = parts (ITEM_MAXSTACK ∷ []) f in
    let last = subst (IsLast c.in_ok-said.said) (same_outside Instructions (ITEM_MAXSTACK ∷ []) bound_past s f bodies) (c.in_ok-said.ensures f e) in
    ap (λ qs. last_said (λ p. natural (int_at s (leaf_at 1 p.below))) 8 qs) (sym (nothing_said ps c.in_ok-said.said c.in-None.is last))
    ∙ sym (fold_said (λ g. natural (int_at s (leaf_at 1 g))) 8 ps)
