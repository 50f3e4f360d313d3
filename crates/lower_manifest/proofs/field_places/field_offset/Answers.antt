use Rattle.std.proofs.Common.{◌≡◌, None, Some, [], ◌∷◌, ap, sym, ◌∙◌}
use Rattle.std.specs.Prelude.{Bool, true, if◌then◌else◌}
use Rattle.ilasm_grammar.specs.declared.productions.TheConstants.{BRACKETED_INT, BRACKETED_INT_OPT_SOME}
use Rattle.source_model.specs.Forest.{child, leaf_at, parts, the}
use Rattle.source_model.specs.OutOfRange.{is_32_bits}
use Rattle.source_model.specs.Shapes.{natural}
use Rattle.source_model.specs.TypeRules.{unless}
use Rattle.source_model.specs.Values.{int_at}
use Rattle.source_flags.proofs.Bits.{passes_at}
use Rattle.lower_manifest.proofs.PlaceLemmas.{nothing_of_first}
use Rattle.lower_manifest.proofs.field_places.field_offset.Goals as goal

pub returns-then-has : goal.returns-then-has
returns-then-has c s f r e h =
    let place = child (BRACKETED_INT_OPT_SOME ∷ []) f in
    let at = sym (c.child-place.ensures f e) in
    let some = sym (c.has.ensures place at) ∙ c.if-has.true in
    let token = c.leaf_at.ensures (the BRACKETED_INT place) (sym (c.the.ensures place at)) in
    let fits : is_32_bits (int_at s c.leaf_at.result) ≡ true =
    ap (λ k. is_32_bits (int_at s k)) token
    ∙ passes_at is_32_bits s (leaf_at 1 (the BRACKETED_INT place))
    (nothing_of_first (λ g. unless is_32_bits s (leaf_at 1 g)) (parts (BRACKETED_INT ∷ []) place) h.layouts some) in
    ap Some (c.natural_32.ensures s r fits ∙ ap (λ k. natural (int_at s k)) token)
    ∙ sym (ap (λ (b : Bool). if b then Some (natural (int_at s (leaf_at 1 (the BRACKETED_INT place)))) else None) some)

pub returns-else-has : goal.returns-else-has
returns-else-has c s f r e h =
    let place = child (BRACKETED_INT_OPT_SOME ∷ []) f in
    let none = sym (c.has.ensures place (sym (c.child-place.ensures f e))) ∙ c.if-has.false in
    sym (ap (λ (b : Bool). if b then Some (natural (int_at s (leaf_at 1 (the BRACKETED_INT place)))) else None) none)
