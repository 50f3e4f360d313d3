-- The types that a type nests are fewer than those of a list that it is in.
use Rattle.std.proofs.Common.{◌≡◌, ◌∙◌, ap, ℕ, ◌+◌, ◌<◌, List, [], ◌∷◌, ◌++◌, reverse, arith}
use Rattle.std.specs.List.{sum_by}
use Rattle.std.proofs.lemmas.List.Sums.{sum-map, sum_by-append}
use Rattle.assembly_tree.specs.declared.typedef.TypeDef.{TypeDef}
use Rattle.assembly_tree.specs.declared.typedef.TypeDef.TheFolds.{fold_out-TypeDef}
use Rattle.assembly_tree.specs.declared.typedef.TypeDef.TheViews.{out-TypeDef}
use Rattle.assembly_tree.specs.Nesting.{types_in, types_step}
use Rattle.il_shrink.proofs.Turning.{split_next}

types_out : (t : TypeDef) → types_in t ≡ 1 + sum_by types_in (out-TypeDef t).nested
types_out t = fold_out-TypeDef ℕ types_step t ∙ ap (λ (n : ℕ). 1 + n) (sum-map types_in (out-TypeDef t).nested)

pub nested_lower : (all front rest less : List TypeDef) (t : TypeDef) → all ≡ front ++ reverse rest → rest ≡ less ++ t ∷ [] →
    sum_by types_in (out-TypeDef t).nested < sum_by types_in all
nested_lower all front rest less t e f =
    let split : all ≡ (front ++ t ∷ []) ++ reverse less = split_next all front rest less t e f in
    let whole : sum_by types_in all ≡ sum_by types_in ((front ++ t ∷ []) ++ reverse less) = ap (sum_by types_in) split in
    let parts = sum_by-append types_in (front ++ t ∷ []) (reverse less) in
    let first = sum_by-append types_in front (t ∷ []) in
    let one : sum_by types_in (t ∷ []) ≡ types_in t = omega arith in
    let inside = types_out t in
    omega arith
