-- A type counts more types than those that it nests.
use Rattle.std.proofs.Common.{◌≡◌, ◌∙◌, ap, ℕ, zero, suc, ◌+◌, ◌<◌, ◌≤◌, List, [], ◌∷◌, length, get_or, arith}
use Rattle.std.specs.List.{sum_by}
use Rattle.std.proofs.lemmas.List.Sums.{sum_by-cons, sum-map}
use Rattle.assembly_tree.specs.Nesting.{nested_in, types_step, types_in}
use Rattle.assembly_tree.specs.declared.typedef.TypeDef.{TypeDef}
use Rattle.assembly_tree.specs.declared.typedef.TypeDef.TheViews.{out-TypeDef}
use Rattle.assembly_tree.specs.declared.typedef.TypeDef.TheFolds.{fold_out-TypeDef}

pub types_in_out : (t : TypeDef) → types_in t ≡ 1 + sum_by types_in (out-TypeDef t).nested
types_in_out t = fold_out-TypeDef ℕ types_step t ∙ ap (λ s. 1 + s) (sum-map types_in (out-TypeDef t).nested)

item_counts : (ts : List TypeDef) (i : ℕ) (t : TypeDef) → i < length ts → t ≡ get_or ts i t → types_in t ≤ sum_by types_in ts
item_counts [] i t h e = absurd (omega arith)
item_counts (u ∷ ts) zero t h e = let first = ap types_in e in let all = sum_by-cons types_in u ts in omega arith
item_counts (u ∷ ts) (suc i) t h e =
    let rest = item_counts ts i t (omega arith) e in
    let all = sum_by-cons types_in u ts in
    omega arith

pub nested_fewer : (ts us : List TypeDef) (i : ℕ) (t : TypeDef) → i < length ts → t ≡ get_or ts i t → us ≡ (out-TypeDef t).nested → sum_by types_in us < sum_by types_in ts
nested_fewer ts us i t h e f =
    let one = item_counts ts i t h e in
    let its = types_in_out t in
    let same = ap (sum_by types_in) f in
    omega arith
