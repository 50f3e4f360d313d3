-- Types are no more than they weigh.
use Rattle.std.proofs.Common.{◌≡◌, ◌∙◌, ap, sym, ℕ, ◌+◌, ◌<◌, ◌≤◌, arith, List, [], ◌∷◌, length, get_or}
use Rattle.std.specs.List.{sum_by}
use Rattle.std.proofs.lemmas.List.Sums.{get_or-le-sum_by, sum-map, sum_by-cons}
use Rattle.assembly_tree.specs.declared.assembly.Assembly.{Assembly}
use Rattle.assembly_tree.specs.declared.members.Generic.{Generic}
use Rattle.assembly_tree.specs.declared.typedef.TypeDef.{TypeDef}
use Rattle.assembly_tree.specs.declared.typedef.TypeDef.TheFolds.{fold_out-TypeDef}
use Rattle.assembly_tree.specs.declared.typedef.TypeDef.TheViews.{out-TypeDef}
use Rattle.assembly_tree.specs.Weight.{generic_weight, own_weight, typedef_step, typedef_weight, weight_of}

weight_out : (t : TypeDef) → typedef_weight t ≡ own_weight (out-TypeDef t) + sum_by typedef_weight (out-TypeDef t).nested
unfolding own_weight
weight_out t =
    fold_out-TypeDef ℕ typedef_step t ∙ ap (λ s. own_weight (out-TypeDef t) + s) (sum-map typedef_weight (out-TypeDef t).nested)

generic_heavy : (g : Generic) → 1 ≤ generic_weight g
unfolding generic_weight
generic_heavy g = omega arith

count_low : {X : Type 0} (weigh : X → ℕ) (xs : List X) → ((x : X) → 1 ≤ weigh x) → length xs ≤ sum_by weigh xs
count_low weigh [] each = omega arith
count_low weigh (x ∷ xs) each = let more = count_low weigh xs each in let here = each x in let first = sum_by-cons weigh x xs in omega arith

pub generics_few : (t : TypeDef) → length (out-TypeDef t).generics ≤ typedef_weight t
unfolding own_weight
generics_few t = let e = weight_out t in let low = count_low generic_weight (out-TypeDef t).generics generic_heavy in omega arith

pub type_heavy : (t : TypeDef) → 1 + sum_by typedef_weight (out-TypeDef t).nested ≤ typedef_weight t
unfolding own_weight
type_heavy t = let e = weight_out t in omega arith

pub type_in : (ts : List TypeDef) (k : ℕ) (t : TypeDef) → k < length ts → t ≡ get_or ts k t → typedef_weight t ≤ sum_by typedef_weight ts
type_in ts k t low is =
    let part = get_or-le-sum_by typedef_weight ts k t low in
    let same : typedef_weight (get_or ts k t) ≡ typedef_weight t = ap typedef_weight (sym is) in
    omega arith

pub types_light : (a : Assembly) → sum_by typedef_weight a.types ≤ weight_of a
unfolding weight_of
types_light a = omega arith
