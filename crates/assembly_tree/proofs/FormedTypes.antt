-- The conditions on types by their layers.
use Rattle.std.proofs.Common.{◌≡◌, ◌∙◌, ap, refl, ℕ, zero, suc, ◌+◌, ◌-◌, ◌==◌, ◌<◌, ◌&&◌, Bool, false, List, length, arith}
use Rattle.std.specs.List.{sum_by, list_all}
use Rattle.std.proofs.lemmas.List.Sums.{sum-map}
use Rattle.assembly_tree.specs.declared.assembly.Assembly.{Assembly}
use Rattle.assembly_tree.specs.declared.typedef.TypeDef.{TypeDef}
use Rattle.assembly_tree.specs.declared.typedef.TypeDef.TheViews.{out-TypeDef}
use Rattle.assembly_tree.specs.declared.typedef.TypeDef.TheFolds.{fold_out-TypeDef}
use Rattle.assembly_tree.specs.WellFormedNames.{all_differ}
use Rattle.assembly_tree.specs.WellFormedTypes.{entries_in, entries_step, entries_of, is_own, is_same_id, are_types}

-- a type has the entries among its own methods, and those of the types that it nests
pub entries_out : (t : TypeDef) → entries_of t ≡ entries_in (out-TypeDef t).methods + sum_by entries_of (out-TypeDef t).nested
entries_out t =
    fold_out-TypeDef ℕ entries_step t ∙ ap (λ s. entries_in (out-TypeDef t).methods + s) (sum-map entries_of (out-TypeDef t).nested)

-- a type, and those that it nests in at most `levels` levels
abbrev pub is_fine : Assembly → Bool → ℕ → TypeDef → Bool
is_fine a top levels t = is_own a top (out-TypeDef t) && are_types a false levels (out-TypeDef t).nested

pub are_types_none : (a : Assembly) (top : Bool) (n : ℕ) (ts : List TypeDef) → n ≡ 0 → are_types a top n ts ≡ (length ts == 0)
unfolding are_types
are_types_none a top zero ts h = refl
are_types_none a top (suc n) ts h = absurd (omega arith)

pub are_types_more : (a : Assembly) (top : Bool) (n : ℕ) (ts : List TypeDef) → 0 < n →
    are_types a top n ts ≡ (all_differ is_same_id ts && list_all (is_fine a top (n - 1)) ts)
unfolding are_types
are_types_more a top zero ts h = absurd (omega arith)
are_types_more a top (suc n) ts h = let e : suc n - 1 ≡ n = omega arith in rw e refl
