-- The rows of GenericParamConstraint.
use Rattle.std.proofs.Common.{◌≡◌, ap, refl, sym, ◌∙◌, subst, ℕ, ◌+◌, ◌-◌, ◌<◌, ◌≤◌, ◌^◌, List, [], ◌∷◌, ◌++◌, length, arith}
use Rattle.std.specs.Borrow.{Bor}
use Rattle.metadata_tables.specs.Encoding.{AddsRow, IsRowOf}
use Rattle.metadata_tables.specs.Laws.{RowOfColumns}
use Rattle.metadata_tables.specs.Schema.{schema}
use Rattle.assembly_tree.specs.Weight.{owner_weight}
use Rattle.assembly_tree.specs.declared.members.Generic.{Generic}
use Rattle.type_terms.specs.declared.term.Owner.{Owner}
use Rattle.image_members.specs.GenericRows.{bounds_with, bounds_from, bound_bytes, IsBoundRow, CanPushBound}
use Rattle.image_tokens.specs.Members.{Leaves}
use Rattle.image_members.specs.Places.{lent}
use Rattle.image_members.specs.Pushing.{Tables, Pushes, CanPush}
use Rattle.image_tokens.specs.References.{Grows}
use Rattle.image_members.specs.TypeIndexes.{IsTypeIndex}
use Rattle.image_tokens.specs.declared.references.References.{References}
use Rattle.image_rows.proofs.EventLemmas.{type_index_kept}
use Rattle.image_members.proofs.KindLemmas.{RowKind, Pushing, begin, front, go_on, end, one_pushed}
use Rattle.image_tokens.proofs.WritableLemmas.{still_writable_owner}

pub bound_cells : RowOfColumns → (row type : ℕ) → IsRowOf 0x2C (row ∷ type ∷ [])
unfolding schema
bound_cells law row type = law 0x2C (row ∷ type ∷ []) (omega arith) (tt, (tt, tt))

pub bound_kept : (a b : References) → Grows a b → (cells : List ℕ) (x : ℕ × Owner) → IsBoundRow a cells x → IsBoundRow b cells x
bound_kept a b g cells x h = record { type = h.type; are = h.are; type_is = type_index_kept a b g x.1 h.type h.type_is }

pub bound_still : (a b : References) → Grows a b → (x : ℕ × Owner) → CanPushBound a x → CanPushBound b x
bound_still a b g x h = still_writable_owner a b g x.1 h

abbrev pub bound_kind : RowKind (ℕ × Owner)
bound_kind = record { table = 0x2C; is = IsBoundRow; weigh = bound_bytes; can = CanPushBound; kept = bound_kept; still = bound_still }

pub bound_pushed : (a b : References) (from to : Tables) (row : ℕ) (o : Owner) (type : ℕ) → Leaves (IsTypeIndex o) a b (owner_weight o) type → AddsRow from to 0x2C (row ∷ type ∷ [])
    → Pushes 0x2C IsBoundRow bound_bytes (bounds_with row (o ∷ [])) a b from to
bound_pushed a b from to row o type t h = one_pushed bound_kind a b from to (row ∷ type ∷ []) (row, o) t.grows t.known t.room h (record { type = type; are = refl; type_is = t.is })

-- ---- parameter by parameter

pub record BoundsTo (row : ℕ) (a b : References) (from to : Tables) (xs rest : List (Bor Generic)) : Type 0 where
  pub pushing : Pushing bound_kind a b from to (bounds_from 1 (lent xs)) (bounds_from row (lent rest))
  pub within : row + length rest < 2 ^ 24

pub bounds_begin : (a : References) (from : Tables) (xs : List (Bor Generic)) → length xs < 2 ^ 24 - 1 → CanPush 0x2C CanPushBound bound_bytes (bounds_from 1 (lent xs)) a from → BoundsTo 1 a a from from xs xs
bounds_begin a from xs few h = record { pushing = begin bound_kind a from (bounds_from 1 (lent xs)) h; within = omega arith }

module _ (row : ℕ) (a b : References) (from to : Tables) (xs rest more : List (Bor Generic)) (x : Bor Generic) (e : rest ≡ x ∷ more) (d : BoundsTo row a b from to xs rest) where
  pub bound_row : row < 2 ^ 24
  bound_row = let within = d.within in omega arith

  module _ (bounds : List Owner) (same : bounds ≡ x.now.bounds) where
    here : bounds_from row (lent rest) ≡ bounds_with row bounds ++ bounds_from (row + 1) (lent more)
    here = ap (λ (gs : List (Bor Generic)). bounds_from row (lent gs)) e ∙ ap (λ os. bounds_with row os ++ bounds_from (row + 1) (lent more)) (sym same)

    pub bounds_can : CanPush 0x2C CanPushBound bound_bytes (bounds_with row bounds) b to
    bounds_can = front bound_kind a b from to (bounds_from 1 (lent xs)) (bounds_from row (lent rest)) (bounds_with row bounds) (bounds_from (row + 1) (lent more)) here d.pushing

    pub bounds_on : (c : References) (next : Tables) → Pushes 0x2C IsBoundRow bound_bytes (bounds_with row bounds) b c to next → BoundsTo (row + 1) a c from next xs more
    bounds_on c next h = record {
      pushing = go_on bound_kind a b c from to next (bounds_from 1 (lent xs)) (bounds_from row (lent rest)) (bounds_with row bounds) (bounds_from (row + 1) (lent more)) here d.pushing h;
      within = (let within = d.within in let long = ap (length {A = Bor Generic}) e in omega arith);
    }

pub bounds_end : (row : ℕ) (a b : References) (from to : Tables) (xs rest : List (Bor Generic)) → rest ≡ [] → BoundsTo row a b from to xs rest
    → Pushes 0x2C IsBoundRow bound_bytes (bounds_from 1 (lent xs)) a b from to
bounds_end row a b from to xs rest e d = end bound_kind a b from to (bounds_from 1 (lent xs)) (bounds_from row (lent rest)) (ap (λ (gs : List (Bor Generic)). bounds_from row (lent gs)) e) d.pushing
