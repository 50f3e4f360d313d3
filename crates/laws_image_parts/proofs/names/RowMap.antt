-- What the tokens of one table's rows name, as a map.
use Rattle.std.proofs.Common.{◌≡◌, ap, subst, ℕ, ◌-◌, ◌<◌, List, length, Option, Some, None, inl, inr, arith}
use Rattle.std.specs.Prelude.{slice_get, ◌⊎◌}
use Rattle.image_tokens.specs.declared.row_set.Cells.{Cells}
use Rattle.image_model.specs.Naming.{IsToken}
use Rattle.laws_image_parts.proofs.CellLemmas.{get_low}
use Rattle.laws_image_parts.proofs.names.General.{get_some}
use Rattle.laws_image_parts.proofs.names.OnePath.{one_value}
use Rattle.laws_image_parts.proofs.names.OwnerLemmas.{row_decided}

-- a token is that of a row that holds something
pub record IsHeld {X : Type 0} (table : ℕ) (rows : List Cells) (Holds : Cells → X → Type 0) (token : ℕ) (x : X) : Type 0 where
  pub row : ℕ
  pub cells : Cells
  pub is : IsToken token table row
  pub some : 0 < row
  pub at : slice_get rows (row - 1) ≡ Some cells
  pub holds : Holds cells x

module _ {X : Type 0} (table : ℕ) (rows : List Cells) (Holds : Cells → X → Type 0)
    (each : (k : ℕ) (cells : Cells) → slice_get rows k ≡ Some cells → (x : X) × Holds cells x)
    (one : (k : ℕ) (cells : Cells) (x y : X) → slice_get rows k ≡ Some cells → Holds cells x → Holds cells y → x ≡ y) where
  held_one : (token : ℕ) (x y : X) → IsHeld table rows Holds token x → IsHeld table rows Holds token y → x ≡ y
  held_one token x y h k =
      let same : k.row ≡ h.row = (let a = h.is.is in let b = k.is.is in omega arith) in
      let cells : k.cells ≡ h.cells = one_value _ k.cells h.cells (subst (λ z. slice_get rows (z - 1) ≡ Some k.cells) same k.at) h.at in
      one (h.row - 1) h.cells x y h.at h.holds (subst (λ (c : Cells). Holds c y) cells k.holds)

  decided : (token : ℕ) → ((x : X) × IsHeld table rows Holds token x) ⊎ ((x : X) → IsHeld table rows Holds token x → ⊥)
  decided token = elim (row_decided table (length rows) token) [
    | inl h ↦
        let low = h.2 in
        let high = h.3 in
        let found = get_some rows (h.0 - 1) (omega arith) in
        let has = each (h.0 - 1) found.0 found.1 in
        inl (has.0, record { row = h.0; cells = found.0; is = h.1; some = h.2; at = found.1; holds = has.1 })
    | inr f ↦ inr (λ x h. f (h.row, h.is, h.some, (let low = get_low rows (h.row - 1) h.cells h.at in let some = h.some in omega arith)))
  ]

  abbrev chosen : {A B : Type 0} {P : A → Type 0} → ((o : A) × P o) ⊎ B → Option A
  chosen (inl h) = Some h.0
  chosen (inr n) = None

  pub row_map : ℕ → Option X
  row_map token = chosen (decided token)

  pub map_told : (token : ℕ) (x : X) → row_map token ≡ Some x → IsHeld table rows Holds token x
  unfolding row_map
  map_told token x e = by_choice (decided token) e
    where
      by_choice : (d : ((y : X) × IsHeld table rows Holds token y) ⊎ ((y : X) → IsHeld table rows Holds token y → ⊥)) → chosen d ≡ Some x → IsHeld table rows Holds token x
      by_choice (inl h) f = (let same : h.0 ≡ x = cc in subst (IsHeld table rows Holds token) same h.1)
      by_choice (inr n) f = absurd cc

  pub map_tells : (token : ℕ) (x : X) → IsHeld table rows Holds token x → row_map token ≡ Some x
  unfolding row_map
  map_tells token x h = by_choice (decided token)
    where
      by_choice : (d : ((y : X) × IsHeld table rows Holds token y) ⊎ ((y : X) → IsHeld table rows Holds token y → ⊥)) → chosen d ≡ Some x
      by_choice (inl k) = ap Some (held_one token k.0 x k.1 h)
      by_choice (inr n) = absurd (n x h)
