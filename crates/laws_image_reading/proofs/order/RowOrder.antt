-- Rows of a table, beside the items that they are of: each row has its item, and rows are in order where their items rise.
use Rattle.std.proofs.Common.{◌≡◌, ap, refl, sym, ◌∙◌, subst, ℕ, zero, suc, ◌+◌, ◌-◌, ◌<◌, ◌≤◌, ◌==◌, Bool, false, cond, eqb, List, [], ◌∷◌, Some, inl, inr, arith, ⊎_elim}
use Rattle.std.specs.Prelude.{slice_get, filter}
use Rattle.std.specs.List.{range_with_len}
use Rattle.std.proofs.lemmas.Bool.{eqb-true, cases_Bool}
use Rattle.metadata_tables.specs.Order.{IsNotAfter}
use Rattle.image_model.specs.Rows.{HasRow, count_of, rows_of, rows_with}
use Rattle.laws_image_parts.specs.AtRows.{Reads}
use Rattle.laws_image_parts.proofs.names.General.{get_some}
use Rattle.laws_image_reading.proofs.order.Rising.{Rise, IsBefore, adjacent, rise_low}

-- two rows, of which the second stands behind the first, with what the columns are that they are sorted by
pub record AreNeighbours {X : Type 0} (IsItem : ℕ → X → Type 0) (key : X → ℕ) (Q : X → X → Type 0) (row : ℕ) : Type 0 where
  pub before : X
  pub here : X
  pub is_before : IsItem (row - 1) before
  pub is_here : IsItem row here
  pub order : IsBefore key Q before here

-- ---- a column that never holds a value

none_in : (f : ℕ → Bool) (first n : ℕ) → ((k : ℕ) → first ≤ k → k < first + n → f k ≡ false) → filter f (range_with_len first n) ≡ []
none_in f first zero h = refl
none_in f first (suc n) h =
    ap (λ b. cond b (first ∷ filter f (range_with_len (first + 1) n)) (filter f (range_with_len (first + 1) n))) (h first (omega arith) (omega arith))
    ∙ none_in f (first + 1) n (λ k low high. h k (omega arith) (omega arith))

pub no_rows_with : (image : List ℕ) (table : ℕ) (column : List ℕ → ℕ → ℕ) (v : ℕ) → ((row : ℕ) → HasRow image table row → column image row ≡ v → ⊥) → rows_with image table column v ≡ []
unfolding rows_with rows_of
no_rows_with image table column v h =
    none_in (λ row. column image row == v) 1 (count_of image table)
    (λ k low high. ⊎_elim (λ e. absurd (h k (omega arith, omega arith) (eqb-true (column image k) v e))) (λ e. e) (cases_Bool (eqb (column image k) v)))

-- ---- rows and items

module _ {X : Type 0} (table : ℕ) (cells : List ℕ → ℕ → List ℕ) (IsRow : List ℕ → X → Type 0) (items : List X) (image : List ℕ) (reads : Reads table cells IsRow items image) where
  -- the item of a row
  pub item_of : (row : ℕ) → HasRow image table row → (x : X) × (slice_get items (row - 1) ≡ Some x) × IsRow (cells image row) x
  item_of row there =
      let some = there.0 in
      let high = there.1 in
      let count = reads.count in
      let found = get_some items (row - 1) (omega arith) in
      let same : 1 + (row - 1) ≡ row = omega arith in
      (found.0, found.1, subst (λ n. IsRow (cells image n) found.0) same (reads.each (row - 1) found.0 found.1))

  -- rows are in the order of their items
  pub neighbours : (key : X → ℕ) (Q : X → X → Type 0) (low : ℕ) → Rise key Q low items → (row : ℕ) → 1 < row → HasRow image table row
      → AreNeighbours (λ n x. IsRow (cells image n) x) key Q row
  neighbours key Q low rise row behind there =
      let high = there.1 in
      let one = item_of (row - 1) (omega arith, omega arith) in
      let two = item_of row there in
      let next : row - 1 ≡ suc (row - 1 - 1) = omega arith in
      record {
        before = one.0;
        here = two.0;
        is_before = one.2;
        is_here = two.2;
        order = adjacent key Q low items (row - 1 - 1) one.0 two.0 rise one.1 (subst (λ k. slice_get items k ≡ Some two.0) next two.1);
      }

  -- where items rise from a number on, no row has a lower one
  pub not_below : (key : X → ℕ) (Q : X → X → Type 0) (low : ℕ) → Rise key Q low items → (column : List ℕ → ℕ → ℕ) → ((row : ℕ) (x : X) → IsRow (cells image row) x → column image row ≡ key x)
      → (v : ℕ) → v < low → (row : ℕ) → HasRow image table row → column image row ≡ v → ⊥
  not_below key Q low rise column is v less row there e =
      let one = item_of row there in
      let high = rise_low key Q low items (row - 1) one.0 rise one.1 in
      let same = is row one.0 one.2 in
      omega arith

  pub none_below : (key : X → ℕ) (Q : X → X → Type 0) (low : ℕ) → Rise key Q low items → (column : List ℕ → ℕ → ℕ) → ((row : ℕ) (x : X) → IsRow (cells image row) x → column image row ≡ key x)
      → (v : ℕ) → v < low → rows_with image table column v ≡ []
  none_below key Q low rise column is v less = no_rows_with image table column v (not_below key Q low rise column is v less)

-- ---- columns

-- by one column
pub one_column : {X : Type 0} (IsItem : ℕ → X → Type 0) (key : X → ℕ) (Q : X → X → Type 0) (column : ℕ → ℕ) → ((row : ℕ) (x : X) → IsItem row x → column row ≡ key x)
    → (row : ℕ) → AreNeighbours IsItem key Q row → IsNotAfter (column (row - 1) ∷ []) (column row ∷ [])
one_column IsItem key Q column is row n =
    let a = is (row - 1) n.before n.is_before in
    let b = is row n.here n.is_here in
    elim n.order [ inl less ↦ inl (omega arith) | inr same ↦ inr (a ∙ same.0 ∙ sym b, tt) ]

-- by one column, where no number stands twice
pub strict_column : {X : Type 0} (IsItem : ℕ → X → Type 0) (key : X → ℕ) (column : ℕ → ℕ) → ((row : ℕ) (x : X) → IsItem row x → column row ≡ key x)
    → (row : ℕ) → AreNeighbours IsItem key (λ x y. ⊥) row → column (row - 1) < column row
strict_column IsItem key column is row n =
    let a = is (row - 1) n.before n.is_before in
    let b = is row n.here n.is_here in
    elim n.order [ inl less ↦ omega arith | inr same ↦ absurd same.1 ]

-- by two columns, of which the second rises where the first is the same
pub two_columns : {X : Type 0} (IsItem : ℕ → X → Type 0) (key second : X → ℕ) (column other : ℕ → ℕ) → ((row : ℕ) (x : X) → IsItem row x → column row ≡ key x)
    → ((row : ℕ) (x : X) → IsItem row x → other row ≡ second x)
    → (row : ℕ) → AreNeighbours IsItem key (λ x y. second x < second y) row → IsNotAfter (column (row - 1) ∷ (other (row - 1) ∷ [])) (column row ∷ (other row ∷ []))
two_columns IsItem key second column other is too row n =
    let a = is (row - 1) n.before n.is_before in
    let b = is row n.here n.is_here in
    let c = too (row - 1) n.before n.is_before in
    let d = too row n.here n.is_here in
    elim n.order [ inl less ↦ inl (omega arith) | inr same ↦ let less = same.1 in inr (a ∙ same.0 ∙ sym b, inl (omega arith)) ]
