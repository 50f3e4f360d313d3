-- A member lies in the run of one row.
use Rattle.std.proofs.Common.{◌≡◌, ℕ, ◌+◌, ◌-◌, ◌<◌, ◌≤◌, List, ◌⊎◌, inl, inr, sym, subst, arith}
use Rattle.std.specs.Prelude.{◌↔◌, Contains}
use Rattle.std.specs.List.{range_with_len}
use Rattle.std.proofs.lemmas.Bool.{cases_order}
use Rattle.image_model.specs.Rows.{count_of, HasRow, run_end}
use Rattle.image_model.specs.Structure.{Rises}
use Rattle.row_demands.specs.Members.{run_begin, run_of}
use Rattle.row_demands.proofs.Tiles.{AllRise, ends, ends_before, ends_last, rises_to, range_contains, contains_range}

-- the run of an earlier row ends where that of a later one begins, or before
apart : (f : ℕ → ℕ) (n m p j k : ℕ) → AllRise f n → 0 < j → j < k → k ≤ n → Contains (range_with_len (f j) (ends f n m j - f j)) p
    → Contains (range_with_len (f k) (ends f n m k - f k)) p → ⊥
apart f n m p j k rise some less within here there =
    let a = range_contains (f j) (ends f n m j) p here in
    let b = range_contains (f k) (ends f n m k) p there in
    let e = ends_before f n m j (omega arith) in
    let t = rises_to f n rise (j + 1) k (omega arith) (omega arith) within in
    absurd (omega arith)

pub one_owner : (f : ℕ → ℕ) (n m p j k : ℕ) → AllRise f n → 0 < j → j ≤ n → 0 < k → k ≤ n → Contains (range_with_len (f j) (ends f n m j - f j)) p
    → Contains (range_with_len (f k) (ends f n m k - f k)) p → j ≡ k
one_owner f n m p j k rise some_j within_j some_k within_k here there = elim (cases_order j k) [
  | inl same ↦ same
  | inr other ↦ elim other [
    | inl less ↦ absurd (apart f n m p j k rise some_j less within_k here there)
    | inr more ↦ absurd (apart f n m p k j rise some_k more within_j there here)
  ]
]

module _ (image : List ℕ) (table column members : ℕ) (rise : (row : ℕ) → HasRow image table row → Rises (run_begin image table column members) row) where
  abbrev f : ℕ → ℕ
  f = run_begin image table column members

  all_rise : AllRise f (count_of image table)
  all_rise k from upto more = rise k (from, upto) more

  pub only_owner : (member j k : ℕ) → HasRow image table j → HasRow image table k → Contains (run_of image table column members j) member
      → Contains (run_of image table column members k) member → j ≡ k
  only_owner member j k row_j row_k here there =
      one_owner f (count_of image table) (count_of image members) member j k all_rise row_j.0 row_j.1 row_k.0 row_k.1 here there

  -- the last row whose run begins no later than a member has it
  pub last_has : (member last end : ℕ) → 0 < last → last < end → end ≤ last + 1 → end ≤ count_of image table + 1 → f last ≤ member → (end ≤ count_of image table → member < f end)
      → member ≤ count_of image members → HasRow image table last × Contains (run_of image table column members last) member
  last_has member last end some less more within begins next there =
      let is : end ≡ last + 1 = omega arith in
      ((some, omega arith), contains_range (f last) (ends f (count_of image table) (count_of image members) last) member begins (behind (omega arith) (cases_order last (count_of image table)) next is)) where
        behind : last ≤ count_of image table → (last ≡ count_of image table) ⊎ ((last < count_of image table) ⊎ (count_of image table < last)) → (end ≤ count_of image table → member < f end) → end ≡ last + 1
            → member < ends f (count_of image table) (count_of image members) last
        behind le (inl e) next is =
            subst (λ k. member < ends f (count_of image table) (count_of image members) k) (sym e) (subst (λ z. member < z) (sym (ends_last f (count_of image table) (count_of image members))) (omega arith))
        behind le (inr (inl less)) next is =
            subst (λ z. member < z) (sym (ends_before f (count_of image table) (count_of image members) last less)) (subst (λ k. member < f k) is (next (omega arith)))
        behind le (inr (inr more)) next is = absurd (omega arith)

pub in_run : (image : List ℕ) (table column members row member : ℕ)
    → ((run_begin image table column members row ≤ member) × (member < run_end image table (run_begin image table column members) members row))
    ↔ Contains (run_of image table column members row) member
in_run image table column members row member = (
  λ h. contains_range (run_begin image table column members row) (run_end image table (run_begin image table column members) members row) member h.0 h.1,
  λ h. range_contains (run_begin image table column members row) (run_end image table (run_begin image table column members) members row) member h,
)
