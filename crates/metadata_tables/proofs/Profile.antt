-- Tables that are present and have no columns: the bits that are left when those of the profile are cleared.
use Rattle.std.proofs.Common.{◌≡◌, ℕ, ◌-◌, ◌^◌, ◌<◌, List, [], length, min, refl, sym, ap, ◌∙◌, arith, Bool, true, eqb, ⊎_elim}
use Rattle.std.specs.Int.{bit_at, bit_not, trailing_zeros, w64}
use Rattle.std.specs.Int.RustNames.{bit_and}
use Rattle.std.proofs.lemmas.Nat.Bits.{bit_at_and, bit_at_not, bit_at_above, bit_at-lt, bit_at-zero, bit_at-trailing_zeros}
use Rattle.std.proofs.lemmas.Bool.{agree_below, agree_below_at, eqb-true, eq-eqb, cases_lt}
use Rattle.std.proofs.lemmas.List.{nil_from_length}
use Rattle.std.proofs.lemmas.Nat.{and_le_l}
use Rattle.metadata_tables.specs.Stream.{present}
use Rattle.metadata_tables.specs.Faults.{IsForeign}
use Rattle.metadata_tables.specs.Schema.{schema, columns_of}
use Rattle.metadata_tables.specs.declared.schema.TheConstants.{PROFILE}

out : ℕ → Bool
out t = eqb (bit_at PROFILE t) 0

bare : ℕ → Bool
bare t = eqb (length (columns_of t)) 0

out_is_bare : agree_below out bare 64 ≡ true
unfolding out bare schema
out_is_bare = refl

profile_bit : (t : ℕ) → t < 64 → bit_at PROFILE t ≡ 0 → columns_of t ≡ []
unfolding out bare
profile_bit t h b =
    let same = agree_below_at out bare 64 t out_is_bare h in
    nil_from_length (columns_of t) (eqb-true _ _ (sym same ∙ eq-eqb _ _ b))

profile_from : (t : ℕ) → t < 64 → columns_of t ≡ [] → bit_at PROFILE t ≡ 0
unfolding out bare
profile_from t h e =
    let same = agree_below_at out bare 64 t out_is_bare h in
    eqb-true _ _ (same ∙ eq-eqb _ _ (ap length e))

foreign_bit : (p t : ℕ) → t < 64 → bit_at (bit_and p (bit_not w64 PROFILE)) t ≡ min (bit_at p t) (1 - bit_at PROFILE t)
foreign_bit p t h =
    bit_at_and p (bit_not w64 PROFILE) t ∙ ap (λ (x : ℕ). min (bit_at p t) x) (bit_at_not w64 PROFILE t (omega arith) h)

-- a bit that is left is that of a present table without columns
pub foreign_is : (p t : ℕ) → t < 64 → bit_at (bit_and p (bit_not w64 PROFILE)) t ≡ 1 → (bit_at p t ≡ 1) × (columns_of t ≡ [])
foreign_is p t h b =
    let e = foreign_bit p t h in
    let l = bit_at-lt p t in
    (omega (arith, e, b, l), profile_bit t h (omega (arith, e, b, l)))

-- and each such table has its bit left
pub foreign_from : (p t : ℕ) → p < 2 ^ 64 → bit_at p t ≡ 1 → columns_of t ≡ [] → (t < 64) × (bit_at (bit_and p (bit_not w64 PROFILE)) t ≡ 1)
foreign_from p t fits b e =
    ⊎_elim
    (λ h. (h, let z = profile_from t h e in omega (arith, foreign_bit p t h, z, b)))
    (λ h. let z = bit_at_above p 64 t fits h in absurd (omega (arith, z, b)))
    (cases_lt t 64)

-- where none is left, no table is foreign
pub no_foreign : (stream : List ℕ) (m : ℕ) → m ≡ present stream → m < 2 ^ 64 → bit_and m (bit_not w64 PROFILE) ≡ 0 → (t : ℕ) → IsForeign stream t → ⊥
no_foreign stream m e fits none t f =
    let left = foreign_from m t fits (rw e f.0) f.1 in
    let zero : bit_at (bit_and m (bit_not w64 PROFILE)) t ≡ 0 = rw none (bit_at-zero t) in
    omega (arith, left.1, zero)

-- else the lowest that is left is that of the first
pub first_foreign : (stream : List ℕ) (m : ℕ) → m ≡ present stream → m < 2 ^ 64 → (bit_and m (bit_not w64 PROFILE) ≡ 0 → ⊥) → IsForeign stream (trailing_zeros w64 (bit_and m (bit_not w64 PROFILE))) × ((t : ℕ) → t < trailing_zeros w64 (bit_and m (bit_not w64 PROFILE)) → IsForeign stream t → ⊥)
first_foreign stream m e fits some =
    let below = and_le_l m (bit_not w64 PROFILE) in
    let lowest = bit_at-trailing_zeros w64 (bit_and m (bit_not w64 PROFILE)) (omega (arith, some)) (omega (arith, below)) in
    let here = foreign_is m (trailing_zeros w64 (bit_and m (bit_not w64 PROFILE))) lowest.0 lowest.1 in (
      (rw (← e) here.0, here.1),
      λ t before f. let left = foreign_from m t fits (rw e f.0) f.1 in
          let zero = lowest.2 t before in
          omega (arith, left.1, zero),
    )
