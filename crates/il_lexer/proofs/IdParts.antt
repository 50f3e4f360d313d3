-- The table of the classes of bytes has what it must have: computed of each byte.
use Rattle.std.proofs.Common.{◌≡◌, ℕ, zero, suc, ◌<◌, Bool, true, false, not, nat_eq, nat_le, get_or, refl, sym, ap, ◌∙◌, inl, inr, ◌⊎◌, arith}
use Rattle.il_lexer.specs.Classes.{is_id_start, is_id_part, is_gap_start}
use Rattle.il_lexer.specs.declared.classes.TheConstants.{CLASSES}

abbrev same : Bool → Bool → Bool
same true b = b
same false b = not b

same-is : (a b : Bool) → same a b ≡ true → a ≡ b
same-is true b e = sym e
same-is false true e = e
same-is false false e = refl

-- the byte's class in the table stands at `low` or above
abbrev reaches : ℕ → ℕ → Bool
reaches low b = nat_le low (get_or CLASSES b 0)

abbrev starts_agree : ℕ → Bool
starts_agree k = same (reaches 3 k) (is_id_start k)

abbrev parts_agree : ℕ → Bool
parts_agree k = same (reaches 2 k) (is_id_part k)

abbrev gaps_agree : ℕ → Bool
gaps_agree k = same (nat_eq (get_or CLASSES k 0) 0) (is_gap_start k)

abbrev pub all_below : (ℕ → Bool) → ℕ → Bool
all_below test zero = true
all_below test (suc n) = elim (test n) [ true ↦ all_below test n | false ↦ false ]

all-parts : (a b : Bool) → elim a [ true ↦ b | false ↦ false ] ≡ true → (a ≡ true) × (b ≡ true)
all-parts true b e = (refl, e)
all-parts false b e = cc

split : (k n : ℕ) → k < suc n → (k ≡ n) ⊎ (k < n)
split zero zero lt = inl refl
split zero (suc n) lt = inr (omega arith)
split (suc k) zero lt = absurd (omega arith)
split (suc k) (suc n) lt = elim (split k n (omega arith)) [ inl e ↦ inl (ap suc e) | inr h ↦ inr (omega arith) ]

pub below : (test : ℕ → Bool) (n k : ℕ) → all_below test n ≡ true → k < n → test k ≡ true
below test zero k e lt = absurd (omega arith)
below test (suc n) k e lt =
    let h = all-parts (test n) (all_below test n) e in
    elim (split k n lt) [ inl is ↦ ap test is ∙ h.0 | inr less ↦ below test n k h.1 less ]

all_starts_agree : all_below starts_agree 256 ≡ true
all_starts_agree = refl

all_parts_agree : all_below parts_agree 256 ≡ true
all_parts_agree = refl

all_gaps_agree : all_below gaps_agree 256 ≡ true
all_gaps_agree = refl

pub id-start-is : (b : ℕ) → b < 256 → reaches 3 b ≡ is_id_start b
id-start-is b lt = same-is (reaches 3 b) (is_id_start b) (below starts_agree 256 b all_starts_agree lt)

pub id-part-is : (b : ℕ) → b < 256 → reaches 2 b ≡ is_id_part b
id-part-is b lt = same-is (reaches 2 b) (is_id_part b) (below parts_agree 256 b all_parts_agree lt)

pub gap-start-is : (b : ℕ) → b < 256 → nat_eq (get_or CLASSES b 0) 0 ≡ is_gap_start b
gap-start-is b lt = same-is (nat_eq (get_or CLASSES b 0) 0) (is_gap_start b) (below gaps_agree 256 b all_gaps_agree lt)
