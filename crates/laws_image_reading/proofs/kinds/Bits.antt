-- Bits of flags.
use Rattle.std.proofs.Common.{◌≡◌, sym, ◌∙◌, ℕ, ◌*◌, ◌%◌, ◌==◌, ◌&&◌, ◌||◌, ◌⊎◌, true, false, not, inl, inr, arith}
use Rattle.std.specs.Prelude.{bit_and}
use Rattle.std.specs.Int.{bit_at}
use Rattle.std.proofs.lemmas.Bool.{and_parts, or_cases, eqb-true, ne_eqb, eq-eqb, not_from_true, not_from_false}
use Rattle.std.proofs.lemmas.Nat.{and_mask}
use Rattle.std.proofs.lemmas.Nat.Bits.{and_pow}

-- the code is IL or the runtime's, and managed
pub code_flags : (flags : ℕ) → (((bit_and flags 3 == 0) || (bit_and flags 3 == 3)) && (bit_and flags 4 == 0)) ≡ true
    → ((flags % 4 ≡ 0) ⊎ (flags % 4 ≡ 3)) × (bit_at flags 2 ≡ 0)
code_flags flags h =
    let parts = and_parts ((bit_and flags 3 == 0) || (bit_and flags 3 == 3)) (bit_and flags 4 == 0) h in
    let low : bit_and flags 3 ≡ flags % 4 = and_mask flags 2 in
    let bit : bit_and flags 4 ≡ bit_at flags 2 * 4 = and_pow flags 2 in
    let clear = eqb-true (bit_and flags 4) 0 parts.1 in
    let kind : (flags % 4 ≡ 0) ⊎ (flags % 4 ≡ 3) = elim (or_cases (bit_and flags 3 == 0) (bit_and flags 3 == 3) parts.0) [
      | inl e ↦ inl (sym low ∙ eqb-true (bit_and flags 3) 0 e)
      | inr e ↦ inr (sym low ∙ eqb-true (bit_and flags 3) 3 e)
    ] in
    (kind, omega arith)

-- the flag of an interface
pub interface_set : (flags : ℕ) → bit_at flags 5 ≡ 1 → not (bit_and flags 0x20 == 0) ≡ true
interface_set flags h =
    let bit : bit_and flags 32 ≡ bit_at flags 5 * 32 = and_pow flags 5 in
    not_from_false (bit_and flags 0x20 == 0) (ne_eqb (bit_and flags 0x20) 0 (λ e. omega arith))

pub interface_clear : (flags : ℕ) → (bit_at flags 5 ≡ 1 → ⊥) → not (bit_and flags 0x20 == 0) ≡ false
interface_clear flags h =
    let bit : bit_and flags 32 ≡ bit_at flags 5 * 32 = and_pow flags 5 in
    let none : bit_at flags 5 ≡ 0 = omega arith in
    not_from_true (bit_and flags 0x20 == 0) (eq-eqb (bit_and flags 0x20) 0 (omega arith))
