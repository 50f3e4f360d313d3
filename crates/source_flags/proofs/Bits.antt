-- Numbers in their ranges.
use Rattle.std.proofs.Common.{◌≡◌, ℕ, ◌<◌, ◌^◌, [], ◌∷◌, refl, arith}
use Rattle.std.specs.Prelude.{Bool, true, false, if◌then◌else◌, ℤ, pos, negsuc, int_le}
use Rattle.assembly_tree.specs.WellFormed.{is_image_base, is_file_alignment}
use Rattle.assembly_tree.specs.WellFormedTypes.{is_pack}
use Rattle.source_model.specs.OutOfRange.{are_cor_flags, are_implementation_flags, is_16_bits, is_32_bits, is_natural_with}
use Rattle.source_model.specs.Source.{Source}
use Rattle.source_model.specs.TypeRules.{unless}
use Rattle.source_model.specs.Values.{int_at}
use Rattle.source_nodes.proofs.WrittenNames.{both_true}

-- a number without a sign, below 2 to so many bits
abbrev pub IsNatural : ℕ → ℤ → Type 0
IsNatural k z = (n : ℕ) × (z ≡ pos n) × (n < 2 ^ k)

pub of_16_bits : (z : ℤ) → is_16_bits z ≡ true → IsNatural 16 z
of_16_bits (pos n) e = (n, refl, go n (both_true (int_le (pos 0) (pos n)) (int_le (pos n) (pos 0xFFFF)) e).1)
  where
    go : (m : ℕ) → int_le (pos m) (pos 0xFFFF) ≡ true → m < 2 ^ 16
    go m e = search (arith, e)
of_16_bits (negsuc n) e = absurd cc

pub of_32_bits : (z : ℤ) → is_32_bits z ≡ true → IsNatural 32 z
of_32_bits (pos n) e = (n, refl, go n (both_true (int_le (pos 0) (pos n)) (int_le (pos n) (pos 0xFFFFFFFF)) e).1)
  where
    go : (m : ℕ) → int_le (pos m) (pos 0xFFFFFFFF) ≡ true → m < 2 ^ 32
    go m e = search (arith, e)
of_32_bits (negsuc n) e = absurd cc

-- a number that passes a test which none beyond passes
abbrev pub Bounds : ℕ → (ℕ → Bool) → Type 0
Bounds k test = (n : ℕ) → test n ≡ true → n < 2 ^ k

pub of_test : (k : ℕ) (test : ℕ → Bool) → Bounds k test → (z : ℤ) → is_natural_with test z ≡ true → IsNatural k z
of_test k test bounds (pos n) e = (n, refl, bounds n e)
of_test k test bounds (negsuc n) e = absurd cc

pub image_base_bounds : Bounds 32 is_image_base
image_base_bounds n e = grind arith

pub file_alignment_bounds : Bounds 32 is_file_alignment
file_alignment_bounds n e = grind arith

pub cor_flags_bounds : Bounds 32 are_cor_flags
cor_flags_bounds n e = grind arith

pub implementation_flags_bounds : Bounds 16 are_implementation_flags
implementation_flags_bounds n e = grind arith

pub pack_bounds : Bounds 16 is_pack
pack_bounds n e = grind arith

-- nothing is out of range: it passes
holds : (c : Bool) (k : ℕ) → (if c then [] else k ∷ []) ≡ [] → c ≡ true
holds true k e = refl
holds false k e = absurd cc

pub passes_at : (test : ℤ → Bool) (s : Source) (k : ℕ) → unless test s k ≡ [] → test (int_at s k) ≡ true
passes_at test s k e = holds (test (int_at s k)) k e

pub wider : (z : ℤ) → IsNatural 16 z → IsNatural 32 z
wider z h = let less = h.2 in (h.0, h.1, omega (arith, less))
