-- Numbers of variables and real numbers that are in their ranges fit what holds them.
use Rattle.std.proofs.Common.{◌≡◌, ℕ, zero, suc, ◌*◌, ◌≤◌, ◌<◌, ◌^◌, List, [], ◌∷◌, length, refl, ap, sym, ◌∙◌, arith, append-nil}
use Rattle.std.specs.Prelude.{Bool, true, false, ◌==◌, if◌then◌else◌, ℤ, pos, negsuc, int_le, slice_index}
use Rattle.std.specs.List.{flat_map}
use Rattle.std.proofs.lemmas.Bool.Decides.{Decides-eqb}
use Rattle.std.proofs.Math.Nat.{pow-suc}
use Rattle.opcode_table.specs.declared.kind.OperandKind.{OperandKind}
use Rattle.opcode_table.specs.declared.kind.OperandKind.TheVariants as kind
use Rattle.assembly_tree.specs.WellFormedBodies.{operand_kind}
use Rattle.ilasm_grammar.specs.declared.productions.TheConstants.{REAL_BITS_REAL_BYTES}
use Rattle.source_model.specs.BodyNumbers.{greatest_variable, real_bits_out_of_range, real_out_of_range, real_width, unless_width, variable_out_of_range}
use Rattle.source_model.specs.Forest.{Forest, Part, leaf_at, part, parts}
use Rattle.source_model.specs.Instructions.{op_of}
use Rattle.source_model.specs.OutOfRange.{is_16_bits}
use Rattle.source_model.specs.Source.{Source}
use Rattle.source_model.specs.TypeRules.{is_within}
use Rattle.source_model.specs.Values.{little_number, real_bytes}
use Rattle.source_model.specs.Variables.{variable_number, variable_token}
use Rattle.source_flags.proofs.Bits.{of_16_bits}
use Rattle.source_nodes.proofs.WrittenNames.{both_true}
use Rattle.lower_bodies.proofs.RealParts.{real_forms}

holds : (c : Bool) (k : ℕ) → (if c then [] else k ∷ []) ≡ [] → c ≡ true
holds true k e = refl
holds false k e = absurd cc

-- what is within a byte is within two
wider : (z : ℤ) → is_within (pos 0) (pos 0xFF) z ≡ true → is_16_bits z ≡ true
wider (pos n) e = go n (both_true (int_le (pos 0) (pos n)) (int_le (pos n) (pos 0xFF)) e).1
  where
    go : (m : ℕ) → int_le (pos m) (pos 0xFF) ≡ true → is_16_bits (pos m) ≡ true
    go m e = search (arith, e)
wider (negsuc n) e = absurd cc

short_kind : (k : OperandKind) (z : ℤ) → is_within (pos 0) (pos (greatest_variable k)) z ≡ true → is_16_bits z ≡ true
short_kind kind.Nothing z e = e
short_kind kind.Var8 z e = wider z e
short_kind kind.Var16 z e = e
short_kind kind.Num8 z e = e
short_kind kind.Num32 z e = e
short_kind kind.Num64 z e = e
short_kind kind.Byte z e = e
short_kind kind.Real4 z e = e
short_kind kind.Real8 z e = e
short_kind kind.Branch8 z e = e
short_kind kind.Branch32 z e = e
short_kind kind.Switch z e = e
short_kind kind.Method z e = e
short_kind kind.Field z e = e
short_kind kind.Of z e = e
short_kind kind.Text z e = e
short_kind kind.Token z e = e

module _ (s : Source) (f : Forest) (p : Part) where
  pub short_variable : variable_out_of_range s f p ≡ [] → is_16_bits (variable_number s f p) ≡ true
  short_variable e =
      short_kind (operand_kind (op_of s p)) (variable_number s f p)
      (holds (is_within (pos 0) (pos (greatest_variable (operand_kind (op_of s p)))) (variable_number s f p)) (variable_token p) e)

  pub small_variable : (n : ℕ) → variable_out_of_range s f p ≡ [] → variable_number s f p ≡ pos n → n < 2 ^ 16
  small_variable n e is = go (of_16_bits (pos n) (sym (ap is_16_bits is) ∙ short_variable e))
    where
      go : (m : ℕ) × (pos n ≡ pos m) × (m < 2 ^ 16) → n < 2 ^ 16
      go h = let same : n ≡ h.0 = cc in let less = h.2 in omega (arith, same, less)

-- ---- bytes of a number

pub little_below : (xs : List ℕ) → ((i : ℕ) → slice_index xs i < 256) → (n : ℕ) → length xs ≤ n → little_number xs < 256 ^ n
little_below [] small n few = positive n
  where
    positive : (m : ℕ) → 0 < 256 ^ m
    positive zero = omega arith
    positive (suc m) = let less = positive m in omega (arith, less, pow-suc 256 m)
little_below (x ∷ xs) small zero few = absurd (omega (arith, few))
little_below (x ∷ xs) small (suc n) few =
    let rest = little_below xs (λ i. small (suc i)) n (omega (arith, few)) in
    let first : x < 256 = small 0 in
    omega (arith, rest, first, pow-suc 256 n)

-- bits of an instruction's width are at most 8 bytes
few_by_width : (k : OperandKind) (count token : ℕ) → unless_width (real_width k) (8 * count) token ≡ [] → count ≤ 8
few_by_width k count token e = go (real_width k) (width_small k) ((Decides-eqb (real_width k) (8 * count)).0 (holds (real_width k == 8 * count) token e))
  where
    width_small : (k : OperandKind) → real_width k ≤ 64
    width_small kind.Nothing = omega arith
    width_small kind.Var8 = omega arith
    width_small kind.Var16 = omega arith
    width_small kind.Num8 = omega arith
    width_small kind.Num32 = omega arith
    width_small kind.Num64 = omega arith
    width_small kind.Byte = omega arith
    width_small kind.Real4 = omega arith
    width_small kind.Real8 = omega arith
    width_small kind.Branch8 = omega arith
    width_small kind.Branch32 = omega arith
    width_small kind.Switch = omega arith
    width_small kind.Method = omega arith
    width_small kind.Field = omega arith
    width_small kind.Of = omega arith
    width_small kind.Text = omega arith
    width_small kind.Token = omega arith

    go : (w : ℕ) → w ≤ 64 → w ≡ 8 * count → count ≤ 8
    go w small same = omega (arith, small, same)

pub few_bytes : (s : Source) (p : Part) (d : Forest) → real_out_of_range s p ≡ [] → parts real_forms p.below ≡ part REAL_BITS_REAL_BYTES d ∷ []
    → length (real_bytes s (leaf_at 0 d)) ≤ 8
few_bytes s p d none one =
    let k = operand_kind (op_of s p) in
    few_by_width k (length (real_bytes s (leaf_at 0 d))) (leaf_at 0 d)
    (sym (append-nil (real_bits_out_of_range s (real_width k) (part REAL_BITS_REAL_BYTES d))) ∙ sym (ap (flat_map (real_bits_out_of_range s (real_width k))) one) ∙ none)
