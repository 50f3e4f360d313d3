-- The bits of a real number fit their instruction, in a source that breaks no rule (ECMA-335 III.3.40).
use Rattle.std.proofs.Common.{◌≡◌, ℕ, zero, suc, ◌*◌, ◌<◌, ◌≤◌, ◌^◌, inl, inr, List, [], ◌∷◌, length, refl, ap, sym, subst, ◌∙◌, arith, nat_le, pow-suc}
use Rattle.std.specs.Prelude.{Bool, true, false, ◌==◌, if◌then◌else◌}
use Rattle.std.specs.List.{AllByRecursion, flat_map}
use Rattle.std.proofs.lemmas.Bool.{cases_Bool, le-leb}
use Rattle.std.proofs.lemmas.Bool.Decides.{Decides-eqb}
use Rattle.il_lexer.specs.Classes.{is_hex}
use Rattle.il_lexer.specs.Lexing.{Lexes}
use Rattle.il_lexer.specs.Longest.{LongestSpelling}
use Rattle.il_lexer.specs.Unplaced.{ReadsAsItLexes}
use Rattle.il_lexer.specs.declared.types.TokenKind.TheVariants as kind
use Rattle.ilasm_grammar.specs.declared.productions.TheConstants.{REAL_BITS_FLOAT32, REAL_BITS_FLOAT64, REAL_BITS_REAL_BYTES}
use Rattle.source_model.specs.BodyNumbers.{real_bits_out_of_range, unless_width}
use Rattle.source_model.specs.Constants.{wrapped}
use Rattle.source_model.specs.Forest.{Forest, has, leaf_at, part, parts, the}
use Rattle.source_model.specs.Operands.{real_bits}
use Rattle.source_model.specs.Source.{Source, spelling}
use Rattle.source_model.specs.Values.{digit_value, int_at, little_number, real_bytes}
use Rattle.source_nodes.specs.Readers.{IsOf}
use Rattle.source_nodes.proofs.ByteLemmas.{HasPairs, pair_value, parenthesized, real_has_bytes}
use Rattle.source_nodes.proofs.ReaderLemmas.{token_spelled}
use Rattle.check_bodies.proofs.RealParts.{HasReal, real_forms}
use Rattle.laws_formed_sources.proofs.sources.Unbroken.{empty_in}
use Rattle.laws_formed_sources.proofs.bodies.Fitting.{wrapped_small}

-- ---- bytes

hex_small : (b : ℕ) → is_hex b ≡ true → digit_value b < 16
hex_small b h = search (arith, h)

abbrev IsByte : ℕ → Type 0
IsByte b = b < 256

pairs_small : {w out : List ℕ} → HasPairs w out → AllByRecursion IsByte out
pairs_small (HasPairs.close e o) = subst (AllByRecursion IsByte) (sym o) tt
pairs_small (HasPairs.pair {a = a} {b = b} ha hb g more e o) =
    let x = hex_small a ha in
    let y = hex_small b hb in
    let one : pair_value a b < 256 = omega (arith, x, y) in
    subst (AllByRecursion IsByte) (sym o) (one, pairs_small more)

little_small : (bs : List ℕ) → AllByRecursion IsByte bs → (n : ℕ) → length bs ≤ n → little_number bs < 256 ^ n
little_small [] small n few = positive n
  where
    positive : (m : ℕ) → 0 < 256 ^ m
    positive zero = omega arith
    positive (suc m) = let less = positive m in omega (arith, less, pow-suc 256 m)
little_small (b ∷ bs) small zero few = absurd (omega (arith, few))
little_small (b ∷ bs) small (suc n) few =
    let rest = little_small bs small.1 n (omega (arith, few)) in
    let first : b < 256 = small.0 in
    omega (arith, rest, first, pow-suc 256 n)

module _ (longest : LongestSpelling) (reads : ReadsAsItLexes) (s : Source) (lexes : Lexes s.bytes s.tokens) where
  bytes_small : (k : ℕ) → IsOf s kind.RealBytes k → AllByRecursion IsByte (real_bytes s k)
  bytes_small k is =
      let p = parenthesized (spelling s k) (real_has_bytes (spelling s k) (token_spelled longest reads s lexes kind.RealBytes k is)) in
      subst (AllByRecursion IsByte) p.value (pairs_small p.pairs)

  four_bytes : (k : ℕ) → IsOf s kind.RealBytes k → length (real_bytes s k) ≡ 4 → nat_le (little_number (real_bytes s k)) 0xFFFFFFFF ≡ true
  four_bytes k is four =
      let small = little_small (real_bytes s k) (bytes_small k is) 4 (omega (arith, four)) in
      let bound : 256 ^ 4 ≡ 0x100000000 = refl in
      le-leb (little_number (real_bytes s k)) 0xFFFFFFFF (omega (arith, small, bound))

  -- where the instruction has 32 bits, so has the number
  pub bits_small : (b : Forest) → HasReal s b → flat_map (real_bits_out_of_range s 32) (parts real_forms b) ≡ [] → nat_le (real_bits s b) 0xFFFFFFFF ≡ true
  bits_small b h e = elim (cases_Bool (has REAL_BITS_FLOAT32 b)) [
    | inl single ↦ ap (λ (c : Bool). nat_le (if c then front else later) 0xFFFFFFFF) single ∙ wrapped_small (int_at s (leaf_at 2 (the REAL_BITS_FLOAT32 b)))
    | inr other ↦
        ap (λ (c : Bool). nat_le (if c then front else later) 0xFFFFFFFF) other
        ∙ elim (cases_Bool (has REAL_BITS_FLOAT64 b)) [
          | inl double ↦
              let wide : flat_map (real_bits_out_of_range s 32) (part REAL_BITS_FLOAT64 (the REAL_BITS_FLOAT64 b) ∷ []) ≡ [] =
              ap (flat_map (real_bits_out_of_range s 32)) (sym (h.double other double)) ∙ e in
              absurd cc
          | inr neither ↦
              let k = leaf_at 0 (the REAL_BITS_REAL_BYTES b) in
              let width : flat_map (real_bits_out_of_range s 32) (part REAL_BITS_REAL_BYTES (the REAL_BITS_REAL_BYTES b) ∷ []) ≡ [] =
              ap (flat_map (real_bits_out_of_range s 32)) (sym (h.bytes other neither)) ∙ e in
              let same = holds (32 == 8 * length (real_bytes s k)) k (empty_in (unless_width 32 (8 * length (real_bytes s k)) k) [] width).0 in
              let eight = (Decides-eqb 32 (8 * length (real_bytes s k))).0 same in
              ap (λ (c : Bool). nat_le (if c then double_bits else bytes_bits) 0xFFFFFFFF) neither ∙ four_bytes k (h.token other neither) (omega (arith, eight))
        ]
  ]
    where
      front : ℕ
      front = wrapped 32 (int_at s (leaf_at 2 (the REAL_BITS_FLOAT32 b)))

      double_bits : ℕ
      double_bits = wrapped 64 (int_at s (leaf_at 2 (the REAL_BITS_FLOAT64 b)))

      bytes_bits : ℕ
      bytes_bits = little_number (real_bytes s (leaf_at 0 (the REAL_BITS_REAL_BYTES b)))

      later : ℕ
      later = if has REAL_BITS_FLOAT64 b then double_bits else bytes_bits

      holds : (c : Bool) (k : ℕ) → (if c then [] else k ∷ []) ≡ [] → c ≡ true
      holds true k e = refl
      holds false k e = absurd cc
