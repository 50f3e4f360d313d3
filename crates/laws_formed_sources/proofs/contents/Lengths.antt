-- How many bytes a declaration of data gives (ECMA-335 II.16.3).
use Rattle.std.proofs.Common.{◌≡◌, ℕ, zero, suc, ◌+◌, ◌*◌, ◌/◌, List, [], ◌∷◌, ◌++◌, length, refl, ap, sym, ◌∙◌, arith}
use Rattle.std.specs.Prelude.{Bool, true, false, ◌==◌, if◌then◌else◌, fold}
use Rattle.std.specs.List.{flat_map}
use Rattle.std.proofs.Math.Nat.{suc-mul, zero-mul}
use Rattle.std.proofs.lemmas.List.{length-append}
use Rattle.ilasm_grammar.specs.declared.productions.TheConstants.{DATA_ITEM_BYTES}
use Rattle.source_model.specs.Constants.{wrapped}
use Rattle.source_model.specs.Data.{data_bytes, data_items, data_length, item_bits, item_bytes, item_count, item_length, item_value, little_bytes, repeated}
use Rattle.source_model.specs.Forest.{Forest, Part, leaf_at}
use Rattle.source_model.specs.Source.{Source}
use Rattle.source_model.specs.Values.{array_bytes}

length_little : (count n : ℕ) → length (little_bytes count n) ≡ count
length_little zero n = refl
length_little (suc count) n = ap suc (length_little count (n / 256))

length_repeated : (count : ℕ) (bytes : List ℕ) → length (repeated count bytes) ≡ count * length bytes
length_repeated zero bytes = sym (zero-mul (length bytes))
length_repeated (suc count) bytes =
    let both = length-append bytes (repeated count bytes) in
    let more = length_repeated count bytes in
    let whole : length (bytes ++ repeated count bytes) ≡ count * length bytes + length bytes = omega (arith, both, more) in
    whole ∙ sym (suc-mul count (length bytes))

module _ (s : Source) where
  numbers_long : (p : Part) → length (repeated (item_count s p.below) (little_bytes (item_bits p.below / 8) (wrapped (item_bits p.below) (item_value s p.below))))
      ≡ item_count s p.below * (item_bits p.below / 8)
  numbers_long p =
      length_repeated (item_count s p.below) (little_bytes (item_bits p.below / 8) (wrapped (item_bits p.below) (item_value s p.below)))
      ∙ ap (λ k. item_count s p.below * k) (length_little (item_bits p.below / 8) (wrapped (item_bits p.below) (item_value s p.below)))

  item_long : (p : Part) → length (item_bytes s p) ≡ item_length s p
  item_long p = go (p.production == DATA_ITEM_BYTES)
    where
      go : (c : Bool)
          → length (if c then array_bytes s (leaf_at 0 p.below) else repeated (item_count s p.below) (little_bytes (item_bits p.below / 8) (wrapped (item_bits p.below) (item_value s p.below))))
          ≡ (if c then length (array_bytes s (leaf_at 0 p.below)) else item_count s p.below * (item_bits p.below / 8))
      go true = refl
      go false = numbers_long p

  items_long : (ps : List Part) (before : ℕ) → before + length (flat_map (item_bytes s) ps) ≡ fold (λ n p. n + item_length s p) before ps
  items_long [] before = omega arith
  items_long (p ∷ ps) before =
      let both = length-append (item_bytes s p) (flat_map (item_bytes s) ps) in
      let own = item_long p in
      let more : before + length (item_bytes s p ++ flat_map (item_bytes s) ps) ≡ before + item_length s p + length (flat_map (item_bytes s) ps) = omega (arith, both, own) in
      more ∙ items_long ps (before + item_length s p)

  pub data_long : (f : Forest) → length (data_bytes s f) ≡ data_length s f
  data_long f =
      let front : length (data_bytes s f) ≡ 0 + length (flat_map (item_bytes s) (data_items f)) = omega arith in
      front ∙ items_long (data_items f) 0
