-- The numbers of the headers of a listing break no rule.
use Rattle.std.proofs.Common.{◌≡◌, ℕ, zero, suc, ◌+◌, ◌<◌, ◌≤◌, ◌^◌, ◌&&◌, nat_eq, nat_le, bit_and, ℤ, pos, Bool, true, false, if◌then◌else◌, List, [], ◌∷◌, ◌++◌, refl, ap, ◌∙◌, arith}
use Rattle.std.specs.Int.{bit_at}
use Rattle.std.proofs.lemmas.Bool.{and_parts, eqb-true, false≢true, le-leb, ltb-true}
use Rattle.std.proofs.lemmas.Nat.Bits.{bit_at_and, bit_at-zero, same_from_bits}
use Rattle.ilasm_grammar.specs.declared.productions.TheConstants as p
use Rattle.assembly_tree.specs.WellFormed.{is_manifest, is_image_base, is_file_alignment}
use Rattle.assembly_tree.specs.WellFormed as tree
use Rattle.assembly_tree.specs.declared.assembly.Assembly.{Assembly}
use Rattle.assembly_tree.specs.declared.assembly.Manifest.{Manifest}
use Rattle.source_model.specs.Forest as f
use Rattle.source_model.specs.Nodes.{Node, nothing_around}
use Rattle.source_model.specs.OutOfRange.{is_16_bits, is_32_bits, is_natural_with}
use Rattle.source_model.specs.OutOfRange.{are_cor_flags as header_flags}
use Rattle.source_model.specs.Source.{Source}
use Rattle.source_model.specs.TypeRules.{is_within, unless}
use Rattle.source_model.specs.Values.{int_at, integer}
use Rattle.faultless_nodes.specs.Laws.{BreaksNothing}
use Rattle.listing_growth.specs.Held.{is_manifest_held}
use Rattle.listing_model.specs.Manifests.{header_lines}
use Rattle.listing_model.specs.Shown.{Item, size}
use Rattle.listing_reading.specs.Numbered.{numbered}
use Rattle.listing_rows.specs.Segments.{ItemsAgree}
use Rattle.listing_values.specs.Laws.{NumbersAreRead}
use Rattle.listing_denotes.specs.Quiet.{ItemsBreakNothing, HeadersBreakNothing}

-- ---- what the manifest holds

pub record IsFormed (m : Manifest) : Type 0 where
  pub image_base : is_image_base m.image_base ≡ true
  pub file_alignment : is_file_alignment m.file_alignment ≡ true
  pub cor_flags : tree.are_cor_flags m.cor_flags ≡ true

formed_of : (a : Assembly) (m : Manifest) → is_manifest a m ≡ true → IsFormed m
unfolding is_manifest
formed_of a m h =
    let h7 = and_parts _ _ h in
    let h6 = and_parts _ _ h7.0 in
    let h5 = and_parts _ _ h6.0 in
    let h4 = and_parts _ _ h5.0 in
    let h3 = and_parts _ _ h4.0 in
    record { image_base = h3.1; file_alignment = h4.1; cor_flags = h5.1 }

pub record IsHeld (m : Manifest) : Type 0 where
  pub image_base : m.image_base < 2 ^ 32
  pub file_alignment : m.file_alignment < 2 ^ 32
  pub stack_reserve : m.stack_reserve < 2 ^ 32
  pub subsystem : m.subsystem < 0x10000
  pub cor_flags : m.cor_flags < 2 ^ 32

held_of : (m : Manifest) → is_manifest_held m ≡ true → IsHeld m
unfolding is_manifest_held
held_of m h =
    let h10 = and_parts _ _ h in
    let h9 = and_parts _ _ h10.0 in
    let h8 = and_parts _ _ h9.0 in
    let h7 = and_parts _ _ h8.0 in
    let h6 = and_parts _ _ h7.0 in
    let h5 = and_parts _ _ h6.0 in
    let h4 = and_parts _ _ h5.0 in
    record {
      image_base = ltb-true m.image_base 0x100000000 h4.1;
      file_alignment = ltb-true m.file_alignment 0x100000000 h5.1;
      stack_reserve = ltb-true m.stack_reserve 0x100000000 h6.1;
      subsystem = ltb-true m.subsystem 0x10000 h7.1;
      cor_flags = ltb-true m.cor_flags 0x100000000 h8.1;
    }

small_32 : (k : ℕ) → k < 2 ^ 32 → k < 2 ^ 128
small_32 k h = omega arith

small_16 : (k : ℕ) → k < 0x10000 → k < 2 ^ 128
small_16 k h = omega arith

at_most_32 : (k : ℕ) → k < 2 ^ 32 → k ≤ 0xFFFFFFFF
at_most_32 k h = omega arith

at_most_16 : (k : ℕ) → k < 0x10000 → k ≤ 0xFFFF
at_most_16 k h = omega arith

-- ---- numbers in their ranges

all_three : (x y z : Bool) → x ≡ true → y ≡ true → z ≡ true → (x && y && z) ≡ true
all_three true true z h i j = j
all_three true false z h i j = absurd (false≢true i)
all_three false y z h i j = absurd (false≢true h)

within : (k n : ℕ) → n ≤ k → is_within (pos 0) (pos k) (pos n) ≡ true
within k n h =
    let least : 0 ≤ n = omega arith in
    all_three true (nat_le 0 n) (nat_le n k) refl (le-leb 0 n least) (le-leb n k h)

-- flags without two bits are without one of them
unset : (n : ℕ) → bit_and n 0x18 ≡ 0 → bit_and n 0x10 ≡ 0
unset n clear = same_from_bits (bit_and n 0x10) 0
    (λ i.
    let one = bit_at_and n 0x10 i in
    let two = bit_at_and 0x10 0x18 i in
    let three : bit_at (bit_and 0x10 0x18) i ≡ bit_at 0x10 i = refl in
    let four = bit_at_and n 0x18 i in
    let five = ap (λ k. bit_at k i) clear in
    let six = bit_at-zero i in
    omega (arith, one, two, three, four, five, six))

flags_pass : (n : ℕ) → n ≤ 0xFFFFFFFF → tree.are_cor_flags n ≡ true → header_flags n ≡ true
flags_pass n few h =
    let hs = and_parts (nat_eq (bit_and n 1) 1) (nat_eq (bit_and n 0x18) 0) h in
    let clear = unset n (eqb-true (bit_and n 0x18) 0 hs.1) in
    all_three (nat_le n 0xFFFFFFFF) (nat_eq (bit_and n 1) 1) (nat_eq (bit_and n 0x10) 0) (le-leb n 0xFFFFFFFF few) hs.0 (ap (λ (k : ℕ). nat_eq k 0) clear)

unless_none : (test : ℤ → Bool) (s : Source) (k : ℕ) (z : ℤ) → int_at s k ≡ z → test z ≡ true → unless test s k ≡ []
unless_none test s k z e t = ap (λ (c : Bool). if c then [] else k ∷ []) (ap test e ∙ t)

-- ---- the lines

numbers_quiet : {xs : List ℕ} → xs ≡ [] → (xs ++ [] ++ [] ++ [] ++ [] ++ [] ++ [] ++ [] ++ [] ++ [] ++ []) ≡ []
numbers_quiet e = ap (λ (ys : List ℕ). ys ++ [] ++ [] ++ [] ++ [] ++ [] ++ [] ++ [] ++ [] ++ [] ++ []) e

-- what stands below the line with this number
abbrev below_from : ℕ → ℕ → List Item → f.Forest
below_from k at [] = f.none
below_from zero at (i ∷ is) = numbered at i.below
below_from (suc k) at (i ∷ is) = below_from k (at + size i.below) is

abbrev node_of : ℕ → f.Forest → Node
node_of q b = record { production = q; below = b; around = nothing_around }

module _ (numbers : NumbersAreRead) (s : Source) (a : Assembly) (m : Manifest) (formed : IsFormed m) (held : IsHeld m) (at : ℕ) (ag : ItemsAgree s at (header_lines a.externs m)) where
  abbrev below_at : ℕ → f.Forest
  below_at k = below_from k at (header_lines a.externs m)

  image_base_quiet : BreaksNothing s (node_of p.DECL_IMAGEBASE (below_at 0))
  image_base_quiet =
      record {
        types = refl;
        scopes = refl;
        typars = refl;
        param_types = refl;
        numbers = numbers_quiet (unless_none (is_natural_with is_image_base) s _ (pos m.image_base) (ap integer ag.0.1.0.text ∙ numbers.hexadecimal 8 m.image_base (small_32 m.image_base held.image_base)) (formed.image_base));
        depth = refl;
        nesting = refl;
        paths = refl;
        class = λ i. absurd (false≢true i);
        field = λ i. absurd (false≢true i);
        label = λ i. absurd (false≢true i);
        accessors = λ i. absurd (false≢true i);
        method = λ i. absurd (false≢true i);
      }

  file_alignment_quiet : BreaksNothing s (node_of p.DECL_FILE (below_at 1))
  file_alignment_quiet =
      record {
        types = refl;
        scopes = refl;
        typars = refl;
        param_types = refl;
        numbers = numbers_quiet (unless_none (is_natural_with is_file_alignment) s _ (pos m.file_alignment) (ap integer ag.1.0.1.1.0.text ∙ numbers.hexadecimal 8 m.file_alignment (small_32 m.file_alignment held.file_alignment)) (formed.file_alignment));
        depth = refl;
        nesting = refl;
        paths = refl;
        class = λ i. absurd (false≢true i);
        field = λ i. absurd (false≢true i);
        label = λ i. absurd (false≢true i);
        accessors = λ i. absurd (false≢true i);
        method = λ i. absurd (false≢true i);
      }

  stack_reserve_quiet : BreaksNothing s (node_of p.DECL_STACKRESERVE (below_at 2))
  stack_reserve_quiet =
      record {
        types = refl;
        scopes = refl;
        typars = refl;
        param_types = refl;
        numbers = numbers_quiet (unless_none is_32_bits s _ (pos m.stack_reserve) (ap integer ag.1.1.0.1.0.text ∙ numbers.hexadecimal 8 m.stack_reserve (small_32 m.stack_reserve held.stack_reserve)) (within 0xFFFFFFFF m.stack_reserve (at_most_32 m.stack_reserve held.stack_reserve)));
        depth = refl;
        nesting = refl;
        paths = refl;
        class = λ i. absurd (false≢true i);
        field = λ i. absurd (false≢true i);
        label = λ i. absurd (false≢true i);
        accessors = λ i. absurd (false≢true i);
        method = λ i. absurd (false≢true i);
      }

  subsystem_quiet : BreaksNothing s (node_of p.DECL_SUBSYSTEM (below_at 3))
  subsystem_quiet =
      record {
        types = refl;
        scopes = refl;
        typars = refl;
        param_types = refl;
        numbers = numbers_quiet (unless_none is_16_bits s _ (pos m.subsystem) (ap integer ag.1.1.1.0.1.0.text ∙ numbers.hexadecimal 4 m.subsystem (small_16 m.subsystem held.subsystem)) (within 0xFFFF m.subsystem (at_most_16 m.subsystem held.subsystem)));
        depth = refl;
        nesting = refl;
        paths = refl;
        class = λ i. absurd (false≢true i);
        field = λ i. absurd (false≢true i);
        label = λ i. absurd (false≢true i);
        accessors = λ i. absurd (false≢true i);
        method = λ i. absurd (false≢true i);
      }

  cor_flags_quiet : BreaksNothing s (node_of p.DECL_CORFLAGS (below_at 4))
  cor_flags_quiet =
      record {
        types = refl;
        scopes = refl;
        typars = refl;
        param_types = refl;
        numbers = numbers_quiet (unless_none (is_natural_with header_flags) s _ (pos m.cor_flags) (ap integer ag.1.1.1.1.0.1.0.text ∙ numbers.hexadecimal 8 m.cor_flags (small_32 m.cor_flags held.cor_flags)) (flags_pass m.cor_flags (at_most_32 m.cor_flags held.cor_flags) formed.cor_flags));
        depth = refl;
        nesting = refl;
        paths = refl;
        class = λ i. absurd (false≢true i);
        field = λ i. absurd (false≢true i);
        label = λ i. absurd (false≢true i);
        accessors = λ i. absurd (false≢true i);
        method = λ i. absurd (false≢true i);
      }

  lines_quiet : ItemsBreakNothing s nothing_around at (header_lines a.externs m)
  lines_quiet = ((image_base_quiet, tt), ((file_alignment_quiet, tt), ((stack_reserve_quiet, tt), ((subsystem_quiet, tt), ((cor_flags_quiet, tt), tt)))))

pub headers_break_nothing : NumbersAreRead → HeadersBreakNothing
headers_break_nothing numbers s a m wf h at ag = lines_quiet numbers s a m (formed_of a m wf) (held_of m h) at ag
