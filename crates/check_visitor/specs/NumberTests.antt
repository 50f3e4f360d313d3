-- The tests that some numbers without a sign must pass, and the widths of constants (ECMA-335 II.10.7, II.16.2, II.23.1.11,
-- II.25.2.3, II.25.3.3.1).
use Rattle.std.specs.Prelude.{ℕ, ◌||◌, Bool, if◌then◌else◌, ℤ, pos, List, [], ◌∷◌, ◌++◌}
use Rattle.std.specs.List.{flat_map}
use Rattle.assembly_tree.specs.WellFormed.{is_image_base, is_file_alignment}
use Rattle.assembly_tree.specs.WellFormedTypes.{is_pack}
use Rattle.ilasm_grammar.specs.declared.productions.TheConstants.{BRACKETED_INT, BRACKETED_INT_OPT_SOME, PARENTHESIZED_INT, INT_TYPE_UINT8, INT_TYPE_UINT16, INT_TYPE_UINT32, UNSIGNED_INT_INT8, UNSIGNED_INT_INT16, UNSIGNED_INT_INT32}
use Rattle.source_model.specs.Data.{item_bits}
use Rattle.source_model.specs.Forest.{Forest, child, each, has, leaf_at}
use Rattle.source_model.specs.OutOfRange.{are_cor_flags, are_implementation_flags, fits_width, is_16_bits, is_32_bits, is_repeat}
use Rattle.source_model.specs.Source.{Source}
use Rattle.source_model.specs.TypeRules.{is_within, unless}
use Rattle.check_visitor.specs.declared.ranges.Width.{Width}
use Rattle.check_visitor.specs.declared.ranges.Width.TheVariants.{Bits8, Bits16, Bits32, Bits64}
use Rattle.check_visitor.specs.declared.ranges.Limit.{Limit}
use Rattle.check_visitor.specs.declared.ranges.Limit.TheVariants.{UpTo, OneOf, Fits, Exactly}
use Rattle.check_visitor.specs.declared.ranges.Test.{Test}
use Rattle.check_visitor.specs.declared.ranges.Test.TheVariants.{ImageBase, FileAlignment, CorFlags, Implementation, Pack}

abbrev pub test_of : Test → ℕ → Bool
test_of ImageBase = is_image_base
test_of FileAlignment = is_file_alignment
test_of CorFlags = are_cor_flags
test_of Implementation = are_implementation_flags
test_of Pack = is_pack

abbrev pub bits_in : Width → ℕ
bits_in Bits8 = 8
bits_in Bits16 = 16
bits_in Bits32 = 32
bits_in Bits64 = 64

abbrev pub keeps_within : Limit → ℤ → Bool
keeps_within (UpTo high) = is_within (pos 0) (pos high)
keeps_within (OneOf count) = is_within (pos 1) (pos count)
keeps_within (Fits width) = fits_width (bits_in width)
keeps_within (Exactly number) = is_within (pos number) (pos number)

-- the bits of an integer type without a sign
abbrev pub unsigned_bits : Forest → ℕ
unsigned_bits f =
    if has INT_TYPE_UINT8 f || has UNSIGNED_INT_INT8 f then 8
    else if has INT_TYPE_UINT16 f || has UNSIGNED_INT_INT16 f then 16
    else if has INT_TYPE_UINT32 f || has UNSIGNED_INT_INT32 f then 32
    else 64

-- the parts of a version that are out of their range
abbrev pub version_out_of_range : Source → Forest → List ℕ
version_out_of_range s f = flat_map (λ k. unless is_16_bits s (leaf_at k f)) (1 ∷ 3 ∷ 5 ∷ 7 ∷ [])

-- the place of a field that is out of its range
abbrev pub place_out_of_range : Source → Forest → List ℕ
place_out_of_range s f = flat_map (λ g. unless is_32_bits s (leaf_at 1 g)) (each BRACKETED_INT (child (BRACKETED_INT_OPT_SOME ∷ []) f))

-- the numbers of an item of data that are out of their range
abbrev pub item_out_of_range : Source → Forest → List ℕ
item_out_of_range s f =
    flat_map (λ g. unless (fits_width (item_bits f)) s (leaf_at 1 g)) (each PARENTHESIZED_INT f)
    ++ flat_map (λ g. unless is_repeat s (leaf_at 1 g)) (each BRACKETED_INT f)
