-- The well-formed assembly: the conditions on its parts, and those on the whole.
use Rattle.std.specs.Prelude.{ℕ, ◌%◌, ◌==◌, ◌&&◌, ◌||◌, Bool, true, nat_le, bit_and}
use Rattle.std.specs.List.{list_all}
use Rattle.assembly_tree.specs.declared.assembly.Assembly.{Assembly}
use Rattle.assembly_tree.specs.declared.assembly.ExternAssembly.{ExternAssembly}
use Rattle.assembly_tree.specs.declared.assembly.Manifest.{Manifest}
use Rattle.assembly_tree.specs.WellFormedMembers.{is_clear, is_attribute, is_field, is_method, is_same_field, is_same_method}
use Rattle.assembly_tree.specs.WellFormedNames.{all_differ, has_no_zero, is_name}
use Rattle.assembly_tree.specs.WellFormedTypes.{are_types, entries}

-- ---- the manifest

-- a multiple of 0x10000 from 0x10000 to 0xF0000000 (ECMA-335 II.25.2.3.2)
abbrev pub is_image_base : ℕ → Bool
is_image_base n = (n % 0x10000 == 0) && nat_le 0x10000 n && nat_le n 0xF0000000

abbrev pub is_file_alignment : ℕ → Bool
is_file_alignment n = (n == 0x200) || (n == 0x400) || (n == 0x800) || (n == 0x1000)

-- IL only, without a native entry point, and the bit of the strong name's signature isn't in the tree (ECMA-335
-- II.25.3.3.1)
abbrev pub are_cor_flags : ℕ → Bool
are_cor_flags flags = (bit_and flags 1 == 1) && is_clear 0x18 flags

unfoldable pub is_manifest : Assembly → Manifest → Bool
is_manifest a m =
    is_name m.name && has_no_zero m.culture && is_name m.module && is_image_base m.image_base
    && is_file_alignment m.file_alignment && are_cor_flags m.cor_flags && list_all (is_attribute a) m.attributes
    && list_all (is_attribute a) m.module_attributes

unfoldable pub is_extern : ExternAssembly → Bool
is_extern e = is_name e.name && has_no_zero e.culture

-- ---- the whole

-- classes nest at most 100 deep
abbrev pub are_classes : Assembly → Bool
are_classes a = are_types a true 100 a.types

-- what is declared outside of any class
unfoldable pub are_globals : Assembly → Bool
are_globals a =
    list_all (is_field a) a.fields && list_all (is_method a) a.methods && all_differ is_same_field a.fields
    && all_differ is_same_method a.methods

-- the program starts at one method at most
abbrev pub is_one_entry : Assembly → Bool
is_one_entry a = nat_le (entries a) 1

unfoldable pub is_well_formed : Assembly → Bool
is_well_formed a =
    is_manifest a a.manifest && list_all is_extern a.externs && are_classes a && are_globals a && is_one_entry a
