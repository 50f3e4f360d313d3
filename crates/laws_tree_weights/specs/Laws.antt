-- What the weight of an assembly is a bound of: the bytes of its image, and the number of rows of each table (ECMA-335 II.24.2.6).
use Rattle.std.specs.Prelude.{ℕ, ◌+◌, ◌^◌, ◌<◌, ◌≤◌, List, length, sum_by}
use Rattle.assembly_tree.specs.Weight.{weight_of}
use Rattle.assembly_tree.specs.declared.assembly.Assembly.{Assembly}
use Rattle.assembly_tree.specs.declared.members.Method.{Method}
use Rattle.image_tokens.specs.declared.row_set.Cells.{Cells}
use Rattle.image_members.specs.Classes.{AreClasses}
use Rattle.image_members.specs.DataRows.{all_data}
use Rattle.image_members.specs.DeclaredMembers.{fields_count, methods_count}
use Rattle.image_members.specs.GenericRows.{bounds_from}
use Rattle.image_rows.specs.InterfaceRows.{interfaces_from, count_interfaces}
use Rattle.image_members.specs.Lists.{longest_of, attribute_lists, attribute_items, constant_lists, constant_items, accessor_lists, accessor_items, generic_lists, generic_items, generics_in, params_in, properties_in, events_in}
use Rattle.image_rows.specs.MapRows.{event_count, property_count}
use Rattle.image_rows.specs.OverrideRows.{override_bytes, overrides_from}
use Rattle.image_members.specs.Places.{all_fields, all_methods, params_of}
use Rattle.image_members.specs.declared.classes.Class.{Class}
use Rattle.laws_tree_weights.specs.ImageBytes.{heap_bytes, code_bytes, row_bytes, overrides_weight, overrides_count}

-- An image takes no more bytes than its assembly weighs: 20,000 are left for headers, the fill between parts, and the first entries
-- of heaps.
abbrev pub WeightIsEnough : Type 0
WeightIsEnough =
    (a : Assembly) (classes : List Class) → AreClasses 0 2 a.types classes
    → heap_bytes a classes + code_bytes a classes + row_bytes a classes + 20000 ≤ weight_of a

-- whatever rows methods have, their overrides bring no more than counted
abbrev pub OverridesAreCounted : Type 0
OverridesAreCounted =
    (row : ℕ) (declared : List Cells) (methods : List Method)
    → (sum_by override_bytes (overrides_from row declared methods) ≤ overrides_weight methods)
    × (length (overrides_from row declared methods) ≤ overrides_count methods)

-- no table of an assembly that isn't too heavy has 2 ^ 23 rows
pub record HasFewRows (a : Assembly) (classes : List Class) : Type 0 where
  pub classes_few : length classes < 2 ^ 23
  pub externs : length a.externs < 2 ^ 23
  pub interfaces : sum_by count_interfaces (interfaces_from 2 classes) < 2 ^ 23
  pub fields : length (all_fields a classes) < 2 ^ 23
  pub fields_counted : fields_count a classes < 2 ^ 23
  pub contents : length (all_data 1 (all_fields a classes)) < 2 ^ 23
  pub methods : length (all_methods a classes) < 2 ^ 23
  pub methods_counted : methods_count a classes < 2 ^ 23
  pub params : length (params_in a classes) < 2 ^ 23
  pub param_runs : sum_by (λ m. length (params_of m)) (all_methods a classes) < 2 ^ 23
  pub overrides : overrides_count (all_methods a classes) < 2 ^ 23
  pub properties : length (properties_in classes) < 2 ^ 23
  pub property_runs : sum_by property_count classes < 2 ^ 23
  pub events : length (events_in classes) < 2 ^ 23
  pub event_runs : sum_by event_count classes < 2 ^ 23
  pub accessors : length (accessor_items a classes) < 2 ^ 23
  pub generics : length (generic_items a classes) < 2 ^ 23
  pub bounds : length (bounds_from 1 (generics_in a classes)) < 2 ^ 23
  pub constants : length (constant_items a classes) < 2 ^ 23
  pub attributes : length (attribute_items a classes) < 2 ^ 23
  pub accessor_owners : longest_of (accessor_lists a classes) < 2 ^ 23
  pub generic_owners : longest_of (generic_lists a classes) < 2 ^ 23
  pub constant_owners : longest_of (constant_lists a classes) < 2 ^ 23
  pub attribute_owners : longest_of (attribute_lists a classes) < 2 ^ 23

abbrev pub RowsAreFew : Type 0
RowsAreFew =
    (a : Assembly) (classes : List Class) → weight_of a ≤ 2 ^ 26 → AreClasses 0 2 a.types classes → HasFewRows a classes
