-- How many bytes an image of an assembly takes at most: what comes into its heaps and rows of references, its code, and the rows
-- of the other tables (ECMA-335 II.22, II.24.2, II.25.4).
use Rattle.std.specs.Prelude.{ℕ, ◌+◌, ◌*◌, List, length, map, sum_by}
use Rattle.std.specs.List.{enumerate_from, flat_map}
use Rattle.assembly_tree.specs.Room.{texts, room_of_texts}
use Rattle.assembly_tree.specs.Weight.{method_ref_weight}
use Rattle.assembly_tree.specs.declared.assembly.Assembly.{Assembly}
use Rattle.assembly_tree.specs.declared.members.Method.{Method}
use Rattle.image_rows.specs.AttributeRows.{attribute_bytes}
use Rattle.image_rows.specs.ClassRows.{class_rows, nested_rows, layout_rows}
use Rattle.image_members.specs.CodeBytes.{body_of, stated_weight, stated_room}
use Rattle.image_members.specs.ConstantRows.{constant_bytes}
use Rattle.image_members.specs.DataRows.{all_data, data_room}
use Rattle.image_members.specs.DeclaredMembers.{fields_bytes, methods_bytes}
use Rattle.image_members.specs.Declaring.{class_size}
use Rattle.image_rows.specs.EventRows.{event_bytes}
use Rattle.image_rows.specs.FieldRows.{offset_rows}
use Rattle.image_members.specs.GenericRows.{generic_bytes, bound_bytes, bounds_from}
use Rattle.image_rows.specs.InterfaceRows.{interfaces_from, interface_bytes, count_interfaces}
use Rattle.image_members.specs.Lists.{attribute_items, constant_items, accessor_items, generic_items, generics_in, params_in, properties_in, events_in}
use Rattle.image_members.specs.ManifestRows.{module_bytes, assembly_bytes, extern_bytes}
use Rattle.image_rows.specs.MapRows.{map_rows, event_count, property_count}
use Rattle.image_rows.specs.ParamRows.{param_bytes}
use Rattle.image_members.specs.Places.{all_fields, all_methods}
use Rattle.image_rows.specs.PropertyRows.{property_bytes}
use Rattle.image_rows.specs.TypeRows.{base_of, base_weight}
use Rattle.image_members.specs.declared.classes.Class.{Class}

-- ---- overrides, which stand with their methods

abbrev pub override_weight : Method → ℕ
override_weight m = sum_by method_ref_weight m.overrides

abbrev pub override_count : Method → ℕ
override_count m = length m.overrides

abbrev pub overrides_weight : List Method → ℕ
overrides_weight methods = sum_by override_weight methods

abbrev pub overrides_count : List Method → ℕ
overrides_count methods = sum_by override_count methods

-- ---- heaps and rows of references

-- the texts that are loaded; the names of types; names and signatures of fields and of methods
unfoldable pub declared_bytes : Assembly → List Class → ℕ
declared_bytes a classes = room_of_texts (texts a) + (10 + sum_by class_size classes) + (fields_bytes a classes + methods_bytes a classes)

unfoldable pub manifest_bytes : Assembly → ℕ
manifest_bytes a = module_bytes a.manifest + assembly_bytes a.manifest + sum_by extern_bytes a.externs

-- what bodies name, bases of types, and interfaces
unfoldable pub named_bytes : Assembly → List Class → ℕ
named_bytes a classes =
    sum_by stated_weight (map body_of (all_methods a classes)) + sum_by (λ c. base_weight (base_of c)) classes
    + sum_by interface_bytes (interfaces_from 2 classes)

-- parameters, overrides, events and properties
unfoldable pub member_bytes : Assembly → List Class → ℕ
member_bytes a classes =
    sum_by param_bytes (params_in a classes) + overrides_weight (all_methods a classes) + sum_by event_bytes (events_in classes)
    + sum_by property_bytes (properties_in classes)

-- what rows of several tables own
unfoldable pub owned_bytes : Assembly → List Class → ℕ
owned_bytes a classes =
    sum_by generic_bytes (generic_items a classes) + sum_by bound_bytes (bounds_from 1 (generics_in a classes))
    + sum_by constant_bytes (constant_items a classes) + sum_by attribute_bytes (attribute_items a classes)

abbrev pub heap_bytes : Assembly → List Class → ℕ
heap_bytes a classes =
    declared_bytes a classes + manifest_bytes a + named_bytes a classes + member_bytes a classes + owned_bytes a classes

-- ---- code

-- bodies and data
unfoldable pub code_bytes : Assembly → List Class → ℕ
code_bytes a classes = sum_by stated_room (map body_of (all_methods a classes)) + sum_by data_room (all_data 1 (all_fields a classes))

-- ---- rows, where each index has four bytes (II.24.2.6); those of references are counted with the heaps

-- Module 18, Assembly 28, AssemblyRef 28, and the TypeDef of `<Module>` 24
unfoldable pub manifest_row_bytes : Assembly → ℕ
manifest_row_bytes a = 18 + 28 + 28 * length a.externs + 24

-- TypeDef 24, InterfaceImpl 8, ClassLayout 10, NestedClass 8, EventMap 8, PropertyMap 8
unfoldable pub type_row_bytes : List Class → ℕ
type_row_bytes classes =
    24 * length classes + 8 * sum_by count_interfaces (interfaces_from 2 classes) + 10 * length (class_rows layout_rows classes)
    + 8 * length (class_rows nested_rows classes) + 8 * length (map_rows event_count (length (events_in classes)) 2 1 classes)
    + 8 * length (map_rows property_count (length (properties_in classes)) 2 1 classes)

-- Field 10, FieldLayout 8, FieldRVA 8
unfoldable pub field_row_bytes : Assembly → List Class → ℕ
field_row_bytes a classes =
    10 * length (all_fields a classes) + 8 * length (flat_map offset_rows (enumerate_from 1 (all_fields a classes)))
    + 8 * length (all_data 1 (all_fields a classes))

-- MethodDef 20, Param 8, MethodImpl 12
unfoldable pub method_row_bytes : Assembly → List Class → ℕ
method_row_bytes a classes =
    20 * length (all_methods a classes) + 8 * length (params_in a classes) + 12 * overrides_count (all_methods a classes)

-- Property 10, Event 10, MethodSemantics 10
unfoldable pub property_row_bytes : Assembly → List Class → ℕ
property_row_bytes a classes =
    10 * length (properties_in classes) + 10 * length (events_in classes) + 10 * length (accessor_items a classes)

-- GenericParam 12, GenericParamConstraint 8, Constant 10, CustomAttribute 12
unfoldable pub owned_row_bytes : Assembly → List Class → ℕ
owned_row_bytes a classes =
    12 * length (generic_items a classes) + 8 * length (bounds_from 1 (generics_in a classes)) + 10 * length (constant_items a classes)
    + 12 * length (attribute_items a classes)

abbrev pub row_bytes : Assembly → List Class → ℕ
row_bytes a classes =
    manifest_row_bytes a + type_row_bytes classes + field_row_bytes a classes + method_row_bytes a classes + property_row_bytes a classes
    + owned_row_bytes a classes
