-- How many rows each table has that an image is made of (ECMA-335 II.22).
use Rattle.std.specs.Prelude.{ℕ, ◌+◌, ◌≤◌, List, length, sum_by}
use Rattle.std.specs.List.{enumerate_from, flat_map}
use Rattle.assembly_tree.specs.declared.assembly.Assembly.{Assembly}
use Rattle.metadata_tables.specs.Encoding.{rows_in}
use Rattle.image_tokens.specs.declared.references.References.{References}
use Rattle.image_rows.specs.ClassRows.{class_rows, nested_rows, layout_rows}
use Rattle.image_members.specs.DataRows.{all_data}
use Rattle.image_rows.specs.FieldRows.{offset_rows}
use Rattle.image_rows.specs.Filled.{IsFilled}
use Rattle.image_members.specs.GenericRows.{bounds_from}
use Rattle.image_rows.specs.InterfaceRows.{interfaces_from, count_interfaces}
use Rattle.image_members.specs.Lists.{attribute_items, constant_items, accessor_items, generic_items, generics_in, params_in, properties_in, events_in}
use Rattle.image_rows.specs.MapRows.{map_rows, event_count, property_count}
use Rattle.image_members.specs.Places.{all_fields, all_methods}
use Rattle.image_members.specs.Pushing.{Tables}
use Rattle.image_members.specs.declared.classes.Class.{Class}
use Rattle.laws_tree_weights.specs.ImageBytes.{overrides_count}

-- the manifest, and types with their members
pub record HasCounted (a : Assembly) (classes : List Class) (tables : Tables) : Type 0 where
  pub module_rows : rows_in tables 0x00 ≤ 1
  pub assembly_rows : rows_in tables 0x20 ≤ 1
  pub externs : rows_in tables 0x23 ≤ length a.externs
  pub types : rows_in tables 0x02 ≤ 1 + length classes
  pub interfaces : rows_in tables 0x09 ≤ sum_by count_interfaces (interfaces_from 2 classes)
  pub layouts : rows_in tables 0x0F ≤ length (class_rows layout_rows classes)
  pub nested : rows_in tables 0x29 ≤ length (class_rows nested_rows classes)
  pub event_map : rows_in tables 0x12 ≤ length (map_rows event_count (length (events_in classes)) 2 1 classes)
  pub property_map : rows_in tables 0x15 ≤ length (map_rows property_count (length (properties_in classes)) 2 1 classes)
  pub fields : rows_in tables 0x04 ≤ length (all_fields a classes)
  pub offsets : rows_in tables 0x10 ≤ length (flat_map offset_rows (enumerate_from 1 (all_fields a classes)))
  pub contents : rows_in tables 0x1D ≤ length (all_data 1 (all_fields a classes))
  pub methods : rows_in tables 0x06 ≤ length (all_methods a classes)
  pub params : rows_in tables 0x08 ≤ length (params_in a classes)
  pub overrides : rows_in tables 0x19 ≤ overrides_count (all_methods a classes)
  pub properties : rows_in tables 0x17 ≤ length (properties_in classes)
  pub events : rows_in tables 0x14 ≤ length (events_in classes)
  pub accessors : rows_in tables 0x18 ≤ length (accessor_items a classes)
  pub generics : rows_in tables 0x2A ≤ length (generic_items a classes)
  pub bounds : rows_in tables 0x2C ≤ length (bounds_from 1 (generics_in a classes))
  pub constants : rows_in tables 0x0B ≤ length (constant_items a classes)
  pub attributes : rows_in tables 0x0C ≤ length (attribute_items a classes)

-- references
pub record HasReferencesCounted (r : References) (tables : Tables) : Type 0 where
  pub names : rows_in tables 0x01 ≤ length r.referred.names
  pub members : rows_in tables 0x0A ≤ length r.referred.members
  pub locals : rows_in tables 0x11 ≤ length r.referred.locals
  pub specs : rows_in tables 0x1B ≤ length r.referred.specs
  pub instances : rows_in tables 0x2B ≤ length r.referred.instances

-- no table has more rows than what it holds
abbrev pub FilledIsCounted : Type 0
FilledIsCounted =
    (a : Assembly) (classes : List Class) (r : References) (tables : Tables) (code : List ℕ) → IsFilled a classes r tables code
    → HasCounted a classes tables × HasReferencesCounted r tables
