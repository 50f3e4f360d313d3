-- All that an image is made of is no longer than its assembly's weight, with room for headers and for what fills up.
use Rattle.std.proofs.Common.{◌≡◌, ℕ, ◌+◌, ◌*◌, ◌≤◌, List, length, arith}
use Rattle.assembly_tree.specs.Weight.{weight_of}
use Rattle.assembly_tree.specs.declared.assembly.Assembly.{Assembly}
use Rattle.metadata_tables.specs.Encoding.{rows_in}
use Rattle.metadata_tables.specs.Schema.{schema}
use Rattle.image_layout.specs.Sizes.{heap_bytes, rows_bytes, stream_bytes, widest_row}
use Rattle.image_tokens.specs.References.{size}
use Rattle.image_tokens.specs.declared.references.References.{References}
use Rattle.image_rows.specs.Filled.{IsFilled}
use Rattle.image_members.specs.Pushing.{Tables}
use Rattle.image_members.specs.declared.classes.Class.{Class}
use Rattle.laws_tree_weights.specs.ImageBytes as tree
use Rattle.laws_tree_weights.specs.ImageBytes.{code_bytes, manifest_row_bytes, type_row_bytes, field_row_bytes, method_row_bytes, property_row_bytes, owned_row_bytes, row_bytes}
use Rattle.laws_tree_weights.specs.Laws.{WeightIsEnough}
use Rattle.laws_tree_weights.specs.RowCounts.{HasCounted, HasReferencesCounted, FilledIsCounted}

-- the widths of the rows of all tables
rows_sum : (tables : Tables) → rows_bytes tables 0x2D
    ≡ 18 * rows_in tables 0x00 + 12 * rows_in tables 0x01 + 24 * rows_in tables 0x02 + 10 * rows_in tables 0x04 + 20 * rows_in tables 0x06 + 8 * rows_in tables 0x08
    + 8 * rows_in tables 0x09 + 12 * rows_in tables 0x0A + 10 * rows_in tables 0x0B + 12 * rows_in tables 0x0C + 10 * rows_in tables 0x0F + 8 * rows_in tables 0x10
    + 4 * rows_in tables 0x11 + 8 * rows_in tables 0x12 + 10 * rows_in tables 0x14 + 8 * rows_in tables 0x15 + 10 * rows_in tables 0x17 + 10 * rows_in tables 0x18
    + 12 * rows_in tables 0x19 + 4 * rows_in tables 0x1B + 8 * rows_in tables 0x1D + 28 * rows_in tables 0x20 + 28 * rows_in tables 0x23 + 8 * rows_in tables 0x29
    + 12 * rows_in tables 0x2A + 8 * rows_in tables 0x2B + 8 * rows_in tables 0x2C
unfolding rows_bytes widest_row schema
rows_sum tables = omega arith

manifest_fits : (a : Assembly) (classes : List Class) (tables : Tables) → HasCounted a classes tables
    → 18 * rows_in tables 0x00 + 28 * rows_in tables 0x20 + 28 * rows_in tables 0x23 + 24 ≤ manifest_row_bytes a
unfolding manifest_row_bytes
manifest_fits a classes tables h = omega (arith, h.module_rows, h.assembly_rows, h.externs)

types_fit : (a : Assembly) (classes : List Class) (tables : Tables) → HasCounted a classes tables
    → 24 * rows_in tables 0x02 + 8 * rows_in tables 0x09 + 10 * rows_in tables 0x0F + 8 * rows_in tables 0x29 + 8 * rows_in tables 0x12 + 8 * rows_in tables 0x15
    ≤ 24 + type_row_bytes classes
unfolding type_row_bytes
types_fit a classes tables h = omega (arith, h.types, h.interfaces, h.layouts, h.nested, h.event_map, h.property_map)

fields_fit : (a : Assembly) (classes : List Class) (tables : Tables) → HasCounted a classes tables
    → 10 * rows_in tables 0x04 + 8 * rows_in tables 0x10 + 8 * rows_in tables 0x1D ≤ field_row_bytes a classes
unfolding field_row_bytes
fields_fit a classes tables h = omega (arith, h.fields, h.offsets, h.contents)

methods_fit : (a : Assembly) (classes : List Class) (tables : Tables) → HasCounted a classes tables
    → 20 * rows_in tables 0x06 + 8 * rows_in tables 0x08 + 12 * rows_in tables 0x19 ≤ method_row_bytes a classes
unfolding method_row_bytes
methods_fit a classes tables h = omega (arith, h.methods, h.params, h.overrides)

properties_fit : (a : Assembly) (classes : List Class) (tables : Tables) → HasCounted a classes tables
    → 10 * rows_in tables 0x17 + 10 * rows_in tables 0x14 + 10 * rows_in tables 0x18 ≤ property_row_bytes a classes
unfolding property_row_bytes
properties_fit a classes tables h = omega (arith, h.properties, h.events, h.accessors)

owned_fit : (a : Assembly) (classes : List Class) (tables : Tables) → HasCounted a classes tables
    → 12 * rows_in tables 0x2A + 8 * rows_in tables 0x2C + 10 * rows_in tables 0x0B + 12 * rows_in tables 0x0C ≤ owned_row_bytes a classes
unfolding owned_row_bytes
owned_fit a classes tables h = omega (arith, h.generics, h.bounds, h.constants, h.attributes)

-- the rows of references are counted in the size
references_fit : (r : References) (tables : Tables) → HasReferencesCounted r tables
    → heap_bytes r + 12 * rows_in tables 0x01 + 12 * rows_in tables 0x0A + 4 * rows_in tables 0x11 + 4 * rows_in tables 0x1B + 8 * rows_in tables 0x2B ≤ size r
unfolding heap_bytes size
references_fit r tables h = omega (arith, h.names, h.members, h.locals, h.specs, h.instances)

rows_fit : (a : Assembly) (classes : List Class) (r : References) (tables : Tables) → HasCounted a classes tables → HasReferencesCounted r tables
    → heap_bytes r + stream_bytes tables ≤ size r + row_bytes a classes + 280
unfolding stream_bytes
rows_fit a classes r tables h k =
    omega (
      arith,
      rows_sum tables,
      manifest_fits a classes tables h,
      types_fit a classes tables h,
      fields_fit a classes tables h,
      methods_fit a classes tables h,
      properties_fit a classes tables h,
      owned_fit a classes tables h,
      references_fit r tables k,
    )

-- by the laws of the weight: 3 for the first entries of heaps
pub fits : WeightIsEnough → FilledIsCounted → (a : Assembly) (classes : List Class) (r : References) (tables : Tables) (code : List ℕ)
    → IsFilled a classes r tables code → size r ≤ 3 + tree.heap_bytes a classes → length code ≤ code_bytes a classes
    → length code + heap_bytes r + stream_bytes tables + 19600 ≤ weight_of a
fits enough counted a classes r tables code filled small short =
    let both = counted a classes r tables code filled in
    let rows = rows_fit a classes r tables both.0 both.1 in
    let total = enough a classes filled.classes_are in
    omega arith
