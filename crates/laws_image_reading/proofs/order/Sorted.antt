-- Each table of a laid-out image that is sorted by columns stands in their order.
use Rattle.std.proofs.Common.{◌≡◌, ap, sym, subst, ℕ, ◌-◌, ◌<◌, ◌==◌, true, List, [], ◌∷◌, map, inl}
use Rattle.std.specs.List.{AllZip}
use Rattle.std.proofs.lemmas.Bool.{eqb-true, cond_both}
use Rattle.assembly_tree.specs.declared.assembly.Assembly.{Assembly}
use Rattle.assembly_tree.specs.declared.members.Attribute.{Attribute}
use Rattle.assembly_tree.specs.declared.members.Constant.{Constant}
use Rattle.assembly_tree.specs.declared.members.Generic.{Generic}
use Rattle.metadata_tables.specs.Order.{sort_columns, IsNotAfter}
use Rattle.metadata_tables.specs.Stream.{cell}
use Rattle.image_tokens.specs.declared.references.References.{References}
use Rattle.image_rows.specs.AttributeRows.{IsAttributeRow}
use Rattle.image_rows.specs.ClassRows.{class_rows, layout_rows, nested_rows}
use Rattle.image_members.specs.ConstantRows.{IsConstantRow}
use Rattle.image_members.specs.DataRows.{all_data, IsDataRow}
use Rattle.image_members.specs.DeclaredMembers.{owned, class_methods, IsMethodOf}
use Rattle.image_members.specs.GenericRows.{bounds_from, IsBoundRow, IsGenericRow}
use Rattle.image_rows.specs.InterfaceRows.{joined}
use Rattle.image_members.specs.Lists.{attribute_items, constant_items, accessor_items, generic_items, generics_in}
use Rattle.image_rows.specs.OverrideRows.{overrides_from, IsOverrideRow}
use Rattle.image_members.specs.Places.{all_fields, all_methods}
use Rattle.image_rows.specs.SemanticsRows.{semantics_row}
use Rattle.image_members.specs.declared.classes.Class.{Class}
use Rattle.image_model.specs.Columns.{interface_class, constant_parent, attribute_parent, layout_parent, offset_field, semantics_association, override_class, data_field, nested_class, generic_owner, generic_number, bound_parameter}
use Rattle.image_model.specs.Rows.{HasRow}
use Rattle.image_model.specs.Streams.{tables_of}
use Rattle.image_model.specs.Structure.{IsSorted}
use Rattle.laws_image_parts.specs.AtRows.{Reads}
use Rattle.laws_image_parts.specs.RowCells.{interface_cells, constant_cells, attribute_cells, layout_cells, offset_cells, semantics_cells, override_cells, data_cells, nested_cells, generic_cells, bound_cells}
use Rattle.laws_image_parts.specs.RowsRead.{IsMade, row_itself, ReadsRows}
use Rattle.laws_image_reading.proofs.order.ItemRising.{anything, never, cell_at, field_of, parameter_of, class_of, number_in, numbers_rise, layouts_rise, offsets_rise, data_rise, nested_rise, bounds_rise, interfaces_rise, overrides_rise, generics_rise, accessors_rise, constants_rise, attributes_rise}
use Rattle.laws_image_reading.proofs.order.NumberRising.{index_in}
use Rattle.laws_image_reading.proofs.order.Rising.{Rise}
use Rattle.laws_image_reading.proofs.order.RowOrder.{neighbours, one_column, strict_column, two_columns}

-- a column of a table is not lower than in the row before
abbrev ColumnSorted : List ℕ → ℕ → (ℕ → ℕ) → Type 0
ColumnSorted image table column = (row : ℕ) → 1 < row → HasRow image table row → IsNotAfter (column (row - 1) ∷ []) (column row ∷ [])

-- by the items of a table
sorted_by : {X : Type 0} (table : ℕ) (cells : List ℕ → ℕ → List ℕ) (IsRow : List ℕ → X → Type 0) (items : List X) (image : List ℕ) → Reads table cells IsRow items image
    → (column : ℕ → ℕ) (key : X → ℕ) → ((row : ℕ) (x : X) → IsRow (cells image row) x → column row ≡ key x) → (low : ℕ) → Rise key anything low items → ColumnSorted image table column
sorted_by table cells IsRow items image reads column key is low rise row behind there =
    one_column (λ n x. IsRow (cells image n) x) key anything column is row (neighbours table cells IsRow items image reads key anything low rise row behind there)

module _ (a : Assembly) (classes : List Class) (r : References) (code image : List ℕ) (h : ReadsRows a classes r code image) where
  interfaces_sorted : ColumnSorted image 0x09 (interface_class image)
  interfaces_sorted =
      let groups = h.types.interfaces.groups in
      sorted_by 0x09 interface_cells (IsMade row_itself) (joined groups) image h.types.interfaces.are (interface_class image) (cell_at 0) (λ row cells is. ap (cell_at 0) is) 2
      (interfaces_rise r 2 classes groups h.types.interfaces.each)

  constants_sorted : ColumnSorted image 0x0B (constant_parent image)
  constants_sorted =
      sorted_by 0x0B constant_cells (IsConstantRow r) (constant_items a classes) image h.owned.constants (constant_parent image) (index_in {X = Constant})
      (λ row x is. ap (cell_at 2) is.are) 0 (constants_rise a classes)

  attributes_sorted : ColumnSorted image 0x0C (attribute_parent image)
  attributes_sorted =
      sorted_by 0x0C attribute_cells (IsAttributeRow r) (attribute_items a classes) image h.owned.attributes (attribute_parent image) (index_in {X = Attribute})
      (λ row x is. ap (cell_at 0) is.are) 0 (attributes_rise a classes)

  layouts_sorted : ColumnSorted image 0x0F (layout_parent image)
  layouts_sorted =
      sorted_by 0x0F layout_cells (IsMade row_itself) (class_rows layout_rows classes) image h.types.layouts (layout_parent image) (cell_at 2) (λ row cells is. ap (cell_at 2) is) 2
      (layouts_rise classes)

  offsets_sorted : ColumnSorted image 0x10 (offset_field image)
  offsets_sorted =
      sorted_by 0x10 offset_cells (IsMade row_itself) _ image h.fields.offsets (offset_field image) (cell_at 1) (λ row cells is. ap (cell_at 1) is) 1
      (offsets_rise (all_fields a classes))

  semantics_sorted : ColumnSorted image 0x18 (semantics_association image)
  semantics_sorted =
      sorted_by 0x18 semantics_cells (IsMade semantics_row) (accessor_items a classes) image h.properties.accessors (semantics_association image) (index_in {X = ℕ × ℕ})
      (λ row x is. ap (cell_at 2) is) 0 (accessors_rise a classes)

  data_sorted : ColumnSorted image 0x1D (data_field image)
  data_sorted =
      sorted_by 0x1D data_cells (IsDataRow code) (all_data 1 (all_fields a classes)) image h.fields.contents (data_field image) field_of (λ row d is. ap (cell_at 1) is.are) 1
      (data_rise (all_fields a classes))

  bounds_sorted : ColumnSorted image 0x2C (bound_parameter image)
  bounds_sorted =
      sorted_by 0x2C bound_cells (IsBoundRow r) (bounds_from 1 (generics_in a classes)) image h.owned.bounds (bound_parameter image) parameter_of (λ row b is. ap (cell_at 0) is.are) 1
      (bounds_rise (generics_in a classes))

  -- no type is nested twice
  pub nested_rises : (row : ℕ) → 1 < row → HasRow image 0x29 row → nested_class image (row - 1) < nested_class image row
  nested_rises row behind there =
      strict_column (λ n cells. IsMade row_itself (nested_cells image n) cells) (cell_at 0) (nested_class image) (λ n cells is. ap (cell_at 0) is) row
      (neighbours 0x29 nested_cells (IsMade row_itself) (class_rows nested_rows classes) image h.types.nested (cell_at 0) never 2 (nested_rise classes) row behind there)

  nested_sorted : ColumnSorted image 0x29 (nested_class image)
  nested_sorted row behind there = inl (nested_rises row behind there)

  generics_sorted : (row : ℕ) → 1 < row → HasRow image 0x2A row
      → IsNotAfter (generic_owner image (row - 1) ∷ (generic_number image (row - 1) ∷ [])) (generic_owner image row ∷ (generic_number image row ∷ []))
  generics_sorted row behind there =
      two_columns (λ n x. IsGenericRow r (generic_cells image n) x) (index_in {X = ℕ × Generic}) number_in (generic_owner image) (generic_number image)
      (λ n x is. ap (cell_at 2) is.are) (λ n x is. ap (cell_at 0) is.are) row
      (neighbours 0x2A generic_cells (IsGenericRow r) (generic_items a classes) image h.owned.generics (index_in {X = ℕ × Generic}) numbers_rise 0 (generics_rise a classes) row behind there)

  module _ (declared : AllZip (IsMethodOf r) r.declared.methods (owned 1 (a.methods ∷ map class_methods classes))) where
    overrides_sorted : ColumnSorted image 0x19 (override_class image)
    overrides_sorted =
        sorted_by 0x19 override_cells (IsOverrideRow r) (overrides_from 1 r.declared.methods (all_methods a classes)) image h.methods.overrides (override_class image) class_of
        (λ row o is. ap (cell_at 0) is.are) 1 (overrides_rise r (a.methods ∷ map class_methods classes) (all_methods a classes) declared)

    -- ---- all tables

    abbrev AreSorted : ℕ → ℕ → List ℕ → Type 0
    AreSorted table row columns = IsNotAfter (map (cell (tables_of image) table (row - 1)) columns) (map (cell (tables_of image) table row) columns)

    -- the columns of one table
    at_table : (n table row : ℕ) (columns : List ℕ) → ((row : ℕ) → 1 < row → HasRow image n row → AreSorted n row columns) → 1 < row → HasRow image table row
        → (table == n) ≡ true → AreSorted table row columns
    at_table n table row columns sorted behind there is =
        let same : n ≡ table = sym (eqb-true table n is) in
        subst (λ t. 1 < row → HasRow image t row → AreSorted t row columns) same (sorted row) behind there

    pub sorted : (table row : ℕ) → IsSorted image table row
    unfolding sort_columns
    sorted table row behind there =
        let P = AreSorted table row in
        cond_both (table == 0x09) _ _ P (at_table 0x09 table row (0 ∷ []) interfaces_sorted behind there) (λ e.
        cond_both (table == 0x0B) _ _ P (at_table 0x0B table row (2 ∷ []) constants_sorted behind there) (λ e.
        cond_both (table == 0x0C) _ _ P (at_table 0x0C table row (0 ∷ []) attributes_sorted behind there) (λ e.
        cond_both (table == 0x0F) _ _ P (at_table 0x0F table row (2 ∷ []) layouts_sorted behind there) (λ e.
        cond_both (table == 0x10) _ _ P (at_table 0x10 table row (1 ∷ []) offsets_sorted behind there) (λ e.
        cond_both (table == 0x18) _ _ P (at_table 0x18 table row (2 ∷ []) semantics_sorted behind there) (λ e.
        cond_both (table == 0x19) _ _ P (at_table 0x19 table row (0 ∷ []) overrides_sorted behind there) (λ e.
        cond_both (table == 0x1D) _ _ P (at_table 0x1D table row (1 ∷ []) data_sorted behind there) (λ e.
        cond_both (table == 0x29) _ _ P (at_table 0x29 table row (0 ∷ []) nested_sorted behind there) (λ e.
        cond_both (table == 0x2A) _ _ P (at_table 0x2A table row (2 ∷ (0 ∷ [])) generics_sorted behind there) (λ e.
        cond_both (table == 0x2C) _ [] P (at_table 0x2C table row (0 ∷ []) bounds_sorted behind there) (λ e. tt)))))))))))
