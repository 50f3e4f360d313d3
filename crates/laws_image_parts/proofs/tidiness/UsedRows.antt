-- The indexes of heaps that rows have are in use, kind of row by kind of row.
use Rattle.std.proofs.Common.{◌≡◌, sym, ap, subst, ℕ, zero, suc, ◌<◌, List, [], ◌∷◌, length, inl, inr, arith}
use Rattle.std.specs.Prelude.{⊤, Contains, slice_index, slice_index_or}
use Rattle.std.specs.List.{AllByRecursion}
use Rattle.assembly_tree.specs.declared.assembly.ExternAssembly.{ExternAssembly}
use Rattle.assembly_tree.specs.declared.assembly.Manifest.{Manifest}
use Rattle.assembly_tree.specs.declared.members.Attribute.{Attribute}
use Rattle.assembly_tree.specs.declared.members.Constant.{Constant}
use Rattle.assembly_tree.specs.declared.members.Event.{Event}
use Rattle.assembly_tree.specs.declared.members.Field.{Field}
use Rattle.assembly_tree.specs.declared.members.Generic.{Generic}
use Rattle.assembly_tree.specs.declared.members.Param.{Param}
use Rattle.assembly_tree.specs.declared.members.Property.{Property}
use Rattle.metadata_tables.specs.Encoding.{rows_of}
use Rattle.metadata_tables.specs.Schema.{schema, columns_of}
use Rattle.metadata_tables.specs.declared.schema.Column.{Column}
use Rattle.metadata_tables.specs.declared.schema.Column.TheVariants.{Number, Strings, Guids, Blobs, Row, Run, Tagged}
use Rattle.image_tokens.specs.References.{IsNameRow, IsSpecRow, IsLocalsRow, IsMemberSignature, IsReferredMember, IsInstanceRow}
use Rattle.image_tokens.specs.declared.references.References.{References}
use Rattle.image_tokens.specs.declared.row_set.Cells.{Cells}
use Rattle.image_rows.specs.AttributeRows.{IsAttributeRow}
use Rattle.image_members.specs.ConstantRows.{IsConstantRow}
use Rattle.image_rows.specs.EventRows.{IsEventRow}
use Rattle.image_rows.specs.FieldRows.{IsFieldRow}
use Rattle.image_rows.specs.Filled.{three_cells, two_cells, first_cell}
use Rattle.image_members.specs.GenericRows.{IsGenericRow}
use Rattle.image_members.specs.ManifestRows.{IsModuleRow, IsAssemblyRow, IsExternRow}
use Rattle.image_rows.specs.MethodRows.{PlacedMethod, IsMethodRow}
use Rattle.image_rows.specs.ParamRows.{IsParamRow}
use Rattle.image_rows.specs.PropertyRows.{IsPropertyRow}
use Rattle.image_members.specs.Pushing.{Tables}
use Rattle.image_rows.specs.TypeRows.{Numbered, IsModuleType, IsTypeDefRow}
use Rattle.laws_image_parts.specs.tidiness.InUse.{IsInUse, AreInUse}
use Rattle.laws_image_parts.proofs.tidiness.ListLemmas.{all_get}

-- the cells of a row, one after another
abbrev pub CellsInUse : References → List Column → List ℕ → Type 0
CellsInUse r [] [] = ⊤
CellsInUse r [] (cell ∷ cells) = ⊥
CellsInUse r (column ∷ columns) [] = ⊥
CellsInUse r (column ∷ columns) (cell ∷ cells) = IsInUse r column cell × CellsInUse r columns cells

-- columns without indexes of heaps
abbrev pub HasNoHeap : Column → Type 0
HasNoHeap (Number bytes) = ⊤
HasNoHeap (Strings nil) = ⊥
HasNoHeap (Guids nil) = ⊥
HasNoHeap (Blobs nil) = ⊥
HasNoHeap (Row table) = ⊤
HasNoHeap (Run table) = ⊤
HasNoHeap (Tagged kind nil) = ⊤

module _ (r : References) (tables : Tables) where
  cells_at : (columns : List Column) (cells : List ℕ) (k : ℕ) → CellsInUse r columns cells → k < length columns
      → IsInUse r (slice_index_or columns k (Number 0)) (slice_index cells k)
  cells_at [] cells k all h = absurd (omega arith)
  cells_at (c ∷ columns) [] k all h = absurd all
  cells_at (c ∷ columns) (x ∷ cells) zero all h = all.0
  cells_at (c ∷ columns) (x ∷ cells) (suc k) all h = cells_at columns cells k all.1 (omega arith)

  pub by_rows : (table : ℕ) → AllByRecursion (CellsInUse r (columns_of table)) (rows_of tables table) → AreInUse r tables table
  by_rows table all row column in_row in_column =
      cells_at (columns_of table) (slice_index_or (rows_of tables table) row []) column
      (all_get (CellsInUse r (columns_of table)) (rows_of tables table) row [] all in_row) in_column

  no_heap : (column : Column) (cell : ℕ) → HasNoHeap column → IsInUse r column cell
  no_heap (Number bytes) cell h = tt
  no_heap (Strings nil) cell h = absurd h
  no_heap (Guids nil) cell h = absurd h
  no_heap (Blobs nil) cell h = absurd h
  no_heap (Row table) cell h = tt
  no_heap (Run table) cell h = tt
  no_heap (Tagged kind nil) cell h = tt

  pub without_heaps : (table : ℕ) → AllByRecursion HasNoHeap (columns_of table) → AreInUse r tables table
  without_heaps table all row column in_row in_column = no_heap _ _ (all_get HasNoHeap (columns_of table) column (Number 0) all in_column)

module _ (r : References) where
  abbrev pub In : ℕ → List ℕ → Type 0
  In table cells = CellsInUse r (columns_of table) cells

  -- ---- rows of what is declared

  pub module_in : (cells : List ℕ) (m : Manifest) → IsModuleRow r cells m → In 0x00 cells
  unfolding schema
  module_in cells m h = subst (In 0x00) (sym h.are) (tt, (h.name_is.used, (omega arith, (omega arith, (omega arith, tt)))))

  pub module_type_in : (fields methods : ℕ) (cells : List ℕ) → IsModuleType fields methods r cells → In 0x02 cells
  unfolding schema
  module_type_in fields methods cells h = subst (In 0x02) (sym h.are) (tt, (h.id_is.name_is.used, (h.id_is.space_is.used, (tt, (tt, (tt, tt))))))

  pub type_in : (fields methods : ℕ) (cells : List ℕ) (n : Numbered) → IsTypeDefRow fields methods r cells n → In 0x02 cells
  unfolding schema
  type_in fields methods cells n h = subst (In 0x02) (sym h.are) (tt, (h.id_is.name_is.used, (h.id_is.space_is.used, (tt, (tt, (tt, tt))))))

  pub field_in : (cells : List ℕ) (f : Field) → IsFieldRow r cells f → In 0x04 cells
  unfolding schema
  field_in cells f h = subst (In 0x04) (sym h.are) (tt, (h.name_is.used, (h.signature_is.holds.used, tt)))

  pub method_in : (params : ℕ) (cells : List ℕ) (p : PlacedMethod) → IsMethodRow params r cells p → In 0x06 cells
  unfolding schema
  method_in params cells p h = subst (In 0x06) (sym h.are) (tt, (tt, (tt, (h.name_is.used, (h.signature_is.holds.used, (tt, tt))))))

  pub param_in : (cells : List ℕ) (p : Param) → IsParamRow r cells p → In 0x08 cells
  unfolding schema
  param_in cells p h = subst (In 0x08) (sym h.are) (tt, (tt, (h.name_is.used, tt)))

  pub constant_in : (cells : List ℕ) (c : ℕ × Constant) → IsConstantRow r cells c → In 0x0B cells
  unfolding schema
  constant_in cells c h = subst (In 0x0B) (sym h.are) (tt, (tt, (tt, (h.value_is.used, tt))))

  pub attribute_in : (cells : List ℕ) (a : ℕ × Attribute) → IsAttributeRow r cells a → In 0x0C cells
  unfolding schema
  attribute_in cells a h = subst (In 0x0C) (sym h.are) (tt, (tt, (h.value_is.used, tt)))

  pub event_in : (cells : List ℕ) (e : Event) → IsEventRow r cells e → In 0x14 cells
  unfolding schema
  event_in cells e h = subst (In 0x14) (sym h.are) (tt, (h.name_is.used, (tt, tt)))

  pub property_in : (cells : List ℕ) (p : Property) → IsPropertyRow r cells p → In 0x17 cells
  unfolding schema
  property_in cells p h = subst (In 0x17) (sym h.are) (tt, (h.name_is.used, (h.signature_is.holds.used, tt)))

  pub assembly_in : (cells : List ℕ) (m : Manifest) → IsAssemblyRow r cells m → In 0x20 cells
  unfolding schema
  assembly_in cells m h = subst (In 0x20) (sym h.are) (tt, (tt, (tt, (tt, (tt, (tt, (h.key_is.used, (h.name_is.used, (h.culture_is.used, tt)))))))))

  pub extern_in : (cells : List ℕ) (e : ExternAssembly) → IsExternRow r cells e → In 0x23 cells
  unfolding schema
  extern_in cells e h = subst (In 0x23) (sym h.are) (tt, (tt, (tt, (tt, (tt, (h.key_is.used, (h.name_is.used, (h.culture_is.used, (h.hash_is.used, tt)))))))))

  pub generic_in : (cells : List ℕ) (g : ℕ × (ℕ × Generic)) → IsGenericRow r cells g → In 0x2A cells
  unfolding schema
  generic_in cells g h = subst (In 0x2A) (sym h.are) (tt, (tt, (tt, (h.name_is.used, tt))))

  -- ---- rows of references

  pub name_in : (c : Cells) → IsNameRow r c → In 0x01 (three_cells c)
  unfolding schema
  name_in c n = (tt, (n.lies.path.id_is.name_is.used, (n.lies.path.id_is.space_is.used, tt)))

  signature_used : (blob : ℕ) → IsMemberSignature r blob → Contains r.heaps.blobs.used blob
  signature_used blob (inl s) = s.1.holds.used
  signature_used blob (inr s) = s.1.holds.used

  pub member_in : (c : Cells) → IsReferredMember r c → In 0x0A (three_cells c)
  unfolding schema
  member_in c m = (tt, (m.name_is.used, (signature_used c.third m.signature, tt)))

  first_used : (c : Cells) (blob : ℕ) → c.first ≡ blob → Contains r.heaps.blobs.used blob → Contains r.heaps.blobs.used c.first
  first_used c blob e used = subst (Contains r.heaps.blobs.used) (sym e) used

  pub locals_in : (c : Cells) → IsLocalsRow r c → In 0x11 (first_cell c)
  unfolding schema
  locals_in c s = (first_used c s.blob (ap (λ (d : Cells). d.first) s.are) s.signature.holds.used, tt)

  pub spec_in : (c : Cells) → IsSpecRow r c → In 0x1B (first_cell c)
  unfolding schema
  spec_in c s = (first_used c s.blob (ap (λ (d : Cells). d.first) s.are) s.signature.holds.used, tt)

  pub instance_in : (c : Cells) → IsInstanceRow r c → In 0x2B (two_cells c)
  unfolding schema
  instance_in c i = (tt, (i.signature.holds.used, tt))
