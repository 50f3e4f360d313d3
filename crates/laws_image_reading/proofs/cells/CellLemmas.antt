-- The cells of a row that is made, each by its column. What is asked of a text that must not be nil is a parameter.
use Rattle.std.proofs.Common.{◌≡◌, ◌⊎◌, inl, inr, refl, sym, ap, subst, ℕ, zero, suc, ◌<◌, Bool, true, false, List, [], ◌∷◌, map, length, Some, arith}
use Rattle.std.specs.Prelude.{⊤, slice_index, slice_index_or}
use Rattle.std.specs.List.{AllByRecursion}
use Rattle.heaps.specs.Content.{HasText, HasBlob}
use Rattle.metadata_tables.specs.CodedIndex.{tag_of}
use Rattle.metadata_tables.specs.Encoding.{rows_of, rows_in, cell_of}
use Rattle.metadata_tables.specs.Indexes.{run_cell}
use Rattle.metadata_tables.specs.Schema.{columns_of}
use Rattle.metadata_tables.specs.Stream.{column_of}
use Rattle.metadata_tables.specs.declared.coded.Coded.{Coded}
use Rattle.metadata_tables.specs.declared.schema.Column.{Column}
use Rattle.metadata_tables.specs.declared.schema.Column.TheVariants.{Number, Strings, Guids, Blobs, Row, Run, Tagged}
use Rattle.sig_codec.specs.Spelling.{Notation}
use Rattle.image_tokens.specs.Blobs.{HoldsBlob}
use Rattle.image_tokens.specs.Indexes.{index_of}
use Rattle.image_tokens.specs.References.{HasSignature}
use Rattle.image_tokens.specs.Rows.{EachRow}
use Rattle.image_tokens.specs.Texts.{HoldsText}
use Rattle.image_tokens.specs.declared.references.References.{References}
use Rattle.image_tokens.specs.declared.row_set.Cells.{Cells}
use Rattle.image_members.specs.Pushing.{Tables}

-- ---- what is asked of a cell

-- a text stands in a heap, and is as asked where the column may not be nil
pub record IsTextCell (Wanted : List ℕ → Type 0) (heap : List ℕ) (nil : Bool) (cell : ℕ) : Type 0 where
  pub text : List ℕ
  pub there : HasText heap cell text
  pub wanted : (nil ≡ true) ⊎ Wanted text

-- a coded index names a row, counted from 1, of a table that it can name
pub record Points (kind : Coded) (cell : ℕ) : Type 0 where
  pub table : ℕ
  pub row : ℕ
  pub tag : ℕ
  pub tagged : tag_of kind table ≡ Some tag
  pub is : cell ≡ index_of kind table row
  pub some : 0 < row

-- a run begins at a row, counted from 1
pub record Begins (count cell : ℕ) : Type 0 where
  pub row : ℕ
  pub is : cell ≡ run_cell count row
  pub some : 0 < row

module _ (Wanted : List ℕ → Type 0) (r : References) (tables : Tables) where
  -- of a cell, by its column, whatever the rows of other tables are
  abbrev pub IsCell : Column → ℕ → Type 0
  IsCell (Number bytes) cell = ⊤
  IsCell (Strings nil) cell = IsTextCell Wanted r.heaps.strings.bytes nil cell
  IsCell (Guids nil) cell = ((nil ≡ true) × (cell ≡ 0)) ⊎ (cell ≡ 1)
  IsCell (Blobs nil) cell = (blob : List ℕ) × HasBlob r.heaps.blobs.bytes cell blob
  IsCell (Row table) cell = 0 < cell
  IsCell (Run table) cell = Begins (rows_in tables table) cell
  IsCell (Tagged kind nil) cell = ((nil ≡ true) × (cell ≡ 0)) ⊎ Points kind cell

  -- of the cells of a row, one after another
  abbrev pub AreCells : List Column → List ℕ → Type 0
  AreCells [] [] = ⊤
  AreCells [] (cell ∷ cells) = ⊥
  AreCells (column ∷ columns) [] = ⊥
  AreCells (column ∷ columns) (cell ∷ cells) = IsCell column cell × AreCells columns cells

  -- of the cells of a table
  abbrev pub HasCells : ℕ → Type 0
  HasCells table =
      (row column : ℕ) → row < rows_in tables table → column < length (columns_of table) → IsCell (column_of table column) (cell_of tables table row column)

  cell_at : (columns : List Column) (cells : List ℕ) (k : ℕ) → AreCells columns cells → k < length columns → IsCell (slice_index_or columns k (Number 0)) (slice_index cells k)
  cell_at [] cells k all h = absurd (omega arith)
  cell_at (c ∷ columns) [] k all h = absurd all
  cell_at (c ∷ columns) (x ∷ cells) zero all h = all.0
  cell_at (c ∷ columns) (x ∷ cells) (suc k) all h = cell_at columns cells k all.1 (omega arith)

  row_at : (columns : List Column) (rows : List (List ℕ)) (k : ℕ) → AllByRecursion (AreCells columns) rows → k < length rows → AreCells columns (slice_index_or rows k [])
  row_at columns [] k all h = absurd (omega arith)
  row_at columns (x ∷ rows) zero all h = all.0
  row_at columns (x ∷ rows) (suc k) all h = row_at columns rows k all.1 (omega arith)

  pub each_cell : (table : ℕ) → AllByRecursion (AreCells (columns_of table)) (rows_of tables table) → HasCells table
  each_cell table all row column in_row in_column =
      cell_at (columns_of table) (slice_index_or (rows_of tables table) row []) column (row_at (columns_of table) (rows_of tables table) row all in_row) in_column

  -- ---- cells of heaps

  pub named : (text : List ℕ) (index : ℕ) → HoldsText r.heaps.strings text index → Wanted text → IsCell (Strings false) index
  named text index h w = record { text = text; there = h.there; wanted = inr w }

  pub any_text : (text : List ℕ) (index : ℕ) → HoldsText r.heaps.strings text index → IsCell (Strings true) index
  any_text text index h = record { text = text; there = h.there; wanted = inl refl }

  pub blob_cell : (blob : List ℕ) (index : ℕ) → HoldsBlob r.heaps.blobs blob index → (held : List ℕ) × HasBlob r.heaps.blobs.bytes index held
  blob_cell blob index h = (blob, h.there)

  pub signature_cell : {X : Type 0} (Spells : Notation → X → List ℕ → Type 0) (x : X) (index : ℕ) → HasSignature Spells r x index
      → (held : List ℕ) × HasBlob r.heaps.blobs.bytes index held
  signature_cell Spells x index h = (h.bytes, h.holds.there)

  -- ---- runs

  pub begins : (table count row : ℕ) → count ≡ rows_in tables table → 0 < row → Begins (rows_in tables table) (run_cell count row)
  begins table count row e some = record { row = row; is = ap (λ n. run_cell n row) e; some = some }

-- ---- rows of references

each_row : (P Q : Cells → Type 0) (rows : List Cells) → EachRow P rows → EachRow Q rows → AllByRecursion (λ c. P c × Q c) rows
each_row P Q [] h k = tt
each_row P Q (x ∷ rows) h k = ((h 0 x refl, k 0 x refl), each_row P Q rows (λ j c at. h (suc j) c at) (λ j c at. k (suc j) c at))

-- the rows of a table, each as it was made
pub rows_from : (In : List ℕ → Type 0) (P Q : Cells → Type 0) (cells : Cells → List ℕ) (made : List Cells) (rows : List (List ℕ)) → rows ≡ map cells made
    → ((c : Cells) → P c → Q c → In (cells c)) → EachRow P made → EachRow Q made → AllByRecursion In rows
rows_from In P Q cells made rows e f h k = subst (AllByRecursion In) (sym e) (go made (each_row P Q made h k)) where
  go : (cs : List Cells) → AllByRecursion (λ c. P c × Q c) cs → AllByRecursion In (map cells cs)
  go [] all = tt
  go (c ∷ cs) all = (f c all.0.0 all.0.1, go cs all.1)
