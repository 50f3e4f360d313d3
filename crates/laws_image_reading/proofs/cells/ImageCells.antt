-- The cells of an image, by those of the rows that it was made of.
use Rattle.std.proofs.Common.{◌≡◌, ◌≢◌, ◌⊎◌, inl, inr, refl, sym, ◌∙◌, ap, subst, ℕ, zero, suc, ◌+◌, ◌-◌, ◌*◌, ◌^◌, ◌<◌, ◌≤◌, ◌==◌, ◌&&◌, true, false, cond, List, [], length, Option, Some, None, arith}
use Rattle.std.specs.Option.{option_map, option_map_or}
use Rattle.std.proofs.lemmas.Bool.{cases_Bool, eqb-true}
use Rattle.heaps.specs.Content.{HasGuid}
use Rattle.metadata_tables.specs.CodedIndex.{tag_of, tag_bits, packed, unpacked}
use Rattle.metadata_tables.specs.Encoding.{rows_in, cell_of}
use Rattle.metadata_tables.specs.Indexes.{IndexesFit, run_cell, run_row}
use Rattle.metadata_tables.specs.Schema.{columns_of}
use Rattle.metadata_tables.specs.Stream.{column_of, cell}
use Rattle.metadata_tables.specs.declared.coded.Coded.{Coded}
use Rattle.metadata_tables.specs.declared.coded.Coded.TheVariants.{TypeDefOrRef, HasConstant, HasCustomAttribute, MemberRefParent, HasSemantics, MethodDefOrRef, CustomAttributeType, ResolutionScope, TypeOrMethodDef}
use Rattle.metadata_tables.specs.declared.schema.Column.{Column}
use Rattle.metadata_tables.specs.declared.schema.Column.TheVariants.{Number, Strings, Guids, Blobs, Row, Run, Tagged}
use Rattle.laws_image_parts.proofs.IndexLemmas.{index_is, index_names, index_apart}
use Rattle.image_layout.specs.Indexes as made
use Rattle.image_layout.specs.Indexes.{BeginsRun, IsIndexIn, HasIndexesIn}
use Rattle.image_layout.specs.Laws.{ReadsTables, ReadsHeaps}
use Rattle.image_model.specs.Cells.{NamesRow, IsIndex, HasIndexes, IsEntry, HasEntries}
use Rattle.image_model.specs.Rows.{count_of, HasRow}
use Rattle.image_model.specs.Streams.{tables_of, guids_of}
use Rattle.image_tokens.specs.Indexes.{index_of}
use Rattle.image_tokens.specs.declared.references.References.{References}
use Rattle.image_members.specs.Pushing.{Tables}
use Rattle.laws_image_reading.proofs.cells.CellLemmas.{Points, Begins, IsCell, HasCells}

-- ---- runs

no_run : (count : ℕ) → run_cell count 0 ≡ 0
no_run count = elim (cases_Bool (count == 65535)) [
  | inl e ↦ ap (λ b. cond (b && false) 0 0) e
  | inr e ↦ ap (λ b. cond (b && false) 0 0) e
]

-- no more than the rows and the place behind them
last_run : (count : ℕ) → run_row count 0 ≤ count + 1
last_run count = elim (cases_Bool (count == 65535)) [
  | inl e ↦
      let same : count ≡ 65535 = eqb-true count 65535 e in
      let is : run_row count 0 ≡ 65536 = ap (λ b. cond (b && true) 65536 0) e in
      omega arith
  | inr e ↦
      let is : run_row count 0 ≡ 0 = ap (λ b. cond (b && true) 65536 0) e in
      omega arith
]

run_within : IndexesFit → (count row : ℕ) → row ≤ count + 1 → run_row count (run_cell count row) ≤ count + 1
run_within law count zero le = let same = ap (run_row count) (no_run count) in let most = last_run count in omega arith
run_within law count (suc row) le = let same = law.run_back count (suc row) (omega arith) in omega arith

run_begins : IndexesFit → (count index : ℕ) → Begins count index → 0 < run_row count index
run_begins law count index b =
    let same : run_row count index ≡ b.row = ap (run_row count) b.is ∙ law.run_back count b.row b.some in
    let some = b.some in
    omega arith

-- ---- coded indexes

-- what is packed has a tag
packed_tag : (kind : Coded) (table row index : ℕ) → packed kind table row ≡ Some index → (tag : ℕ) × (tag_of kind table ≡ Some tag)
packed_tag kind table row index e = go (tag_of kind table) refl where
  go : (o : Option ℕ) → tag_of kind table ≡ o → (tag : ℕ) × (tag_of kind table ≡ Some tag)
  go None none = let no : ◌≡◌ {A = Option ℕ} None (Some index) = sym (ap (λ (o : Option ℕ). option_map (λ tag. row * 2 ^ tag_bits kind + tag) o) none) ∙ e in absurd cc
  go (Some tag) is = (tag, is)

-- the tag's bits are some, so that the index of a row isn't 0
bits_some : (kind : Coded) (row tag : ℕ) → 0 < row → row * 2 ^ tag_bits kind + tag ≡ 0 → ⊥
bits_some TypeDefOrRef row tag some e = omega arith
bits_some HasConstant row tag some e = omega arith
bits_some HasCustomAttribute row tag some e = omega arith
bits_some MemberRefParent row tag some e = omega arith
bits_some HasSemantics row tag some e = omega arith
bits_some MethodDefOrRef row tag some e = omega arith
bits_some CustomAttributeType row tag some e = omega arith
bits_some ResolutionScope row tag some e = omega arith
bits_some TypeOrMethodDef row tag some e = omega arith

module _ (r : References) (tables : Tables) (image : List ℕ) (counts : (table : ℕ) → count_of image table ≡ rows_in tables table) where
  points_there : (kind : Coded) (index : ℕ) → (index ≡ 0) ⊎ made.NamesRow kind tables index → Points kind index → NamesRow image kind index
  points_there kind index (inl none) p = absurd (bits_some kind p.row p.tag p.some (sym (index_is kind p.table p.row p.tag p.tagged) ∙ sym p.is ∙ none))
  points_there kind index (inr n) p =
      let tag = packed_tag kind n.table n.row index n.is in
      let other : index_of kind n.table n.row ≡ index = ap (λ (o : Option ℕ). option_map_or (λ value. value) o 0) n.is in
      let same = index_apart kind n.table n.row tag.0 p.table p.row p.tag tag.1 p.tagged (other ∙ p.is) in
      let there : n.row ≤ count_of image n.table = subst (λ c. n.row ≤ c) (sym (counts n.table)) n.there in
      let within : p.row ≤ count_of image p.table = subst (λ c. p.row ≤ c) (ap (count_of image) same.0) (subst (λ x. x ≤ count_of image n.table) same.1 there) in
      (p.table, p.row, subst (λ v. unpacked kind v ≡ Some (p.table, p.row)) (sym p.is) (index_names kind p.table p.row p.tag p.tagged), (p.some, within))

  module _ (Wanted : List ℕ → Type 0) (law : IndexesFit) where
    -- an index of a made row is one of the image
    is_index : (column : Column) (index : ℕ) → IsIndexIn r tables column index → IsCell Wanted r tables column index → IsIndex image column index
    is_index (Number bytes) index h c = tt
    is_index (Strings nil) index h c = tt
    is_index (Guids nil) index h c = tt
    is_index (Blobs nil) index h c = tt
    is_index (Row table) index h c = (c, subst (λ n. index ≤ n) (sym (counts table)) h)
    is_index (Run table) index h c =
        let le : run_row (rows_in tables table) index ≤ rows_in tables table + 1 =
        subst (λ x. run_row (rows_in tables table) x ≤ rows_in tables table + 1) (sym h.is) (run_within law (rows_in tables table) h.row h.there) in
        let both : (0 < run_row (rows_in tables table) index) × (run_row (rows_in tables table) index ≤ rows_in tables table + 1) = (run_begins law (rows_in tables table) index c, le) in
        subst (λ n. (0 < run_row n index) × (run_row n index ≤ n + 1)) (sym (counts table)) both
    is_index (Tagged kind nil) index h (inl none) = inl none
    is_index (Tagged kind nil) index h (inr p) = inr (points_there kind index h p)

  -- an index of a heap of a made row leads to what the image has there
  is_entry : ReadsHeaps r image → (id : List ℕ) → HasGuid (guids_of image) 1 id → (column : Column) (index : ℕ) → IsCell (λ text. text ≢ []) r tables column index → IsEntry image column index
  is_entry heaps id one (Number bytes) index c = tt
  is_entry heaps id one (Strings nil) index c = (c.text, heaps.texts index c.text c.there, c.wanted)
  is_entry heaps id one (Guids nil) index (inl none) = inl none
  is_entry heaps id one (Guids nil) index (inr first) = inr (id, subst (λ x. HasGuid (guids_of image) x id) (sym first) one)
  is_entry heaps id one (Blobs nil) index c = (c.0, heaps.blobs index c.0 c.1)
  is_entry heaps id one (Row table) index c = tt
  is_entry heaps id one (Run table) index c = tt
  is_entry heaps id one (Tagged kind nil) index c = tt

-- ---- rows

module _ (r : References) (tables : Tables) (image : List ℕ) (reads : ReadsTables r tables image) where
  -- what is so of a made row's cells is so of those of the image's row
  cells_of : (P : Column → ℕ → Type 0) (table row : ℕ) → HasRow image table row
      → ((k column : ℕ) → k < rows_in tables table → column < length (columns_of table) → P (column_of table column) (cell_of tables table k column))
      → (column : ℕ) → column < length (columns_of table) → P (column_of table column) (cell (tables_of image) table row column)
  cells_of P table row there f column in_row =
      let some = there.0 in
      let within = there.1 in
      let count = reads.counts table in
      let same : suc (row - 1) ≡ row = omega arith in
      let low : row - 1 < rows_in tables table = omega arith in
      subst (λ n. P (column_of table column) (cell (tables_of image) table n column)) same
      (subst (P (column_of table column)) (sym (reads.cells table (row - 1) column low in_row)) (f (row - 1) column low in_row))

  pub rows_have_indexes : (Wanted : List ℕ → Type 0) → IndexesFit → HasIndexesIn r tables → ((table : ℕ) → HasCells Wanted r tables table)
      → (table row : ℕ) → HasRow image table row → HasIndexes image table row
  rows_have_indexes Wanted law h cells table row there =
      cells_of (IsIndex image) table row there
      (λ k column in_rows in_row. is_index r tables image reads.counts Wanted law (column_of table column) (cell_of tables table k column) (h.each table k column in_rows in_row)
      (cells table k column in_rows in_row))

  pub rows_have_entries : ReadsHeaps r image → (id : List ℕ) → HasGuid (guids_of image) 1 id → ((table : ℕ) → HasCells (λ text. text ≢ []) r tables table)
      → (table row : ℕ) → HasRow image table row → HasEntries image table row
  rows_have_entries heaps id one cells table row there =
      cells_of (IsEntry image) table row there
      (λ k column in_rows in_row. is_entry r tables image reads.counts heaps id one (column_of table column) (cell_of tables table k column) (cells table k column in_rows in_row))
