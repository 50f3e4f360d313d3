-- No content stands at two of the indexes that rows of a laid-out image have, and each blob is spelled short.
use Rattle.std.proofs.Common.{◌≡◌, sym, ◌∙◌, subst, ℕ, zero, suc, ◌-◌, ◌<◌, ◌≤◌, List, [], arith}
use Rattle.std.specs.Prelude.{Contains, ◌%◌, slice_index}
use Rattle.std.specs.List.{AllByRecursion, AllZip}
use Rattle.heaps.specs.Content.{HasText, HasBlob, HasGuid}
use Rattle.heaps.specs.Heap.{Heap, HoldsEach}
use Rattle.heaps.specs.Heap as heap
use Rattle.heaps.specs.Written.{HasShortBlob}
use Rattle.metadata_tables.specs.Encoding.{rows_of, rows_in, cell_of}
use Rattle.metadata_tables.specs.Schema.{schema}
use Rattle.metadata_tables.specs.Stream.{cell, column_of}
use Rattle.metadata_tables.specs.declared.schema.Column.{Column}
use Rattle.image_tokens.specs.declared.references.References.{References}
use Rattle.image_members.specs.DataRows.{IsDataRow, Datum}
use Rattle.image_members.specs.Pushing.{Tables}
use Rattle.image_layout.specs.Laws.{TablesAreRead, HeapsAreRead, ReadsTables}
use Rattle.image_model.specs.Columns.{data_rva}
use Rattle.image_model.specs.Rows.{HasRow}
use Rattle.image_model.specs.Streams.{tables_of, strings_of, guids_of, blobs_of}
use Rattle.image_model.specs.Tidy.{HoldsOnce, IsCellOf, IsStrings, IsGuids, IsBlobs}
use Rattle.laws_image_parts.specs.tidiness.Entries.{EntriesAreShort}
use Rattle.laws_image_parts.specs.tidiness.InUse.{IsInUse, AreInUse, IndexesAreInUse}
use Rattle.laws_image_parts.specs.tidiness.Once.{ContentsStandOnce}
use Rattle.laws_image_parts.proofs.tidiness.ListLemmas.{all_get, zip_all}

-- ---- heaps

-- what stands at an index of a heap is one content
abbrev pub One : (List ℕ → ℕ → List ℕ → Type 0) → Type 0
One Has = (bytes : List ℕ) (index : ℕ) (a b : List ℕ) → Has bytes index a → Has bytes index b → a ≡ b

-- A content of the stream at an index in use is that of the heap, so that no two indexes in use have one content
pub once_read : (Has : List ℕ → ℕ → List ℕ → Type 0) (h : Heap) (stream : List ℕ) → One Has → HoldsEach Has h → heap.HoldsOnce Has h
    → ((index : ℕ) (content : List ℕ) → Has h.bytes index content → Has stream index content) → HoldsOnce (Contains h.used) (Has stream)
once_read Has h stream one each once reads a b content used in_use there here =
    let x = each a used in
    let y = each b in_use in
    let same : x.0 ≡ content = one stream a x.0 content (reads a x.0 x.1) there in
    let also : y.0 ≡ content = one stream b y.0 content (reads b y.0 y.1) here in
    once a b content used in_use (subst (Has h.bytes a) same x.1) (subst (Has h.bytes b) also y.1)

-- fewer indexes
pub fewer : (Uses More : ℕ → Type 0) (Has : ℕ → List ℕ → Type 0) → ((index : ℕ) → Uses index → More index) → HoldsOnce More Has → HoldsOnce Uses Has
fewer Uses More Has f once a b content used also there here = once a b content (f a used) (f b also) there here

-- there is one identifier
guid_once : (guids : List ℕ) → HoldsOnce (λ index. index ≤ 1) (HasGuid guids)
guid_once guids zero b id low small there here = absurd there
guid_once guids (suc a) zero id low small there here = absurd here
guid_once guids (suc a) (suc b) id low small there here = omega arith

-- ---- the cells of a laid-out image

module _ (r : References) (tables : Tables) (image : List ℕ) (reads : ReadsTables r tables image) (used : (table : ℕ) → AreInUse r tables table) where
  cell_used : (IsKind : Column → Type 0) (index : ℕ) → IsCellOf image IsKind index → (column : Column) × IsKind column × IsInUse r column index
  cell_used IsKind index h =
      let some = h.there.0 in
      let high = h.there.1 in
      let rows = reads.counts h.table in
      let low : h.row - 1 < rows_in tables h.table = omega arith in
      let same : suc (h.row - 1) ≡ h.row = omega arith in
      let read : cell (tables_of image) h.table h.row h.column ≡ cell_of tables h.table (h.row - 1) h.column =
      subst (λ n. cell (tables_of image) h.table n h.column ≡ cell_of tables h.table (h.row - 1) h.column) same (reads.cells h.table (h.row - 1) h.column low h.within) in
      (column_of h.table h.column, h.kind, subst (IsInUse r (column_of h.table h.column)) (sym read ∙ h.value) (used h.table (h.row - 1) h.column low h.within))

  pub string_used : (index : ℕ) → IsCellOf image IsStrings index → Contains r.heaps.strings.used index
  string_used index h = let x = cell_used IsStrings index h in subst (λ c. IsInUse r c index) x.1.1 x.2

  pub guid_used : (index : ℕ) → IsCellOf image IsGuids index → index ≤ 1
  guid_used index h = let x = cell_used IsGuids index h in subst (λ c. IsInUse r c index) x.1.1 x.2

  pub blob_used : (index : ℕ) → IsCellOf image IsBlobs index → Contains r.heaps.blobs.used index
  blob_used index h = let x = cell_used IsBlobs index h in subst (λ c. IsInUse r c index) x.1.1 x.2

  data_rows : (code : List ℕ) (rows : List (List ℕ)) (xs : List Datum) → AllZip (IsDataRow code) rows xs → AllByRecursion (λ (cells : List ℕ). slice_index cells 0 % 8 ≡ 0) rows
  data_rows code rows xs h =
      zip_all (IsDataRow code) (λ (cells : List ℕ). slice_index cells 0 % 8 ≡ 0) rows xs
      (λ cells d row. subst (λ (cs : List ℕ). slice_index cs 0 % 8 ≡ 0) (sym row.are) row.aligned) h

  pub data_placed : (code : List ℕ) (xs : List Datum) → AllZip (IsDataRow code) (rows_of tables 0x1D) xs → (row : ℕ) → HasRow image 0x1D row → data_rva image row % 8 ≡ 0
  unfolding schema
  data_placed code xs h row there =
      let some = there.0 in
      let high = there.1 in
      let rows = reads.counts 0x1D in
      let low : row - 1 < rows_in tables 0x1D = omega arith in
      let same : suc (row - 1) ≡ row = omega arith in
      let read : data_rva image row ≡ cell_of tables 0x1D (row - 1) 0 =
      subst (λ n. data_rva image n ≡ cell_of tables 0x1D (row - 1) 0) same (reads.cells 0x1D (row - 1) 0 low (omega arith)) in
      subst (λ n. n % 8 ≡ 0) (sym read) (all_get (λ (cells : List ℕ). slice_index cells 0 % 8 ≡ 0) (rows_of tables 0x1D) (row - 1) [] (data_rows code (rows_of tables 0x1D) xs h) low)

-- ---- laws

-- that blobs are spelled short
short_is_there : (Short Has : List ℕ → ℕ → List ℕ → Type 0) (h : Heap) → ((bytes : List ℕ) (index : ℕ) (content : List ℕ) → Short bytes index content → Has bytes index content)
    → HoldsEach Short h → HoldsEach Has h
short_is_there Short Has h weaken each index used = let x = each index used in (x.0, weaken h.bytes index x.0 x.1)

pub contents_once : TablesAreRead → HeapsAreRead → One HasText → One HasBlob → ((bytes : List ℕ) (index : ℕ) (blob : List ℕ) → HasShortBlob bytes index blob → HasBlob bytes index blob)
    → IndexesAreInUse → ContentsStandOnce
contents_once tables_read heaps_read text blob short in_use a classes r tables code id image f m d =
    let reads = tables_read r tables id image m in
    let heaps = heaps_read r tables id image m in
    let used = in_use a classes r tables code f in
    record {
      strings = fewer (IsCellOf image IsStrings) (Contains r.heaps.strings.used) (HasText (strings_of image)) (string_used r tables image reads used)
          (once_read HasText r.heaps.strings (strings_of image) text d.texts d.texts_once heaps.texts);
      guids = fewer (IsCellOf image IsGuids) (λ index. index ≤ 1) (HasGuid (guids_of image)) (guid_used r tables image reads used) (guid_once (guids_of image));
      blobs = fewer (IsCellOf image IsBlobs) (Contains r.heaps.blobs.used) (HasBlob (blobs_of image)) (blob_used r tables image reads used)
          (once_read HasBlob r.heaps.blobs (blobs_of image) blob (short_is_there HasShortBlob HasBlob r.heaps.blobs short d.blobs) d.blobs_once heaps.blobs);
    }

pub entries_short : TablesAreRead → HeapsAreRead → IndexesAreInUse → EntriesAreShort
entries_short tables_read heaps_read in_use a classes r tables code id image f m d =
    let reads = tables_read r tables id image m in
    let heaps = heaps_read r tables id image m in
    record {
      blobs = λ index h. let x = d.blobs index (blob_used r tables image reads (in_use a classes r tables code f) index h) in (x.0, heaps.short index x.0 x.1);
      data_placed = data_placed r tables image reads (in_use a classes r tables code f) code _ f.fields.contents;
    }
