-- What the demand on the entries of heaps (II.22) says of a cell.
use Rattle.std.proofs.Common.{◌≡◌, ℕ, ◌<◌, true, false, List, length, sym, ◌∙◌, ap, subst, true≢false}
use Rattle.std.specs.Prelude.{IsTrue}
use Rattle.heaps.specs.Content.{HasText, HasBlob}
use Rattle.metadata_tables.specs.Schema.{columns_of}
use Rattle.metadata_tables.specs.Stream.{cell, column_of}
use Rattle.metadata_tables.specs.declared.schema.Column.{Column}
use Rattle.metadata_tables.specs.declared.schema.Column.TheVariants.{Number, Strings, Guids, Blobs, Row, Run, Tagged}
use Rattle.image_model.specs.Streams.{tables_of, strings_of, blobs_of}
use Rattle.image_model.specs.Rows.{HasRow}
use Rattle.image_model.specs.Cells.{IsEntry}
use Rattle.row_demands.specs.Structured.{MeetStructure}
use Rattle.row_parts.specs.Kinds.{is_strings, is_blobs}

never : {A : Type 0} → false ≡ true → A
never k = absurd (true≢false (sym k))

text_entry : (image : List ℕ) (c : Column) (value : ℕ) → IsTrue (is_strings c) → IsEntry image c value → (text : List ℕ) × HasText (strings_of image) value text
text_entry image (Strings nil) value k h = (h.0, h.1)
text_entry image (Number bytes) value k h = never k
text_entry image (Guids nil) value k h = never k
text_entry image (Blobs nil) value k h = never k
text_entry image (Row table) value k h = never k
text_entry image (Run table) value k h = never k
text_entry image (Tagged kind nil) value k h = never k

blob_entry : (image : List ℕ) (c : Column) (value : ℕ) → IsTrue (is_blobs c) → IsEntry image c value → (blob : List ℕ) × HasBlob (blobs_of image) value blob
blob_entry image (Blobs nil) value k h = (h.0, h.1)
blob_entry image (Number bytes) value k h = never k
blob_entry image (Guids nil) value k h = never k
blob_entry image (Strings nil) value k h = never k
blob_entry image (Row table) value k h = never k
blob_entry image (Run table) value k h = never k
blob_entry image (Tagged kind nil) value k h = never k

pub text_there : (image : List ℕ) (table row column : ℕ) → MeetStructure image → HasRow image table row → column < length (columns_of table) → IsTrue (is_strings (column_of table column))
    → (text : List ℕ) × HasText (strings_of image) (cell (tables_of image) table row column) text
text_there image table row column meets there inside kind = text_entry image (column_of table column) (cell (tables_of image) table row column) kind (meets.entries table row there column inside)

pub blob_there : (image : List ℕ) (table row column : ℕ) → MeetStructure image → HasRow image table row → column < length (columns_of table) → IsTrue (is_blobs (column_of table column))
    → (blob : List ℕ) × HasBlob (blobs_of image) (cell (tables_of image) table row column) blob
blob_there image table row column meets there inside kind = blob_entry image (column_of table column) (cell (tables_of image) table row column) kind (meets.entries table row there column inside)

-- the same of the bytes and the cell as they were read
pub text_read : (image heap stream : List ℕ) (table row column at : ℕ) → heap ≡ strings_of image → stream ≡ tables_of image → at ≡ cell stream table row column
    → MeetStructure image → HasRow image table row → column < length (columns_of table) → IsTrue (is_strings (column_of table column)) → (text : List ℕ) × HasText heap at text
text_read image heap stream table row column at h s e meets there inside kind =
    let t = text_there image table row column meets there inside kind in
    (t.0, subst (λ (n : ℕ). HasText heap n t.0) (sym (e ∙ ap (λ (b : List ℕ). cell b table row column) s)) (subst (λ (b : List ℕ). HasText b (cell (tables_of image) table row column) t.0) (sym h) t.1))

pub text_back : (image heap stream : List ℕ) (table row column at : ℕ) (text : List ℕ) → heap ≡ strings_of image → stream ≡ tables_of image → at ≡ cell stream table row column
    → HasText heap at text → HasText (strings_of image) (cell (tables_of image) table row column) text
text_back image heap stream table row column at text h s e has =
    subst (λ (b : List ℕ). HasText b (cell (tables_of image) table row column) text) h (subst (λ (n : ℕ). HasText heap n text) (e ∙ ap (λ (b : List ℕ). cell b table row column) s) has)

pub blob_read : (image heap stream : List ℕ) (table row column at : ℕ) → heap ≡ blobs_of image → stream ≡ tables_of image → at ≡ cell stream table row column
    → MeetStructure image → HasRow image table row → column < length (columns_of table) → IsTrue (is_blobs (column_of table column)) → (blob : List ℕ) × HasBlob heap at blob
blob_read image heap stream table row column at h s e meets there inside kind =
    let t = blob_there image table row column meets there inside kind in
    (t.0, subst (λ (n : ℕ). HasBlob heap n t.0) (sym (e ∙ ap (λ (b : List ℕ). cell b table row column) s)) (subst (λ (b : List ℕ). HasBlob b (cell (tables_of image) table row column) t.0) (sym h) t.1))

pub blob_back : (image heap stream : List ℕ) (table row column at : ℕ) (blob : List ℕ) → heap ≡ blobs_of image → stream ≡ tables_of image → at ≡ cell stream table row column
    → HasBlob heap at blob → HasBlob (blobs_of image) (cell (tables_of image) table row column) blob
blob_back image heap stream table row column at blob h s e has =
    subst (λ (b : List ℕ). HasBlob b (cell (tables_of image) table row column) blob) h (subst (λ (n : ℕ). HasBlob heap n blob) (e ∙ ap (λ (b : List ℕ). cell b table row column) s) has)
