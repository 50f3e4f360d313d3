-- The data of a field: its size is that of the field's type (II.16.3, II.22.18).
use Rattle.std.proofs.Common.{◌≡◌, ◌≤◌, ℕ, ◌+◌, List, length, take, sym, ◌∙◌, ap, subst, arith}
use Rattle.std.specs.Prelude.{slice_index}
use Rattle.std.specs.List.{range_with_len}
use Rattle.heaps.specs.Content.{HasBlob}
use Rattle.pe_layout.specs.FileMap.{readable}
use Rattle.sig_codec.specs.Signature.{IsField}
use Rattle.type_terms.specs.declared.term.Owner.{Owner}
use Rattle.type_terms.specs.declared.term.SigType.{SigType}
use Rattle.std.specs.Prelude.{Option}
use Rattle.image_model.specs.Columns.{data_rva, field_signature}
use Rattle.image_model.specs.Members.{HasDataSize}
use Rattle.image_model.specs.Reading.{IsContent}
use Rattle.image_model.specs.Rows.{rows_with}
use Rattle.image_model.specs.Streams.{blobs_of}
use Rattle.image_model.specs.Terms.{FieldHas}
use Rattle.image_source.specs.Names.{names_of}
use Rattle.image_source.specs.Ready.{AreSizes}
use Rattle.kept_names.specs.declared.names.KeptNames.{KeptNames}
use Rattle.row_groups.specs.Ranges.{cell_of}
use Rattle.row_parts.proofs.OwnedRows.{owned_row}

abbrev pub OneBlob : List ℕ → Type 0
OneBlob heap = (index : ℕ) (a b : List ℕ) → HasBlob heap index a → HasBlob heap index b → a ≡ b

abbrev pub OneField : Type 0
OneField = (owners : ℕ → Option Owner) (bytes : List ℕ) (s t : SigType) → IsField owners bytes s → IsField owners bytes t → s ≡ t

module _ (image : List ℕ) (kept : KeptNames) (sizes : List ℕ) (are : AreSizes image kept sizes) (row value first count : ℕ) (here : value ≡ row)
    (rows : rows_with image 0x1D (cell_of 0x1D 1) value ≡ range_with_len first count) (one : count ≡ 1) where
  same : first + 0 ≡ first
  same = omega arith

  stored : (of : SigType) × FieldHas image (names_of kept) row of × HasDataSize image of (slice_index sizes first) × (slice_index sizes first ≤ length (readable image (data_rva image first)))
  stored =
      let at = owned_row image 0x1D (cell_of 0x1D 1) value first count 0 rows (omega (arith, one)) in
      let z = are (first + 0) at.0 in (
        z.0,
        subst (λ (r : ℕ). FieldHas image (names_of kept) r z.0) (at.1 ∙ here) z.1,
        subst (λ (k : ℕ). HasDataSize image z.0 (slice_index sizes k)) same z.2,
        subst (λ (k : ℕ). slice_index sizes k ≤ length (readable image (data_rva image k))) same z.3,
      )

  pub content_fits : (size rva : ℕ) (bytes : List ℕ) → size ≡ slice_index sizes first → rva ≡ data_rva image first → bytes ≡ readable image rva → size ≤ length bytes
  content_fits size rva bytes s r b =
      subst (λ (n : ℕ). n ≤ length bytes) (sym s) (subst (λ (l : List ℕ). slice_index sizes first ≤ length l) (sym (b ∙ ap (readable image) r)) stored.3)

  pub content_is : (blob : OneBlob (blobs_of image)) (field : OneField) (size rva : ℕ) (bytes : List ℕ) → size ≡ slice_index sizes first → rva ≡ data_rva image first → bytes ≡ readable image rva
      → (of : SigType) → FieldHas image (names_of kept) row of → IsContent image of first (take size bytes)
  content_is blob field size rva bytes s r b of has =
      let z = stored in
      let bytes_same = blob (field_signature image row) z.1.0 has.0 z.1.1 has.1 in
      let type_same : z.0 ≡ of = field (names_of kept).owners has.0 z.0 of (subst (λ (l : List ℕ). IsField (names_of kept).owners l z.0) bytes_same z.1.2) has.2 in
      record {
        size = slice_index sizes first;
        has_size = subst (λ (t : SigType). HasDataSize image t (slice_index sizes first)) type_same z.2;
        bytes_are = ap (λ (n : ℕ). take n bytes) s ∙ ap (take (slice_index sizes first)) (b ∙ ap (readable image) r);
      }
