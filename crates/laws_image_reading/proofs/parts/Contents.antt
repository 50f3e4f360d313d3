-- The data of fields is what stands in the code (ECMA-335 II.22.18).
use Rattle.std.proofs.Common.{◌≡◌, ap, sym, ◌∙◌, ℕ, true≢false, List, [], ◌∷◌, ◌++◌, length, Option, None, Some, refl}
use Rattle.std.specs.Prelude.{IsTrue, slice_index, take}
use Rattle.std.specs.List.{AllZip}
use Rattle.std.proofs.lemmas.Bool.{eqb-true}
use Rattle.assembly_tree.specs.DataSize.{size_in_data}
use Rattle.assembly_tree.specs.WellFormedMembers.{is_content}
use Rattle.assembly_tree.specs.declared.assembly.Assembly.{Assembly}
use Rattle.pe_layout.specs.FileMap.{readable, StandsAt}
use Rattle.type_terms.specs.declared.term.SigType.{SigType}
use Rattle.image_members.specs.DataRows.{IsDataRow}
use Rattle.image_model.specs.Columns.{data_rva, data_field}
use Rattle.image_model.specs.Members.{data_of}
use Rattle.image_model.specs.Reading.{IsContent, IsGiven}
use Rattle.image_model.specs.Rows.{rows_with}
use Rattle.laws_image_parts.specs.CodeRead.{CodeIsRead}
use Rattle.laws_image_parts.specs.ItemRows.{stated, DataOf}
use Rattle.laws_image_parts.specs.RowCells.{data_cells}
use Rattle.laws_image_reading.proofs.parts.DataSizes.{HaveTypeRows, data_size}

front_of : (bytes rest : List ℕ) → take (length bytes) (bytes ++ rest) ≡ bytes
front_of [] rest = refl
front_of (b ∷ bytes) rest = ap (λ (bs : List ℕ). b ∷ bs) (front_of bytes rest)

size_is : (size : Option ℕ) (bytes : List ℕ) → IsTrue (is_content size (Some bytes)) → size ≡ Some (length bytes)
size_is None bytes h = absurd (true≢false (sym h))
size_is (Some n) bytes h = ap Some (sym (eqb-true (length bytes) n h))

module _ (read : CodeIsRead) (a : Assembly) (code image : List ℕ) (stands : StandsAt image 0x2050 code) (rows : HaveTypeRows a image) where
  content_is : (of : SigType) (field row : ℕ) (bytes : List ℕ) → IsTrue (is_content (size_in_data a of) (Some bytes))
      → IsDataRow code (data_cells image row) (record { field = field; bytes = bytes }) → IsContent image of row bytes
  content_is of field row bytes formed h =
      let rva : data_rva image row ≡ h.rva = ap (λ (cs : List ℕ). slice_index cs 0) h.are in
      let begins = read image code bytes h.rva stands h.stands in
      let whole : readable image (data_rva image row) ≡ bytes ++ begins.0 = ap (readable image) rva ∙ begins.1 in
      record {
        size = length bytes;
        has_size = data_size a image rows of (length bytes) (size_is (size_in_data a of) bytes formed);
        bytes_are = sym (front_of bytes begins.0) ∙ ap (take (length bytes)) (sym whole);
      }

  abbrev IsRow : ℕ → ℕ → List ℕ → Type 0
  IsRow field k bytes = IsDataRow code (data_cells image k) (record { field = field; bytes = bytes })

  by_rows : (of : SigType) (field : ℕ) (found : List ℕ) (o : Option (List ℕ)) → IsTrue (is_content (size_in_data a of) o) → AllZip (IsRow field) found (stated o) → IsGiven (IsContent image of) found o
  by_rows of field [] None formed h = tt
  by_rows of field (k ∷ found) None formed h = absurd h
  by_rows of field [] (Some bytes) formed h = absurd h
  by_rows of field (k ∷ found) (Some bytes) formed h = content_is of field k bytes formed h.0

  pub contents_are : (of : SigType) (field : ℕ) (o : Option (List ℕ)) → IsTrue (is_content (size_in_data a of) o) → DataOf code image field o → IsGiven (IsContent image of) (data_of image field) o
  contents_are of field o formed h = by_rows of field (rows_with image 0x1D data_field field) o formed h
