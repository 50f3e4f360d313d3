-- The offset and the data of a field, by its rows.
use Rattle.std.proofs.Common.{◌≡◌, ap, sym, ◌∙◌, ℕ, ◌+◌, ◌≤◌, List, [], ◌∷◌, All, length, Option, Some, None, arith}
use Rattle.std.specs.Prelude.{IsTrue, slice_index}
use Rattle.std.specs.List.{AllByRecursion}
use Rattle.std.proofs.lemmas.Bool.{eqb-true}
use Rattle.std.proofs.lemmas.List.{length-append}
use Rattle.std.proofs.lemmas.List.Elements.{All-from_recursion}
use Rattle.assembly_tree.specs.WellFormedMembers.{is_content}
use Rattle.body_codec.specs.Names.{NameMap}
use Rattle.pe_layout.specs.FileMap.{readable, StandsAt}
use Rattle.type_terms.specs.declared.term.SigType.{SigType}
use Rattle.image_members.specs.DataRows.{IsDataRow}
use Rattle.image_model.specs.Columns.{data_rva}
use Rattle.image_model.specs.Members.{HasData, HasDataSize, data_of, offsets_of}
use Rattle.image_model.specs.Terms.{FieldHas}
use Rattle.laws_image_parts.specs.CodeRead.{CodeIsRead}
use Rattle.laws_image_parts.specs.ItemRows.{DataOf, OffsetOf, stated}
use Rattle.laws_image_parts.specs.RowCells.{data_cells, offset_cells}
use Rattle.laws_image_parts.proofs.CellLemmas.{zip_long}
use Rattle.laws_image_reading.proofs.members.Lists.{zip_left, stated_one}

pub one_offset : (image : List ℕ) (row : ℕ) (o : Option ℕ) → OffsetOf image row o → length (offsets_of image row) ≤ 1
one_offset image row o h =
    let long = zip_long (λ k (n : ℕ). offset_cells image k ≡ n ∷ row ∷ []) (offsets_of image row) (stated o) h in
    let few = stated_one o in
    omega arith

pub one_content : (code image : List ℕ) (row : ℕ) (o : Option (List ℕ)) → DataOf code image row o → length (data_of image row) ≤ 1
one_content code image row o h =
    let long = zip_long (λ k (bytes : List ℕ). IsDataRow code (data_cells image k) (record { field = row; bytes = bytes })) (data_of image row) (stated o) h in
    let few = stated_one o in
    omega arith

-- the bytes of the size that is stated
content_size : (size : Option ℕ) (bytes : List ℕ) → IsTrue (is_content size (Some bytes)) → size ≡ Some (length bytes)
content_size None bytes h = absurd cc
content_size (Some n) bytes h = ap Some (sym (eqb-true (length bytes) n h))

-- the data that is stated has the size of the type
stated_sized : (size : Option ℕ) (o : Option (List ℕ)) → IsTrue (is_content size o) → AllByRecursion (λ (bytes : List ℕ). size ≡ Some (length bytes)) (stated o)
stated_sized size None h = tt
stated_sized size (Some bytes) h = (content_size size bytes h, tt)

module _ (read : CodeIsRead) (code image : List ℕ) (names : NameMap) (stands : StandsAt image 0x2050 code) (row : ℕ) (of : SigType) (size : Option ℕ) (has : FieldHas image names row of)
    (sized : (n : ℕ) → size ≡ Some n → HasDataSize image of n) where
  data_row : (k : ℕ) (bytes : List ℕ) → IsDataRow code (data_cells image k) (record { field = row; bytes = bytes }) → size ≡ Some (length bytes) → HasData image names row k
  data_row k bytes is e =
      let rva : data_rva image k ≡ is.rva = ap (λ (cs : List ℕ). slice_index cs 0) is.are in
      let found = read image code bytes is.rva stands is.stands in
      let long : length (readable image (data_rva image k)) ≡ length bytes + length found.0 =
      ap (λ n. length (readable image n)) rva ∙ ap (length {A = ℕ}) found.1 ∙ length-append bytes found.0 in
      (of, length bytes, has, sized (length bytes) e, omega arith)

  pub data_fits : (o : Option (List ℕ)) → IsTrue (is_content size o) → DataOf code image row o → All (HasData image names row) (data_of image row)
  data_fits o formed h =
      All-from_recursion (HasData image names row) (data_of image row)
      (zip_left (λ k (bytes : List ℕ). IsDataRow code (data_cells image k) (record { field = row; bytes = bytes })) (λ (bytes : List ℕ). size ≡ Some (length bytes)) (HasData image names row) data_row
      (data_of image row) (stated o) h (stated_sized size o formed))
