-- Tables have no more rows than the image has bytes.
use Rattle.std.proofs.Common.{◌≡◌, ℕ, ◌-◌, ◌<◌, ◌≤◌, List, [], ◌∷◌, Option, Some, None, length, take, drop, inl, inr, Bool, true, false, refl, ap, arith}
use Rattle.std.specs.Prelude.{codes, if◌then◌else◌}
use Rattle.std.specs.Option.{option_map_or}
use Rattle.std.proofs.lemmas.Bool.{cases_lt}
use Rattle.std.proofs.lemmas.List.{length-take, length-drop}
use Rattle.std.proofs.lemmas.List.Sums.{sum_by-cons}
use Rattle.std.proofs.Math.Nat.{mul-le-mul_left}
use Rattle.pe_layout.specs.FileMap.{readable, at, raw_end}
use Rattle.pe_layout.specs.CliHeader.{metadata_of, metadata_size_of, metadata_rva_of}
use Rattle.metadata_tables.specs.Faults.{IsWhole}
use Rattle.metadata_tables.specs.Schema.{schema, columns_of}
use Rattle.metadata_tables.specs.Stream.{row_count, row_size, width, columns_size, heap_sizes}
use Rattle.metadata_tables.specs.declared.schema.Column.{Column}
use Rattle.image_model.specs.Root.{StreamHeader, header_of}
use Rattle.image_model.specs.Streams.{stream_of, tables_of}
use Rattle.image_model.specs.Rows.{count_of}
use Rattle.image_model.specs.Faults.{HasTables}

part_short : (n m : ℕ) (xs : List ℕ) → length (take n (drop m xs)) ≤ length xs
part_short n m xs = let t = length-take n (drop m xs) in let d = length-drop m xs in omega arith

read_short : (image : List ℕ) (end : ℕ) (place : Option ℕ) → length (option_map_or (λ place. take (end - place) (drop place image)) place []) ≤ length image
read_short image end None = omega arith
read_short image end (Some place) = part_short (end - place) place image

readable_short : (image : List ℕ) (rva : ℕ) → length (readable image rva) ≤ length image
unfolding readable
readable_short image rva = read_short image (raw_end image rva) (at image rva)

metadata_short : (image : List ℕ) → length (metadata_of image) ≤ length image
unfolding metadata_of
metadata_short image =
    let r = readable_short image (metadata_rva_of image) in
    let t = length-take (metadata_size_of image) (readable image (metadata_rva_of image)) in
    omega arith

stream_in : (metadata : List ℕ) (header : Option StreamHeader) → length (option_map_or (λ header. take header.size (drop header.offset metadata)) header []) ≤ length metadata
stream_in metadata None = omega arith
stream_in metadata (Some header) = part_short header.size header.offset metadata

stream_short : (metadata name : List ℕ) → length (stream_of metadata name) ≤ length metadata
unfolding stream_of
stream_short metadata name = stream_in metadata (header_of metadata name)

tables_short : (image : List ℕ) → length (tables_of image) ≤ length image
tables_short image = let m = metadata_short image in let s = stream_short (metadata_of image) (codes "#~") in omega arith

-- a table whose first column has bytes
rows_short : (stream : List ℕ) → IsWhole stream → (table : ℕ) → 0 < row_size stream table → row_count stream table ≤ length stream
rows_short stream whole table some = elim (cases_lt 0 (row_count stream table)) [
  | inl there ↦
      let end = whole.rows table (row_count stream table) (there, omega arith) in
      let one : 1 ≤ row_size stream table = omega arith in
      let m = mul-le-mul_left (row_count stream table) one in
      omega arith
  | inr none ↦ omega arith
]

size_some : (stream : List ℕ) (table : ℕ) (first : Column) (rest : List Column) → columns_of table ≡ first ∷ rest
    → 0 < width (row_count stream) (heap_sizes stream) first → 0 < row_size stream table
unfolding row_size
size_some stream table first rest e some =
    let s = sum_by-cons (width (row_count stream) (heap_sizes stream)) first rest in
    let c : columns_size (row_count stream) (heap_sizes stream) (columns_of table) ≡ columns_size (row_count stream) (heap_sizes stream) (first ∷ rest) = ap (columns_size (row_count stream) (heap_sizes stream)) e in
    omega arith

two_or_four : (b : Bool) → 0 < (if b then 2 else 4)
two_or_four true = omega arith
two_or_four false = omega arith

module _ (image : List ℕ) (has : HasTables image) where
  types_sized : 0 < row_size (tables_of image) 0x02
  unfolding schema
  types_sized = size_some (tables_of image) 0x02 _ _ refl (omega arith)

  references_sized : 0 < row_size (tables_of image) 0x01
  unfolding schema
  references_sized = size_some (tables_of image) 0x01 _ _ refl (two_or_four _)

  assemblies_sized : 0 < row_size (tables_of image) 0x23
  unfolding schema
  assemblies_sized = size_some (tables_of image) 0x23 _ _ refl (omega arith)

  within : (table : ℕ) → 0 < row_size (tables_of image) table → count_of image table ≤ length image
  within table some = let r = rows_short (tables_of image) has.whole table some in let t = tables_short image in omega arith

  pub few_types : count_of image 0x02 ≤ length image
  few_types = within 0x02 types_sized

  pub few_references : count_of image 0x01 ≤ length image
  few_references = within 0x01 references_sized

  pub few_assemblies : count_of image 0x23 ≤ length image
  few_assemblies = within 0x23 assemblies_sized
