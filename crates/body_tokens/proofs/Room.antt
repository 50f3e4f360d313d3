-- In an image of at most 2 ^ 26 bytes each row of MethodDef and of MemberRef has a token.
use Rattle.std.proofs.Common.{◌≡◌, ◌∙◌, sym, ap, subst, refl, ℕ, zero, suc, ◌+◌, ◌*◌, ◌-◌, ◌^◌, ◌<◌, ◌≤◌, inl, inr, Bool, true, false, cond, nat_lt, List, [], ◌∷◌, length, take, drop, Option, None, Some, arith}
use Rattle.std.specs.Prelude.{◌==◌, if◌then◌else◌, codes}
use Rattle.std.proofs.Math.Nat.{mul-le-mul_left}
use Rattle.std.specs.List.{sum_by, list_all}
use Rattle.std.specs.Int.{bit_at}
use Rattle.std.specs.Option.{option_map_or}
use Rattle.std.proofs.lemmas.Bool.{ne_eqb, cond_both}
use Rattle.std.proofs.lemmas.List.{length-take, length-drop}
use Rattle.metadata_tables.specs.CodedIndex.{tag_bits, tags}
use Rattle.metadata_tables.specs.Schema.{schema, columns_of}
use Rattle.metadata_tables.specs.declared.coded.Coded.TheVariants.{MemberRefParent}
use Rattle.metadata_tables.specs.Stream.{row_count, present, row_size, row_end, table_start, heap_sizes, width, columns_size, IsRow}
use Rattle.metadata_tables.specs.Faults.{IsWhole}
use Rattle.pe_layout.specs.CliHeader.{metadata_of, metadata_rva_of, metadata_size_of}
use Rattle.pe_layout.specs.FileMap.{at, raw_end, readable}
use Rattle.image_model.specs.Faults.{HasTables}
use Rattle.image_model.specs.Root.{StreamHeader, header_of}
use Rattle.image_model.specs.Rows.{count_of, HasRow}
use Rattle.image_model.specs.Streams.{stream_of, tables_of}

-- ---- lengths

take_le : (n : ℕ) (xs : List ℕ) → length (take n xs) ≤ length xs
take_le n xs = let l = length-take n xs in omega arith

part_le : (n k : ℕ) (xs : List ℕ) → length (take n (drop k xs)) ≤ length xs
part_le n k xs = let l = length-take n (drop k xs) in let d = length-drop k xs in omega arith

readable_le : (image : List ℕ) (rva : ℕ) → length (readable image rva) ≤ length image
unfolding readable
readable_le image rva = by_place (at image rva) where
  by_place : (o : Option ℕ) → length (option_map_or (λ place. take (raw_end image rva - place) (drop place image)) o []) ≤ length image
  by_place None = omega arith
  by_place (Some place) = part_le (raw_end image rva - place) place image

stream_le : (metadata name : List ℕ) → length (stream_of metadata name) ≤ length metadata
unfolding stream_of
stream_le metadata name = by_header (header_of metadata name) where
  by_header : (o : Option StreamHeader) → length (option_map_or (λ header. take header.size (drop header.offset metadata)) o []) ≤ length metadata
  by_header None = omega arith
  by_header (Some h) = part_le h.size h.offset metadata

metadata_le : (image : List ℕ) → length (metadata_of image) ≤ length image
unfolding metadata_of
metadata_le image = let a = take_le (metadata_size_of image) (readable image (metadata_rva_of image)) in let b = readable_le image (metadata_rva_of image) in omega arith

-- ---- rows

heap_wide : (heaps bit : ℕ) → 2 ≤ (if bit_at heaps bit == 1 then 4 else 2)
heap_wide heaps bit = cond_both (bit_at heaps bit == 1) 4 2 (λ n. 2 ≤ n) (λ e. omega arith) (λ e. omega arith)

two_or_four : (b : Bool) → 2 ≤ cond b 2 4
two_or_four true = omega arith
two_or_four false = omega arith

pub members_wide : (stream : List ℕ) → 6 ≤ row_size stream 0x0A
unfolding row_size schema
members_wide stream =
    let a = two_or_four (list_all (λ pair. nat_lt (row_count stream pair.0) (2 ^ (16 - tag_bits MemberRefParent))) (tags MemberRefParent)) in
    let b = heap_wide (heap_sizes stream) 0 in
    let c = heap_wide (heap_sizes stream) 2 in
    omega arith

pub methods_wide : (stream : List ℕ) → 6 ≤ row_size stream 0x06
unfolding row_size schema
methods_wide stream = omega arith

row_few : (image : List ℕ) (table row : ℕ) → HasTables image → length image ≤ 2 ^ 26 → 6 ≤ row_size (tables_of image) table → HasRow image table row → row < 2 ^ 24
row_few image table row has small wide there =
    let whole = has.whole.rows table row there in
    let a = stream_le (metadata_of image) (codes "#~") in
    let b = metadata_le image in
    let more : row * 6 ≤ row * row_size (tables_of image) table = mul-le-mul_left row (omega arith) in
    omega arith

pub method_few : (image : List ℕ) (row : ℕ) → HasTables image → length image ≤ 2 ^ 26 → HasRow image 0x06 row → row < 2 ^ 24
method_few image row has small there = row_few image 0x06 row has small (methods_wide (tables_of image)) there

pub member_few : (image : List ℕ) (row : ℕ) → HasTables image → length image ≤ 2 ^ 26 → HasRow image 0x0A row → row < 2 ^ 24
member_few image row has small there = row_few image 0x0A row has small (members_wide (tables_of image)) there

-- ---- the profile has no ModuleRef

no_module_columns : columns_of 0x1A ≡ []
unfolding schema
no_module_columns = refl

absent : (stream : List ℕ) (table : ℕ) → (bit_at (present stream) table ≡ 1 → ⊥) → row_count stream table ≡ 0
unfolding row_count
absent stream table h = rw (ne_eqb (bit_at (present stream) table) 1 h) refl

pub no_module_refs : (image : List ℕ) → HasTables image → (row : ℕ) → HasRow image 0x1A row → ⊥
no_module_refs image has row there =
    let none = absent (tables_of image) 0x1A (λ bit. has.whole.tables 0x1A (bit, no_module_columns)) in
    let h = there in
    omega arith
