-- An image of at most 2^26 bytes has fewer than 2^24 methods and as few references to members, so each has a token.
use Rattle.std.proofs.Common.{ℕ, ◌+◌, ◌-◌, ◌*◌, ◌^◌, ◌<◌, ◌≤◌, ◌==◌, Bool, true, false, nat_lt, if◌then◌else◌, codes, List, [], length, take, drop, Option, Some, None, arith}
use Rattle.std.proofs.Math.Nat.{mul-le-mul_left}
use Rattle.std.proofs.lemmas.List.{length-take, length-drop}
use Rattle.std.specs.Int.{bit_at}
use Rattle.std.specs.List.{list_all}
use Rattle.std.specs.Option.{option_map_or}
use Rattle.pe_layout.specs.CliHeader.{metadata_of, metadata_rva_of, metadata_size_of}
use Rattle.pe_layout.specs.FileMap.{readable, at, raw_end}
use Rattle.metadata_tables.specs.Schema.{schema}
use Rattle.metadata_tables.specs.CodedIndex.{tags}
use Rattle.metadata_tables.specs.Stream.{row_size, row_count, heap_sizes}
use Rattle.metadata_tables.specs.declared.coded.Coded.TheVariants.{MemberRefParent}
use Rattle.image_model.specs.Streams.{stream_of, tables_of}
use Rattle.image_model.specs.Root.{StreamHeader, header_of}
use Rattle.image_model.specs.Rows.{HasRow}
use Rattle.image_model.specs.Faults.{HasTables}

-- ---- the stream of tables is no longer than the image

piece : (a b : ℕ) (xs : List ℕ) → length (take a (drop b xs)) ≤ length xs
piece a b xs = let t = length-take a (drop b xs) in let d = length-drop b xs in omega (arith, t, d)

readable_in : (image : List ℕ) (end : ℕ) (o : Option ℕ) → length (option_map_or (λ place. take (end - place) (drop place image)) o []) ≤ length image
readable_in image end None = omega arith
readable_in image end (Some place) = piece (end - place) place image

metadata_in : (image : List ℕ) → length (metadata_of image) ≤ length image
unfolding metadata_of readable
metadata_in image =
    let whole = option_map_or (λ place. take (raw_end image (metadata_rva_of image) - place) (drop place image)) (at image (metadata_rva_of image)) [] in
    let r = readable_in image (raw_end image (metadata_rva_of image)) (at image (metadata_rva_of image)) in
    let t = length-take (metadata_size_of image) whole in
    omega (arith, r, t)

stream_in : (metadata : List ℕ) (o : Option StreamHeader) → length (option_map_or (λ header. take header.size (drop header.offset metadata)) o []) ≤ length metadata
stream_in metadata None = omega arith
stream_in metadata (Some header) = piece header.size header.offset metadata

pub tables_in : (image : List ℕ) → length (tables_of image) ≤ length image
unfolding stream_of
tables_in image =
    let s = stream_in (metadata_of image) (header_of (metadata_of image) (codes "#~")) in
    let m = metadata_in image in omega (arith, s, m)

-- ---- rows

wide : (b : Bool) → 2 ≤ (if b then 4 else 2)
wide true = omega arith
wide false = omega arith

coded : (b : Bool) → 2 ≤ (if b then 2 else 4)
coded true = omega arith
coded false = omega arith

three : (a b c : Bool) → 6 ≤ 0 + (if a then 2 else 4) + (if b then 4 else 2) + (if c then 4 else 2)
three a b c = let x = coded a in let y = wide b in let z = wide c in omega (arith, x, y, z)

method_size : (stream : List ℕ) → 6 ≤ row_size stream 0x06
unfolding row_size schema
method_size stream = omega arith

member_size : (stream : List ℕ) → 6 ≤ row_size stream 0x0A
unfolding row_size schema
member_size stream = three (list_all (λ (pair : ℕ × ℕ). nat_lt (row_count stream pair.0) (2 ^ 13)) (tags MemberRefParent)) (bit_at (heap_sizes stream) 0 == 1) (bit_at (heap_sizes stream) 2 == 1)

few : (image : List ℕ) (table row : ℕ) → length image ≤ 2 ^ 26 → HasTables image → 6 ≤ row_size (tables_of image) table → HasRow image table row → row < 2 ^ 24
few image table row short tables size there =
    let inside = tables.whole.rows table row there in
    let all = tables_in image in
    let least : row * 6 ≤ row * row_size (tables_of image) table = mul-le-mul_left row size in
    omega (arith, inside, all, least, short)

pub few_methods : (image : List ℕ) (row : ℕ) → length image ≤ 2 ^ 26 → HasTables image → HasRow image 0x06 row → row < 2 ^ 24
few_methods image row short tables there = few image 0x06 row short tables (method_size (tables_of image)) there

pub few_members : (image : List ℕ) (row : ℕ) → length image ≤ 2 ^ 26 → HasTables image → HasRow image 0x0A row → row < 2 ^ 24
few_members image row short tables there = few image 0x0A row short tables (member_size (tables_of image)) there
