-- Indexes that lead to what is there fit the widths of their columns.
use Rattle.std.proofs.Common.{◌≡◌, ℕ, ◌+◌, ◌*◌, ◌/◌, ◌^◌, ◌<◌, ◌≤◌, ◌⊎◌, inl, inr, Bool, true, false, cond, List, length, Option, Some, None, sym, ◌∙◌, ap, refl, subst, arith}
use Rattle.std.specs.Prelude.{nat_le, option_map}
use Rattle.std.specs.Int.{bit_at}
use Rattle.std.proofs.lemmas.Bool.{cases_Bool, cases_lt, leb-false, le-leb, lt-leb}
use Rattle.std.proofs.lemmas.List.{length-append, length-replicate}
use Rattle.std.proofs.lemmas.Option.{same_Some}
use Rattle.image_model.specs.Root.{filled}
use Rattle.metadata_tables.specs.CodedIndex.{tag_bits, tags, tag_of}
use Rattle.metadata_tables.specs.Encoding.{rows_in, cell_of, FitsIndex, FitsWidths}
use Rattle.metadata_tables.specs.Indexes.{IndexesFit}
use Rattle.metadata_tables.specs.Stream.{column_of, heap_width, simple_width, coded_width}
use Rattle.metadata_tables.specs.declared.coded.Coded.{Coded}
use Rattle.metadata_tables.specs.declared.schema.Column.{Column}
use Rattle.metadata_tables.specs.declared.schema.Column.TheVariants.{Number, Strings, Guids, Blobs, Row, Run, Tagged}
use Rattle.pe_layout.specs.Fields.{round_up}
use Rattle.image_layout.specs.Indexes.{IsHeapIndex, NamesRow, IsIndexIn, HasIndexesIn}
use Rattle.image_layout.specs.Sizes.{heap_bytes, is_wide, flags_of, heap_flags}
use Rattle.image_tokens.specs.declared.references.References.{References}
use Rattle.image_members.specs.Pushing.{Tables}

-- ---- the byte of heap sizes

pub length-filled : (xs : List ℕ) → (length xs + 3) / 4 * 4 ≡ length (filled xs)
unfolding filled round_up
length-filled xs = rw (length-append, length-replicate) (omega arith)

-- the test by the size before it is filled up
pub wide_is : (heap : List ℕ) → nat_le (2 ^ 16) (length heap + 3) ≡ is_wide heap
wide_is heap =
    let long = length-filled heap in
    elim (cases_lt (length heap + 3) (2 ^ 16)) [
      | inl less ↦ lt-leb (2 ^ 16) (length heap + 3) less ∙ sym (lt-leb (2 ^ 16) (length (filled heap)) (omega arith))
      | inr more ↦ le-leb (2 ^ 16) (length heap + 3) more ∙ sym (le-leb (2 ^ 16) (length (filled heap)) (omega arith))
    ]

pub heap_bytes_are : (r : References) → heap_bytes r ≡ length r.heaps.strings.bytes + length r.heaps.blobs.bytes + length r.heaps.user.bytes
unfolding heap_bytes
heap_bytes_are r = refl

pub flags_are : (r : References) (strings blobs : Bool) (s b : ℕ) → strings ≡ is_wide r.heaps.strings.bytes → blobs ≡ is_wide r.heaps.blobs.bytes
    → s ≡ cond strings 1 0 → b ≡ cond blobs 4 0 → s + b ≡ heap_flags r
unfolding heap_flags
flags_are r strings blobs s b p q e f = rw (e, f, p, q) refl

strings_bit : (p q : Bool) → bit_at (flags_of p q) 0 ≡ cond p 1 0
strings_bit true true = refl
strings_bit true false = refl
strings_bit false true = refl
strings_bit false false = refl

guids_bit : (p q : Bool) → bit_at (flags_of p q) 1 ≡ 0
guids_bit true true = refl
guids_bit true false = refl
guids_bit false true = refl
guids_bit false false = refl

blobs_bit : (p q : Bool) → bit_at (flags_of p q) 2 ≡ cond q 1 0
blobs_bit true true = refl
blobs_bit true false = refl
blobs_bit false true = refl
blobs_bit false false = refl

-- ---- heaps

below_two : (heaps bit value : ℕ) → bit_at heaps bit ≡ 0 → value < 2 ^ 16 → value < 256 ^ heap_width heaps bit
below_two heaps bit value e h = rw e (omega arith)

below_four : (heaps bit value : ℕ) → bit_at heaps bit ≡ 1 → value < 2 ^ 26 → value < 256 ^ heap_width heaps bit
below_four heaps bit value e h = rw e (omega arith)

index_small : (bytes : List ℕ) (value bound : ℕ) → 0 < bound → length bytes ≤ bound → IsHeapIndex bytes value → value < bound
index_small bytes value bound some few (inl e) = omega arith
index_small bytes value bound some few (inr h) = omega arith

fits_heap : (bytes : List ℕ) (heaps bit value : ℕ) → bit_at heaps bit ≡ cond (is_wide bytes) 1 0 → length bytes < 2 ^ 26 → IsHeapIndex bytes value
    → value < 256 ^ heap_width heaps bit
fits_heap bytes heaps bit value is few h = elim (cases_Bool (is_wide bytes)) [
  | inl wide ↦ below_four heaps bit value (is ∙ ap (λ b. cond b 1 0) wide) (index_small bytes value (2 ^ 26) (omega arith) (omega arith) h)
  | inr narrow ↦
      let below = leb-false (2 ^ 16) (length (filled bytes)) narrow in
      let long = length-filled bytes in
      below_two heaps bit value (is ∙ ap (λ b. cond b 1 0) narrow) (index_small bytes value (2 ^ 16) (omega arith) (omega arith) h)
]

-- ---- coded indexes

mapped : (o : Option ℕ) (f : ℕ → ℕ) (v : ℕ) → option_map f o ≡ Some v → (x : ℕ) × (o ≡ Some x) × (v ≡ f x)
mapped None f v e = absurd cc
mapped (Some x) f v e = (x, refl, sym (same_Some (f x) v e))

two_or_four : (b : Bool) → 0 < 256 ^ cond b 2 4
two_or_four true = omega arith
two_or_four false = omega arith

module _ (fit : IndexesFit) (r : References) (tables : Tables) (few : (table : ℕ) → rows_in tables table < 2 ^ 24) (small : heap_bytes r < 2 ^ 26) where
  strings_few : length r.heaps.strings.bytes < 2 ^ 26
  unfolding heap_bytes
  strings_few = omega arith

  blobs_few : length r.heaps.blobs.bytes < 2 ^ 26
  unfolding heap_bytes
  blobs_few = omega arith

  fits_named : (kind : Coded) (value : ℕ) → NamesRow kind tables value → value < 256 ^ coded_width (rows_in tables) (tag_bits kind) (tags kind)
  fits_named kind value n =
      let m = mapped (tag_of kind n.table) (λ tag. n.row * 2 ^ tag_bits kind + tag) value n.is in
      subst (λ v. v < 256 ^ coded_width (rows_in tables) (tag_bits kind) (tags kind)) (sym m.2)
      (fit.coded (rows_in tables) kind n.table n.row m.0 m.1 n.there (few n.table))

  fits_coded : (kind : Coded) (value : ℕ) → (value ≡ 0) ⊎ NamesRow kind tables value → value < 256 ^ coded_width (rows_in tables) (tag_bits kind) (tags kind)
  fits_coded kind value (inl e) = subst (λ v. v < 256 ^ coded_width (rows_in tables) (tag_bits kind) (tags kind)) (sym e) (two_or_four _)
  fits_coded kind value (inr n) = fits_named kind value n

  fits_column : (column : Column) (value : ℕ) → IsIndexIn r tables column value → FitsIndex (rows_in tables) (heap_flags r) column value
  unfolding heap_flags
  fits_column (Number bytes) value h = tt
  fits_column (Strings nil) value h =
      fits_heap r.heaps.strings.bytes (heap_flags r) 0 value (strings_bit (is_wide r.heaps.strings.bytes) (is_wide r.heaps.blobs.bytes)) strings_few h
  fits_column (Guids nil) value h =
      below_two (heap_flags r) 1 value (guids_bit (is_wide r.heaps.strings.bytes) (is_wide r.heaps.blobs.bytes)) (omega arith)
  fits_column (Blobs nil) value h =
      fits_heap r.heaps.blobs.bytes (heap_flags r) 2 value (blobs_bit (is_wide r.heaps.strings.bytes) (is_wide r.heaps.blobs.bytes)) blobs_few h
  fits_column (Row table) value h = fit.simple (rows_in tables) table value h (few table)
  fits_column (Run table) value h =
      subst (λ v. v < 256 ^ simple_width (rows_in tables) table) (sym h.is) (fit.run (rows_in tables) table h.row h.there (few table))
  fits_column (Tagged kind nil) value h = fits_coded kind value h

pub fits_widths : (fit : IndexesFit) (r : References) (tables : Tables) → HasIndexesIn r tables → heap_bytes r < 2 ^ 26 → FitsWidths tables (heap_flags r)
fits_widths fit r tables has small table row column in_row in_column =
    fits_column fit r tables has.few small (column_of table column) (cell_of tables table row column) (has.each table row column in_row in_column)
