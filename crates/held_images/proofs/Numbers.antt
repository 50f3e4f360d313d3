-- Numbers of bytes fit their fields (II.22, II.24.2.6, II.25.1).
use Rattle.std.proofs.Common.{◌≡◌, ℕ, zero, suc, ◌+◌, ◌*◌, ◌^◌, ◌<◌, Bool, true, nat_lt, List, [], ◌∷◌, ◌++◌, take, drop, option_map, Option, Some, None, refl, sym, ap, subst, arith}
use Rattle.std.proofs.lemmas.Bool.{and_from}
use Rattle.std.proofs.lemmas.Bool.Decides.{nat_tests}
use Rattle.std.specs.List.{AllZip, list_all}
use Rattle.byteorder.specs.Endian.{little_number}
use Rattle.byteorder.specs.Numbers.{little_from-lt}
use Rattle.heaps.specs.Content.{HasBlob}
use Rattle.pe_layout.specs.Fields.{u16_at, u32_at}
use Rattle.metadata_tables.specs.Stream.{row_count, heap_sizes, width, column_of, column_width, cell_place, cell}
use Rattle.metadata_tables.specs.declared.schema.Column.TheVariants.{Number}
use Rattle.assembly_tree.specs.WellFormedNames.{option_all}
use Rattle.image_model.specs.Reading.{IsGiven, without}
use Rattle.image_model.specs.Streams.{tables_of, blobs_of}
use Rattle.image_model.specs.Units.{units_of}
use Rattle.listing_growth.specs.Held.{is_u8, is_u16, is_u32, are_bytes, are_units}
use Rattle.formed_images.specs.Laws.{AreBytes}
use Rattle.formed_images.proofs.Bytes.{stream_bytes, blob_bytes}

-- ---- tests

pub lt_true : (m n : ℕ) → m < n → nat_lt m n ≡ true
lt_true m n h = grind (arith, nat_tests)

less : (m n : ℕ) → nat_lt m n ≡ true → m < n
less m n h = grind (arith, nat_tests)

-- a number that is one of two bytes, or of four
pub as_u16 : (n m : ℕ) → n ≡ m → is_u16 m ≡ true → is_u16 n ≡ true
as_u16 n m e h = subst (λ (k : ℕ). is_u16 k ≡ true) (sym e) h

pub as_u32 : (n m : ℕ) → n ≡ m → is_u32 m ≡ true → is_u32 n ≡ true
as_u32 n m e h = subst (λ (k : ℕ). is_u32 k ≡ true) (sym e) h

-- flags without others are no more
pub without_fits : (flags other n : ℕ) → nat_lt flags n ≡ true → nat_lt (without flags other) n ≡ true
without_fits flags other n h = let l = less flags n h in lt_true (without flags other) n (omega arith)

-- ---- lists of parts

pub each_zipped : {X : Type 0} (Is : ℕ → X → Type 0) (test : X → Bool) → ((r : ℕ) (x : X) → Is r x → test x ≡ true) → (rows : List ℕ) (xs : List X) → AllZip Is rows xs → list_all test xs ≡ true
each_zipped Is test f [] [] z = refl
each_zipped Is test f [] (x ∷ xs) z = absurd z
each_zipped Is test f (r ∷ rows) [] z = absurd z
each_zipped Is test f (r ∷ rows) (x ∷ xs) z = and_from (test x) (list_all test xs) (f r x z.0) (each_zipped Is test f rows xs z.1)

pub each_given : {X : Type 0} (Is : ℕ → X → Type 0) (test : X → Bool) → ((r : ℕ) (x : X) → Is r x → test x ≡ true) → (rows : List ℕ) (o : Option X) → IsGiven Is rows o → option_all test o ≡ true
each_given Is test f [] None h = refl
each_given Is test f [] (Some x) h = absurd h
each_given Is test f (r ∷ rows) None h = absurd h
each_given Is test f (r ∷ rows) (Some x) h = f r x h

-- ---- parts of bytes are bytes

none_bytes : AreBytes []
none_bytes k = omega arith

pub take_bytes : (n : ℕ) (xs : List ℕ) → AreBytes xs → AreBytes (take n xs)
take_bytes zero xs h k = omega arith
take_bytes (suc n) [] h k = omega arith
take_bytes (suc n) (x ∷ xs) h zero = h zero
take_bytes (suc n) (x ∷ xs) h (suc k) = take_bytes n xs (λ j. h (suc j)) k

pub drop_bytes : (n : ℕ) (xs : List ℕ) → AreBytes xs → AreBytes (drop n xs)
drop_bytes zero xs h = h
drop_bytes (suc n) [] h = none_bytes
drop_bytes (suc n) (x ∷ xs) h = drop_bytes n xs (λ j. h (suc j))

pub front_bytes : (xs ys : List ℕ) → AreBytes (xs ++ ys) → AreBytes xs
front_bytes [] ys h k = omega arith
front_bytes (x ∷ xs) ys h zero = h zero
front_bytes (x ∷ xs) ys h (suc k) = front_bytes xs ys (λ j. h (suc j)) k

pub back_bytes : (xs ys : List ℕ) → AreBytes (xs ++ ys) → AreBytes ys
back_bytes [] ys h = h
back_bytes (x ∷ xs) ys h = back_bytes xs ys (λ j. h (suc j))

pub bytes_fit : (xs : List ℕ) → AreBytes xs → are_bytes xs ≡ true
bytes_fit [] h = refl
bytes_fit (x ∷ xs) h = and_from (is_u8 x) (list_all is_u8 xs) (lt_true x 0x100 (h zero)) (bytes_fit xs (λ k. h (suc k)))

-- ---- UTF-16 units

one_more : (u : ℕ) (o : Option (List ℕ)) → is_u16 u ≡ true → option_all are_units o ≡ true → option_all are_units (option_map (λ units. u ∷ units) o) ≡ true
one_more u None e h = refl
one_more u (Some units) e h = and_from (is_u16 u) (are_units units) e h

pub units_fit : (xs : List ℕ) → AreBytes xs → option_all are_units (units_of xs) ≡ true
units_fit [] h = refl
units_fit (low ∷ []) h = refl
units_fit (low ∷ high ∷ more) h =
    let a = h 0 in
    let b = h 1 in
    one_more (low + 256 * high) (units_of more) (lt_true (low + 256 * high) 0x10000 (omega arith)) (units_fit more (λ k. h (suc (suc k))))

-- ---- numbers of bytes

pub number_small : (size : ℕ) (xs : List ℕ) → AreBytes xs → little_number size xs < 256 ^ size
number_small size xs h = little_from-lt 0 size xs h

cell_small : (stream : List ℕ) (table row column size : ℕ) → AreBytes stream → column_width stream table column ≡ size → cell stream table row column < 256 ^ size
unfolding cell
cell_small stream table row column size h e =
    subst (λ (n : ℕ). little_number (column_width stream table column) (drop (cell_place stream table row column) stream) < 256 ^ n) e
    (number_small (column_width stream table column) (drop (cell_place stream table row column) stream) (drop_bytes (cell_place stream table row column) stream h))

module _ (image : List ℕ) (bytes : AreBytes image) where
  column_small : (table row column size : ℕ) → column_of table column ≡ Number size → cell (tables_of image) table row column < 256 ^ size
  unfolding column_width
  column_small table row column size e =
      cell_small (tables_of image) table row column size (stream_bytes image _ bytes) (ap (width (row_count (tables_of image)) (heap_sizes (tables_of image))) e)

  -- a cell of two bytes, and one of four
  pub cell_fits_u16 : (table row column : ℕ) → column_of table column ≡ Number 2 → is_u16 (cell (tables_of image) table row column) ≡ true
  cell_fits_u16 table row column e = lt_true (cell (tables_of image) table row column) 0x10000 (column_small table row column 2 e)

  pub cell_fits_u32 : (table row column : ℕ) → column_of table column ≡ Number 4 → is_u32 (cell (tables_of image) table row column) ≡ true
  cell_fits_u32 table row column e = lt_true (cell (tables_of image) table row column) 0x100000000 (column_small table row column 4 e)

  pub blob_fits : (index : ℕ) (blob : List ℕ) → HasBlob (blobs_of image) index blob → are_bytes blob ≡ true
  blob_fits index blob h = bytes_fit blob (blob_bytes (blobs_of image) index blob (stream_bytes image _ bytes) h)

pub place_fits_u16 : (xs : List ℕ) (place : ℕ) → AreBytes xs → is_u16 (u16_at xs place) ≡ true
unfolding u16_at
place_fits_u16 xs place h = lt_true (little_number 2 (drop place xs)) 0x10000 (number_small 2 (drop place xs) (drop_bytes place xs h))

pub place_fits_u32 : (xs : List ℕ) (place : ℕ) → AreBytes xs → is_u32 (u32_at xs place) ≡ true
unfolding u32_at
place_fits_u32 xs place h = lt_true (little_number 4 (drop place xs)) 0x100000000 (number_small 4 (drop place xs) (drop_bytes place xs h))
