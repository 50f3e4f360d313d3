-- Bytes of an image, and of what is part of it; flags without others.
use Rattle.std.proofs.Common.{◌≡◌, ℕ, zero, suc, ◌-◌, ◌≤◌, List, [], ◌∷◌, ◌++◌, take, drop, bit_and, bit_or, bit_xor, Option, Some, None, sym, subst, arith}
use Rattle.std.specs.Int.{bit_at}
use Rattle.std.specs.Option.{option_map_or}
use Rattle.std.proofs.lemmas.Nat.{or_disjoint}
use Rattle.std.proofs.lemmas.Nat.Bits.{bit_at_and, bit_at_or, bit_at_xor, bit_at-zero, same_from_bits}
use Rattle.heaps.specs.Content.{HasBlob}
use Rattle.pe_layout.specs.CliHeader.{metadata_of, metadata_rva_of, metadata_size_of}
use Rattle.pe_layout.specs.FileMap.{readable, at, raw_end}
use Rattle.image_model.specs.Streams.{stream_of}
use Rattle.image_model.specs.Root.{StreamHeader, header_of}
use Rattle.image_model.specs.Reading.{without}
use Rattle.formed_images.specs.Laws.{AreBytes}

-- ---- parts of bytes are bytes

none_bytes : AreBytes []
none_bytes k = omega arith

take_bytes : (n : ℕ) (xs : List ℕ) → AreBytes xs → AreBytes (take n xs)
take_bytes zero xs h k = omega arith
take_bytes (suc n) [] h k = omega arith
take_bytes (suc n) (x ∷ xs) h zero = h zero
take_bytes (suc n) (x ∷ xs) h (suc k) = take_bytes n xs (λ j. h (suc j)) k

drop_bytes : (n : ℕ) (xs : List ℕ) → AreBytes xs → AreBytes (drop n xs)
drop_bytes zero xs h = h
drop_bytes (suc n) [] h = none_bytes
drop_bytes (suc n) (x ∷ xs) h = drop_bytes n xs (λ j. h (suc j))

front_bytes : (xs ys : List ℕ) → AreBytes (xs ++ ys) → AreBytes xs
front_bytes [] ys h k = omega arith
front_bytes (x ∷ xs) ys h zero = h zero
front_bytes (x ∷ xs) ys h (suc k) = front_bytes xs ys (λ j. h (suc j)) k

back_bytes : (xs ys : List ℕ) → AreBytes (xs ++ ys) → AreBytes ys
back_bytes [] ys h = h
back_bytes (x ∷ xs) ys h = back_bytes xs ys (λ j. h (suc j))

readable_at : (image : List ℕ) (end : ℕ) (o : Option ℕ) → AreBytes image → AreBytes (option_map_or (λ place. take (end - place) (drop place image)) o [])
readable_at image end None h = none_bytes
readable_at image end (Some place) h = take_bytes (end - place) (drop place image) (drop_bytes place image h)

pub readable_bytes : (image : List ℕ) (rva : ℕ) → AreBytes image → AreBytes (readable image rva)
unfolding readable
readable_bytes image rva h = readable_at image (raw_end image rva) (at image rva) h

metadata_bytes : (image : List ℕ) → AreBytes image → AreBytes (metadata_of image)
unfolding metadata_of
metadata_bytes image h = take_bytes (metadata_size_of image) (readable image (metadata_rva_of image)) (readable_bytes image (metadata_rva_of image) h)

stream_at : (metadata : List ℕ) (o : Option StreamHeader) → AreBytes metadata → AreBytes (option_map_or (λ header. take header.size (drop header.offset metadata)) o [])
stream_at metadata None h = none_bytes
stream_at metadata (Some header) h = take_bytes header.size (drop header.offset metadata) (drop_bytes header.offset metadata h)

pub stream_bytes : (image name : List ℕ) → AreBytes image → AreBytes (stream_of (metadata_of image) name)
unfolding stream_of
stream_bytes image name h = stream_at (metadata_of image) (header_of (metadata_of image) name) (metadata_bytes image h)

pub blob_bytes : (heap : List ℕ) (index : ℕ) (blob : List ℕ) → AreBytes heap → HasBlob heap index blob → AreBytes blob
blob_bytes heap zero blob h b = subst AreBytes (sym b) none_bytes
blob_bytes heap (suc k) blob h b =
    front_bytes blob b.1 (back_bytes b.0 (blob ++ b.1) (subst AreBytes b.2 (drop_bytes (suc k) heap h)))

-- ---- flags

-- the bits of a mask taken off
abbrev rest_of : ℕ → ℕ → ℕ
rest_of f m = bit_xor f (bit_and f m)

rest_apart : (f m : ℕ) → bit_and (rest_of f m) (bit_and f m) ≡ 0
rest_apart f m = same_from_bits (bit_and (rest_of f m) (bit_and f m)) 0
    (λ i.
    let one = bit_at_and (rest_of f m) (bit_and f m) i in
    let two = bit_at_xor f (bit_and f m) i in
    let three = bit_at_and f m i in
    let four = bit_at-zero i in
    omega (arith, one, two, three, four, small f i, small m i))
  where
    small : (n i : ℕ) → bit_at n i ≤ 1
    small n i = omega arith

rest_whole : (f m : ℕ) → bit_or (rest_of f m) (bit_and f m) ≡ f
rest_whole f m = same_from_bits (bit_or (rest_of f m) (bit_and f m)) f
    (λ i.
    let one = bit_at_or (rest_of f m) (bit_and f m) i in
    let two = bit_at_xor f (bit_and f m) i in
    let three = bit_at_and f m i in
    omega (arith, one, two, three, small f i, small m i))
  where
    small : (n i : ℕ) → bit_at n i ≤ 1
    small n i = omega arith

rest_is : (f m : ℕ) → without f m ≡ rest_of f m
rest_is f m =
    let both = or_disjoint (rest_of f m) (bit_and f m) (rest_apart f m) in
    let whole = rest_whole f m in
    omega (arith, both, whole)

-- the bits of a mask are clear in flags without them
pub clear : (f m : ℕ) → bit_and (without f m) m ≡ 0
clear f m = rw (rest_is f m) (same_from_bits (bit_and (rest_of f m) m) 0
    (λ i.
    let one = bit_at_and (rest_of f m) m i in
    let two = bit_at_xor f (bit_and f m) i in
    let three = bit_at_and f m i in
    let four = bit_at-zero i in
    omega (arith, one, two, three, four, small f i, small m i)))
  where
    small : (n i : ℕ) → bit_at n i ≤ 1
    small n i = omega arith

-- a bit that isn't in the mask is kept
pub kept : (f m i : ℕ) → bit_at m i ≡ 0 → bit_at (without f m) i ≡ bit_at f i
kept f m i none = rw (rest_is f m) (
    let two = bit_at_xor f (bit_and f m) i in
    let three = bit_at_and f m i in
    omega (arith, two, three, small f i))
  where
    small : (n i : ℕ) → bit_at n i ≤ 1
    small n i = omega arith
