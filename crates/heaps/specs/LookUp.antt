-- The blob at an index of `#Blob`, computed from the bytes (ECMA-335 II.23.2 and II.24.2.4).
use Rattle.std.specs.Prelude.{◌≡◌, ℕ, zero, suc, ◌+◌, ◌-◌, ◌*◌, ◌^◌, ◌&&◌, ◌↔◌, nat_lt, nat_le, if◌then◌else◌, List, [], ◌∷◌, length, take, drop, Option, Some, None}
use Rattle.heaps.specs.Content.{HasBlob}

-- the first so many bytes
abbrev pub front : ℕ → List ℕ → Option (List ℕ)
front n bytes = if nat_le n (length bytes) then Some (take n bytes) else None

-- as many bytes as a number says whose first byte is `a`, and whose other bytes begin the list
abbrev pub front_of_two : ℕ → List ℕ → Option (List ℕ)
front_of_two a (b ∷ rest) = if nat_lt b 256 then front ((a - 128) * 256 + b) rest else None
front_of_two a [] = None

abbrev pub front_of_four : ℕ → List ℕ → Option (List ℕ)
front_of_four a (b ∷ c ∷ d ∷ rest) =
    if nat_lt b 256 && nat_lt c 256 && nat_lt d 256 then front ((a - 192) * 2 ^ 24 + b * 2 ^ 16 + c * 2 ^ 8 + d) rest else None
front_of_four a rest = None

-- the bytes behind a packed length, as many as it says
abbrev pub counted : List ℕ → Option (List ℕ)
counted [] = None
counted (a ∷ rest) =
    if nat_lt a 128 then front a rest
    else if nat_lt a 192 then front_of_two a rest
    else if nat_lt a 224 then front_of_four a rest
    else None

-- the blob at an index, where one stands there
unfoldable pub blob_in : List ℕ → ℕ → Option (List ℕ)
blob_in heap zero = Some []
blob_in heap (suc k) = counted (drop (suc k) heap)

-- it is the one that HasBlob tells
abbrev pub BlobIsComputed : Type 0
BlobIsComputed = (heap : List ℕ) (at : ℕ) (blob : List ℕ) → HasBlob heap at blob ↔ (blob_in heap at ≡ Some blob)
