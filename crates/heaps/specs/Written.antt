-- How a heap's writer spells its entries (ECMA-335 II.24.2.4).
use Rattle.std.specs.Prelude.{◌≡◌, ◌≢◌, ℕ, zero, suc, ◌+◌, ◌*◌, ◌%◌, ◌<◌, ◌≤◌, ◌⊎◌, List, [], ◌∷◌, ◌++◌, length, drop, slice_index}
use Rattle.il_base.specs.Numbers.{Packed, IsShortest, packed_bytes}

-- `#Blob`: as HasBlob says, and no shorter packed number spells the length
abbrev pub HasShortBlob : List ℕ → ℕ → List ℕ → Type 0
HasShortBlob heap zero blob = blob ≡ []
HasShortBlob heap (suc k) blob =
    (spelling : List ℕ) × (rest : List ℕ) × (drop (suc k) heap ≡ spelling ++ (blob ++ rest)) × Packed spelling (length blob)
    × IsShortest Packed spelling (length blob)

-- a UTF-16 unit of these two bytes needs handling beyond that of 8-bit encodings
abbrev pub IsSpecial : ℕ → ℕ → Type 0
IsSpecial low high =
    (high ≢ 0) ⊎ ((0x01 ≤ low) × (low ≤ 0x08)) ⊎ ((0x0E ≤ low) × (low ≤ 0x1F)) ⊎ (low ≡ 0x27) ⊎ (low ≡ 0x2D) ⊎ (low ≡ 0x7F)

-- one of the units does; each is its low byte and then its high byte
abbrev pub HasSpecial : List ℕ → Type 0
HasSpecial units = (k : ℕ) × (2 * k + 1 < length units) × IsSpecial (slice_index units (2 * k)) (slice_index units (2 * k + 1))

-- the last byte of the units' entry: 1 where one of them does, and else 0
abbrev pub IsLastByte : List ℕ → ℕ → Type 0
IsLastByte units last = ((last ≡ 1) × HasSpecial units) ⊎ ((last ≡ 0) × (HasSpecial units → ⊥))

-- `#US`: as HasUnits says, with the last byte that belongs there and the shortest length
abbrev pub HasWrittenUnits : List ℕ → ℕ → List ℕ → Type 0
HasWrittenUnits heap index units =
    (last : ℕ) × HasShortBlob heap index (units ++ last ∷ []) × (length units % 2 ≡ 0) × IsLastByte units last

-- the bytes of a blob's entry
abbrev pub IsBlobEntry : List ℕ → List ℕ → Type 0
IsBlobEntry blob entry = entry ≡ packed_bytes (length blob) ++ blob

-- the bytes of the units' entry
abbrev pub IsUnitsEntry : List ℕ → List ℕ → Type 0
IsUnitsEntry units entry = (last : ℕ) × (entry ≡ packed_bytes (length units + 1) ++ (units ++ last ∷ [])) × IsLastByte units last
