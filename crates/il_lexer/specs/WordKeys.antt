-- Keys of texts, and the one place at which a word can stand by its key.
use Rattle.std.specs.Prelude.{ℕ, ◌+◌, ◌*◌, ◌/◌, ◌%◌, ◌^◌, List, [], ◌∷◌, slice_index}

-- the key of a text with one byte more: of its last eight bytes the first is the highest
abbrev pub key_more : ℕ → ℕ → ℕ
key_more key b = key % 72057594037927936 * 256 + b

-- the key of a text that goes on so behind a text with this key
abbrev pub key_from : ℕ → List ℕ → ℕ
key_from key [] = key
key_from key (b ∷ bs) = key_from (key_more key b) bs

-- the slot of a key and a first byte
abbrev pub slot_of : ℕ → ℕ → ℕ
slot_of key first = (key + first) % 2 ^ 64 * 14411597528387888075 % 2 ^ 64 / 4503599627370496

-- the place that stands in the slot of a key and a first byte
abbrev pub place_of : List ℕ → ℕ → ℕ → ℕ
place_of slots key first = slice_index slots (slot_of key first)

-- the place at which `text` stands if it stands in the table at all
abbrev pub candidate : List ℕ → List ℕ → ℕ
candidate slots text = place_of slots (key_from 0 text) (slice_index text 0)
