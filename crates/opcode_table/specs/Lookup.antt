-- A perfect hash: the one place at which a word can stand in a table whose words were put at their places so.
use Rattle.std.specs.Prelude.{ℕ, ◌+◌, ◌*◌, ◌/◌, ◌%◌, List, [], ◌∷◌, slice_index}

-- the hash of the bytes that follow those with hash `h`
abbrev pub hash_from : ℕ → List ℕ → ℕ
hash_from h [] = h
hash_from h (b ∷ bs) = hash_from ((h * 15 + b) % 65536) bs

-- the place that stands in the slot of a word with hash `h`
abbrev pub place_of_hash : List ℕ → List ℕ → ℕ → ℕ
place_of_hash shifts slots h = slice_index slots ((h / 128 + slice_index shifts (h % 128)) % 512)

-- the place at which `word` stands if it stands in the table at all
abbrev pub candidate : List ℕ → List ℕ → List ℕ → ℕ
candidate shifts slots word = place_of_hash shifts slots (hash_from 0 word)
