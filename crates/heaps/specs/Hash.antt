-- The hash by which a content is found again.
use Rattle.std.specs.Prelude.{ℕ, ◌*◌, ◌%◌, ◌^◌, List, fold, bit_xor}

-- one step of FNV-1 at 64 bits
unfoldable pub mix : ℕ → ℕ → ℕ
mix hash byte = bit_xor ((hash * 0x00000100000001B3) % (2 ^ 64)) byte

-- the hash of a content
unfoldable pub hash_of : List ℕ → ℕ
hash_of content = fold mix 0xCBF29CE484222325 content
