-- The hashes by which texts are found: FNV-1a or FNV-1 at 64 bits over their bytes.
use Rattle.std.specs.Prelude.{ℕ, ◌*◌, ◌%◌, ◌^◌, List, fold, bit_xor}

-- one step of FNV-1a
unfoldable pub mix : ℕ → ℕ → ℕ
mix hash number = (bit_xor hash number * 0x00000100000001B3) % (2 ^ 64)

unfoldable pub mix_text : ℕ → List ℕ → ℕ
mix_text hash text = fold mix hash text

-- the hash of a text alone
unfoldable pub text_hash : List ℕ → ℕ
text_hash text = mix_text 0xCBF29CE484222325 text

-- one step of FNV-1
unfoldable pub mix_near : ℕ → ℕ → ℕ
mix_near hash number = bit_xor ((hash * 0x00000100000001B3) % (2 ^ 64)) number

unfoldable pub mix_text_near : ℕ → List ℕ → ℕ
mix_text_near hash text = fold mix_near hash text
