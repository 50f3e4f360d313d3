-- The texts of a heap of strings (II.24.2.3), and their hashes.
use Rattle.std.specs.Prelude.{◌≡◌, ℕ, zero, suc, ◌*◌, ◌%◌, ◌^◌, ◌<◌, ◌≤◌, ◌==◌, if◌then◌else◌, List, [], ◌∷◌, length, drop, slice_index, bit_xor}

-- bytes up to the first zero
abbrev pub front : List ℕ → List ℕ
front [] = []
front (byte ∷ bytes) = if byte == 0 then [] else byte ∷ front bytes

-- the bytes from a place on, up to the first zero
unfoldable pub front_at : List ℕ → ℕ → List ℕ
front_at heap place = front (drop place heap)

-- the text at an index; index 0 is the empty text
unfoldable pub text_in : List ℕ → ℕ → List ℕ
text_in heap zero = []
text_in heap (suc k) = front_at heap (suc k)

-- one step of FNV-1 at 32 bits
unfoldable pub mix : ℕ → ℕ → ℕ
mix hash byte = bit_xor ((hash * 0x01000193) % (2 ^ 32)) byte

-- the hash of a text, from its last byte to its first
unfoldable pub text_hash : List ℕ → ℕ
text_hash [] = 0
text_hash (byte ∷ bytes) = mix (text_hash bytes) byte

-- these are the hashes of what stands at each place from one on
pub record AreHashes (heap : List ℕ) (from : ℕ) (hashes : List ℕ) : Type 0 where
  pub long : length hashes ≡ length heap
  pub each : (at : ℕ) → from ≤ at → at < length heap → slice_index hashes at ≡ text_hash (front_at heap at)
