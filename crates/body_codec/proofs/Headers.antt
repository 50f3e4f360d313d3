-- A header is tiny or fat, and a fat one has 12 bytes.
use Rattle.std.proofs.Common.{◌≡◌, ℕ, Bool, true, false, ◌||◌, List, length, arith}
use Rattle.body_codec.specs.Header.{HasHeader, is_tiny, is_fat, code_end}

either : (a b : Bool) → a || b ≡ true → a ≡ false → b ≡ true
either true b e f = cc
either false b e f = e

pub tiny_or_fat : (bytes : List ℕ) → HasHeader bytes → is_tiny bytes ≡ false → is_fat bytes ≡ true
tiny_or_fat bytes h e = either (is_tiny bytes) (is_fat bytes) h.known e

pub none_where_empty : (bytes : List ℕ) → length bytes ≡ 0 → HasHeader bytes → ⊥
unfolding code_end
none_where_empty bytes e h = let some = h.some in let room = h.room in omega arith
