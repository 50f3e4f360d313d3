-- The header of a method's body (II.25.4.1 to II.25.4.4): a tiny one is a byte with the size of the code in its upper six
-- bits, a fat one has 12 bytes. A list of bytes begins with the header.
use Rattle.std.specs.Prelude.{◌≡◌, ◌≢◌, ℕ, ◌+◌, ◌/◌, ◌%◌, ◌<◌, ◌≤◌, ◌==◌, Bool, true, not, ◌&&◌, ◌||◌, if◌then◌else◌, List, [], drop, take, length, slice_index, ◌⊎◌}
use Rattle.byteorder.specs.Endian.{little_number}
use Rattle.type_terms.specs.declared.term.SigType.{SigType}
use Rattle.body_codec.specs.Names.{Notation}

-- the number in some bytes at a place, the lowest first
unfoldable pub number_at : ℕ → ℕ → List ℕ → ℕ
number_at size at bytes = little_number size (drop at bytes)

-- the low two bits are 10
unfoldable pub is_tiny : List ℕ → Bool
is_tiny bytes = slice_index bytes 0 % 4 == 2

-- the low two bits are 11, and the upper four of the first two bytes say that the header has three words of four bytes
unfoldable pub is_fat : List ℕ → Bool
is_fat bytes = (slice_index bytes 0 % 4 == 3) && (slice_index bytes 1 / 16 == 3)

unfoldable pub header_size : List ℕ → ℕ
header_size bytes = if is_tiny bytes then 1 else 12

unfoldable pub code_size : List ℕ → ℕ
code_size bytes = if is_tiny bytes then slice_index bytes 0 / 4 else number_at 4 4 bytes

-- the most values that the stack holds
unfoldable pub bound_of : List ℕ → ℕ
bound_of bytes = if is_tiny bytes then 8 else number_at 2 2 bytes

-- whether locals are set to zero: the flag 0x10
unfoldable pub inits : List ℕ → Bool
inits bytes = not (is_tiny bytes) && (slice_index bytes 0 / 16 % 2 == 1)

-- whether sections follow the code: the flag 8
unfoldable pub has_sections : List ℕ → Bool
has_sections bytes = not (is_tiny bytes) && (slice_index bytes 0 / 8 % 2 == 1)

-- the token of the locals' signature, or 0
unfoldable pub locals_token : List ℕ → ℕ
locals_token bytes = if is_tiny bytes then 0 else number_at 4 8 bytes

-- where the code ends
unfoldable pub code_end : List ℕ → ℕ
code_end bytes = header_size bytes + code_size bytes

-- the bytes of the code
unfoldable pub code_of : List ℕ → List ℕ
code_of bytes = take (code_size bytes) (drop (header_size bytes) bytes)

-- A known header, with at least one byte of code that can be read whole.
pub record HasHeader (bytes : List ℕ) : Type 0 where
  pub known : is_tiny bytes || is_fat bytes ≡ true
  pub some : 0 < code_size bytes
  pub room : code_end bytes ≤ length bytes

-- The locals that a token stands for: none where it is 0.
abbrev pub SpellsLocals : Notation → ℕ → List SigType → Type 0
SpellsLocals w token types = ((token ≡ 0) × (types ≡ [])) ⊎ ((token ≢ 0) × w.locals token types)
