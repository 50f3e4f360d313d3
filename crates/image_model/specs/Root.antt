-- The metadata root and the streams that its headers name (II.24.2.1, II.24.2.2). A list of bytes is the whole metadata.
use Rattle.std.specs.Prelude.{◌≡◌, ℕ, zero, suc, ◌+◌, ◌-◌, ◌≤◌, ◌==◌, List, [], ◌∷◌, ◌++◌, Option, Some, length, take, drop, replicate}
use Rattle.std.specs.List.{find, before_first}
use Rattle.std.specs.Str.{bytes_eq}
use Rattle.pe_layout.specs.Fields.{u16_at, u32_at, round_up}

-- II.24.2.2: what a stream header says
pub record StreamHeader : Type 0 where
  pub offset : ℕ
  pub size : ℕ
  pub name : List ℕ

-- a name is ended by a zero byte
abbrev pub name_at : List ℕ → ℕ → List ℕ
name_at metadata place = before_first (λ byte. byte == 0) (drop place metadata)

abbrev pub header_at : List ℕ → ℕ → StreamHeader
header_at metadata place =
    record { offset = u32_at metadata place; size = u32_at metadata (place + 4); name = name_at metadata (place + 8) }

-- where the header behind this one begins: a name and its zero are filled up to a multiple of 4
abbrev pub behind_header : List ℕ → ℕ → ℕ
behind_header metadata place = place + 8 + round_up (length (name_at metadata (place + 8)) + 1) 4

-- the headers from a place on, and where they end
abbrev pub headers_from : List ℕ → ℕ → ℕ → List StreamHeader
headers_from metadata place zero = []
headers_from metadata place (suc n) = header_at metadata place ∷ headers_from metadata (behind_header metadata place) n

abbrev pub headers_end_from : List ℕ → ℕ → ℕ → ℕ
headers_end_from metadata place zero = place
headers_end_from metadata place (suc n) = headers_end_from metadata (behind_header metadata place) n

-- II.24.2.1: a version text stands at 16, filled up to a multiple of 4, and behind it the flags
abbrev pub flags_place : List ℕ → ℕ
flags_place metadata = 16 + round_up (u32_at metadata 12) 4

abbrev pub stream_count : List ℕ → ℕ
stream_count metadata = u16_at metadata (flags_place metadata + 2)

unfoldable pub headers_of : List ℕ → List StreamHeader
headers_of metadata = headers_from metadata (flags_place metadata + 4) (stream_count metadata)

unfoldable pub headers_end : List ℕ → ℕ
headers_end metadata = headers_end_from metadata (flags_place metadata + 4) (stream_count metadata)

-- II.24.2.1: the root's signature, versions 1 and 1, and zeros; its headers lie in the metadata
pub record IsRoot (metadata : List ℕ) : Type 0 where
  pub signature : u32_at metadata 0 ≡ 0x424A5342
  pub major : u16_at metadata 4 ≡ 1
  pub minor : u16_at metadata 6 ≡ 1
  pub reserved : u32_at metadata 8 ≡ 0
  pub flags : u16_at metadata (flags_place metadata) ≡ 0
  pub inside : headers_end metadata ≤ length metadata

-- the first header of a stream with this name
unfoldable pub header_of : List ℕ → List ℕ → Option StreamHeader
header_of metadata name = find (λ header. bytes_eq header.name name) (headers_of metadata)

-- the metadata has a stream with this name, and these are its bytes
pub record HasStream (metadata name bytes : List ℕ) : Type 0 where
  pub header : StreamHeader
  pub found : header_of metadata name ≡ Some header
  pub inside : header.offset + header.size ≤ length metadata
  pub bytes_are : take header.size (drop header.offset metadata) ≡ bytes

-- a stream as it is written: filled up with zeros to a multiple of 4
unfoldable pub filled : List ℕ → List ℕ
filled bytes = bytes ++ replicate (round_up (length bytes) 4 - length bytes) 0
