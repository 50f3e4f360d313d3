-- The metadata that is written: a root with the version text `v4.0.30319`, and five streams behind it in a fixed order.
use Rattle.std.specs.Prelude.{◌≡◌, ℕ, ◌+◌, ◌%◌, List, [], ◌∷◌, ◌++◌, All, length, map, take, drop, replicate, codes}
use Rattle.byteorder.specs.Endian.{little_bytes}
use Rattle.pe_layout.specs.Fields.{u16_at, u32_at}
use Rattle.image_model.specs.Root.{StreamHeader, IsRoot, HasStream, headers_of, flags_place, filled}
use Rattle.image_model.specs.declared.metadata.Streams.{Streams}

-- the root up to the stream headers
abbrev pub root_front : List ℕ
root_front =
    0x42 ∷ 0x53 ∷ 0x4A ∷ 0x42 ∷ 1 ∷ 0 ∷ 1 ∷ 0 ∷ 0 ∷ 0 ∷ 0 ∷ 0 ∷ 12 ∷ 0 ∷ 0 ∷ 0 ∷ 0x76 ∷ 0x34 ∷ 0x2E ∷ 0x30 ∷ 0x2E ∷ 0x33 ∷ 0x30 ∷ 0x33 ∷ 0x31 ∷ 0x39 ∷ 0 ∷ 0 ∷ 0 ∷ 0 ∷ 5 ∷ 0 ∷ []

-- a stream header, its name filled up with zeros
abbrev pub header_bytes : ℕ → ℕ → List ℕ → List ℕ
header_bytes offset size name = little_bytes 4 offset ++ (little_bytes 4 size ++ name)

-- the names of the streams, each ended by a zero and filled up to a multiple of 4
abbrev pub tables_name : List ℕ
tables_name = 0x23 ∷ 0x7E ∷ 0 ∷ 0 ∷ []

abbrev pub strings_name : List ℕ
strings_name = 0x23 ∷ 0x53 ∷ 0x74 ∷ 0x72 ∷ 0x69 ∷ 0x6E ∷ 0x67 ∷ 0x73 ∷ 0 ∷ 0 ∷ 0 ∷ 0 ∷ []

abbrev pub user_name : List ℕ
user_name = 0x23 ∷ 0x55 ∷ 0x53 ∷ 0 ∷ []

abbrev pub guids_name : List ℕ
guids_name = 0x23 ∷ 0x47 ∷ 0x55 ∷ 0x49 ∷ 0x44 ∷ 0 ∷ 0 ∷ 0 ∷ []

abbrev pub blobs_name : List ℕ
blobs_name = 0x23 ∷ 0x42 ∷ 0x6C ∷ 0x6F ∷ 0x62 ∷ 0 ∷ 0 ∷ 0 ∷ []

-- the root for streams of these sizes: 108 bytes
abbrev pub root_of : (a b c d e : ℕ) → List ℕ
root_of a b c d e =
    root_front ++ (header_bytes 108 a tables_name ++ (header_bytes (108 + a) b strings_name ++ (header_bytes (108 + a + b) c user_name
    ++ (header_bytes (108 + a + b + c) d guids_name ++ header_bytes (108 + a + b + c + d) e blobs_name))))

-- the metadata: the root, and the streams one after the other
abbrev pub metadata_by : (a b c d e : List ℕ) → List ℕ
metadata_by a b c d e = root_of (length a) (length b) (length c) (length d) (length e) ++ (a ++ (b ++ (c ++ (d ++ e))))

unfoldable pub metadata_of : Streams → List ℕ
metadata_of s = metadata_by (filled s.tables.now) (filled s.strings.now) (filled s.user.now) (filled s.guids.now) (filled s.blobs.now)

-- how many bytes the streams have
abbrev pub total_of : Streams → ℕ
total_of s = length s.tables.now + length s.strings.now + length s.user.now + length s.guids.now + length s.blobs.now

-- the metadata has these streams, each filled up
pub record HoldsStreams (s : Streams) (metadata : List ℕ) : Type 0 where
  pub root : IsRoot metadata
  pub tables : HasStream metadata (codes "#~") (filled s.tables.now)
  pub strings : HasStream metadata (codes "#Strings") (filled s.strings.now)
  pub user : HasStream metadata (codes "#US") (filled s.user.now)
  pub guids : HasStream metadata (codes "#GUID") (filled s.guids.now)
  pub blobs : HasStream metadata (codes "#Blob") (filled s.blobs.now)

-- ---- the header fields of a written root

-- II.24.2.1: the version text
abbrev pub version_text : List ℕ
version_text = codes "v4.0.30319" ++ replicate 2 0

abbrev pub stream_names : List (List ℕ)
stream_names = codes "#~" ∷ codes "#Strings" ∷ codes "#US" ∷ codes "#GUID" ∷ codes "#Blob" ∷ []

-- the metadata root as it is written; each stream begins and ends at a multiple of 4
pub record HasWrittenRoot (metadata : List ℕ) : Type 0 where
  pub signature : u32_at metadata 0 ≡ 0x424A5342
  pub major : u16_at metadata 4 ≡ 1
  pub minor : u16_at metadata 6 ≡ 1
  pub reserved : u32_at metadata 8 ≡ 0
  pub version_length : u32_at metadata 12 ≡ 12
  pub version : take 12 (drop 16 metadata) ≡ version_text
  pub flags : u16_at metadata (flags_place metadata) ≡ 0
  pub names : map (λ (header : StreamHeader). header.name) (headers_of metadata) ≡ stream_names
  pub aligned : All (λ header. (header.offset % 4 ≡ 0) × (header.size % 4 ≡ 0)) (headers_of metadata)
