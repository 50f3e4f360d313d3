-- What is asked of the metadata root by itself, and what is found of a stream among its headers (II.24.2.1, II.24.2.2).
use Rattle.std.specs.Prelude.{◌≡◌, ℕ, ◌+◌, ◌≤◌, List, [], All, Option, length, take, drop, codes, count_by}
use Rattle.std.specs.List.{find}
use Rattle.std.specs.Option.{option_map_or}
use Rattle.std.specs.Str.{bytes_eq}
use Rattle.image_model.specs.Root.{StreamHeader, flags_place, stream_count, headers_from, headers_end_from}
use Rattle.image_model.specs.Streams.{stream_of, streams_named}

-- the headers from a place on, and the streams that they name, lie in the metadata
pub record LieFrom (metadata : List ℕ) (place count : ℕ) : Type 0 where
  pub headers : headers_end_from metadata place count ≤ length metadata
  pub streams : All (λ header. header.offset + header.size ≤ length metadata) (headers_from metadata place count)

-- those of the root
abbrev pub LieInside : List ℕ → Type 0
LieInside metadata = LieFrom metadata (flags_place metadata + 4) (stream_count metadata)

-- one stream of tables of this form alone, and each heap at most once
pub record StandOnce (metadata : List ℕ) : Type 0 where
  pub tables : streams_named metadata (codes "#~") ≡ 1
  pub no_others : streams_named metadata (codes "#-") ≡ 0
  pub strings : streams_named metadata (codes "#Strings") ≤ 1
  pub user : streams_named metadata (codes "#US") ≤ 1
  pub guids : streams_named metadata (codes "#GUID") ≤ 1
  pub blobs : streams_named metadata (codes "#Blob") ≤ 1

-- the first of some headers with a name
abbrev pub first_named : List ℕ → List StreamHeader → Option StreamHeader
first_named name headers = find (λ header. bytes_eq header.name name) headers

-- how many of them have it
abbrev pub named : List ℕ → List StreamHeader → ℕ
named name headers = count_by (λ header. bytes_eq header.name name) headers

-- the bytes of a stream, none where there is none
abbrev pub bytes_of : List ℕ → Option StreamHeader → List ℕ
bytes_of metadata header = option_map_or (λ h. take h.size (drop h.offset metadata)) header []

-- these are the streams of the metadata
pub record AreStreams (metadata tables strings user guids blobs : List ℕ) : Type 0 where
  pub tables_are : tables ≡ stream_of metadata (codes "#~")
  pub strings_are : strings ≡ stream_of metadata (codes "#Strings")
  pub user_are : user ≡ stream_of metadata (codes "#US")
  pub guids_are : guids ≡ stream_of metadata (codes "#GUID")
  pub blobs_are : blobs ≡ stream_of metadata (codes "#Blob")
