-- The streams of an image (II.24.2.2), and what is asked of the CLI header and of the metadata root before any table is
-- looked at.
use Rattle.std.specs.Prelude.{◌≡◌, ℕ, ◌+◌, ◌/◌, ◌^◌, ◌≤◌, ◌⊎◌, List, [], All, length, take, drop, codes, count_by}
use Rattle.std.specs.Int.{bit_at}
use Rattle.std.specs.Option.{option_map_or}
use Rattle.std.specs.Str.{bytes_eq}
use Rattle.pe_layout.specs.Fields.{u32_at}
use Rattle.pe_layout.specs.CliHeader.{cb_of, cor_flags_of, entry_token_of, vtable_fixups_size_of, native_header_size_of, metadata_of, metadata_size_of}
use Rattle.image_model.specs.Root.{header_of, headers_of, headers_end}

-- the bytes of the first stream with a name, none where there is no such stream
unfoldable pub stream_of : List ℕ → List ℕ → List ℕ
stream_of metadata name =
    option_map_or (λ header. take header.size (drop header.offset metadata)) (header_of metadata name) []

-- II.24.2.6: the tables
abbrev pub tables_of : List ℕ → List ℕ
tables_of image = stream_of (metadata_of image) (codes "#~")

-- II.24.2.3 to II.24.2.5: the heaps; an absent one has only its empty entry
abbrev pub strings_of : List ℕ → List ℕ
strings_of image = stream_of (metadata_of image) (codes "#Strings")

abbrev pub user_of : List ℕ → List ℕ
user_of image = stream_of (metadata_of image) (codes "#US")

abbrev pub guids_of : List ℕ → List ℕ
guids_of image = stream_of (metadata_of image) (codes "#GUID")

abbrev pub blobs_of : List ℕ → List ℕ
blobs_of image = stream_of (metadata_of image) (codes "#Blob")

-- I4, the CLI header (II.25.3.3): at least 72 bytes; code of the intermediate language alone, and no native entry point;
-- no vtable fixups and no managed native header; the entry point is none or a method
pub record HasCliHeader (image : List ℕ) : Type 0 where
  pub cb : 72 ≤ cb_of image
  pub il_only : bit_at (cor_flags_of image) 0 ≡ 1
  pub no_native_entry : bit_at (cor_flags_of image) 4 ≡ 0
  pub no_vtable_fixups : vtable_fixups_size_of image ≡ 0
  pub no_native_header : native_header_size_of image ≡ 0
  pub entry : (entry_token_of image ≡ 0) ⊎ (entry_token_of image / 2 ^ 24 ≡ 0x06)

-- how many streams have a name
abbrev pub streams_named : List ℕ → List ℕ → ℕ
streams_named metadata name = count_by (λ header. bytes_eq header.name name) (headers_of metadata)

-- I5, the metadata root (II.24.2.1, II.24.2.2): the metadata can be read; it begins with its signature; its headers and
-- each stream lie in it; there is one `#~` and no `#-`, and each heap stands at most once
pub record HasRoot (image : List ℕ) : Type 0 where
  pub there : length (metadata_of image) ≡ metadata_size_of image
  pub signature : u32_at (metadata_of image) 0 ≡ 0x424A5342
  pub headers : headers_end (metadata_of image) ≤ length (metadata_of image)
  pub inside : All (λ header. header.offset + header.size ≤ length (metadata_of image)) (headers_of (metadata_of image))
  pub tables : streams_named (metadata_of image) (codes "#~") ≡ 1
  pub no_others : streams_named (metadata_of image) (codes "#-") ≡ 0
  pub strings : streams_named (metadata_of image) (codes "#Strings") ≤ 1
  pub user : streams_named (metadata_of image) (codes "#US") ≤ 1
  pub guids : streams_named (metadata_of image) (codes "#GUID") ≤ 1
  pub blobs : streams_named (metadata_of image) (codes "#Blob") ≤ 1
