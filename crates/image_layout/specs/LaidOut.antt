-- An image in which heaps, rows and code are laid out (ECMA-335 II.24.2, II.25): the file's frame, the metadata root with its five
-- streams, each filled up to a multiple of 4, and the code behind the CLI header.
use Rattle.std.specs.Prelude.{◌≡◌, ℕ, List, None, codes}
use Rattle.assembly_tree.specs.declared.assembly.Manifest.{Manifest}
use Rattle.heaps.specs.Content.{HasGuid}
use Rattle.image_model.specs.Root.{IsRoot, HasStream, filled}
use Rattle.image_model.specs.Streams.{tables_of, strings_of, user_of, guids_of, blobs_of, HasRoot}
use Rattle.image_model.specs.Written.{HasWrittenRoot}
use Rattle.metadata_tables.specs.Encoding.{Holds}
use Rattle.pe_layout.specs.CliHeader.{entry_token_of, metadata_of}
use Rattle.pe_layout.specs.Faults.{pe_fault}
use Rattle.pe_layout.specs.FileMap.{StandsAt}
use Rattle.pe_layout.specs.Frame.{HasFrame, IsFilled}
use Rattle.pe_layout.specs.Numbers.{numbers_of}
use Rattle.pe_layout.specs.declared.parts.Kind.{Kind}
use Rattle.pe_layout.specs.declared.parts.ManifestNumbers.{ManifestNumbers}
use Rattle.image_tokens.specs.declared.references.References.{References}
use Rattle.image_layout.specs.Sizes.{heap_flags}
use Rattle.image_members.specs.Pushing.{Tables}

-- the metadata with the streams of these rows and of the heaps of these references, and with one identifier
pub record HoldsParts (r : References) (tables : Tables) (id metadata : List ℕ) : Type 0 where
  pub stream : List ℕ
  pub holds : Holds tables (heap_flags r) stream
  pub root : IsRoot metadata
  pub written : HasWrittenRoot metadata
  pub has_tables : HasStream metadata (codes "#~") (filled stream)
  pub has_strings : HasStream metadata (codes "#Strings") (filled r.heaps.strings.bytes)
  pub has_user : HasStream metadata (codes "#US") (filled r.heaps.user.bytes)
  pub has_guids : HasStream metadata (codes "#GUID") (filled id)
  pub has_blobs : HasStream metadata (codes "#Blob") (filled r.heaps.blobs.bytes)

-- the numbers of the headers are the manifest's
abbrev pub numbers_in : Manifest → ManifestNumbers
numbers_in m =
    record { image_base = m.image_base; file_alignment = m.file_alignment; stack_reserve = m.stack_reserve; subsystem = m.subsystem; cor_flags = m.cor_flags }

-- the stream of tables, which holds these rows; `wide` is its byte of heap sizes
pub record HoldsTables (wide : ℕ) (tables : Tables) (image : List ℕ) : Type 0 where
  pub stream : List ℕ
  pub holds : Holds tables wide stream
  pub is : tables_of image ≡ filled stream

-- the streams hold the rows, and the heaps of these references; the identifier is the only one
pub record HoldsMetadata (r : References) (tables : Tables) (id image : List ℕ) : Type 0 where
  pub root : HasRoot image
  pub written : HasWrittenRoot (metadata_of image)
  pub rows : HoldsTables (heap_flags r) tables image
  pub strings : strings_of image ≡ filled r.heaps.strings.bytes
  pub user : user_of image ≡ filled r.heaps.user.bytes
  pub blobs : blobs_of image ≡ filled r.heaps.blobs.bytes
  pub guids : guids_of image ≡ id
  pub identifier : HasGuid (guids_of image) 1 id

pub record IsLaidOut (m : Manifest) (r : References) (tables : Tables) (code : List ℕ) (entry : ℕ) (id : List ℕ) (kind : Kind) (image : List ℕ) : Type 0 where
  pub opens : pe_fault image ≡ None
  pub frame : HasFrame image kind
  pub filled_up : IsFilled image
  pub numbers : numbers_of image ≡ numbers_in m
  pub entry_is : entry_token_of image ≡ entry
  pub code_is : StandsAt image 0x2050 code
  pub metadata : HoldsMetadata r tables id image
