-- A tidy image: no row and no content twice, each number in its shortest form, and each header field as it is written, for a
-- program or a library, with an identifier (II.22, II.23.2, II.24, II.25).
use Rattle.std.specs.Prelude.{◌≡◌, ℕ, ◌%◌, ◌<◌, ◌⊎◌, Bool, List, length, map, slice_index, bit_and}
use Rattle.std.specs.List.{range_with_len}
use Rattle.heaps.specs.Content.{HasText, HasBlob, HasUnits, HasGuid}
use Rattle.heaps.specs.Written.{HasShortBlob, HasWrittenUnits}
use Rattle.pe_layout.specs.Fields.{u32_at}
use Rattle.pe_layout.specs.CliHeader.{cor_flags_of, metadata_of}
use Rattle.pe_layout.specs.Frame.{HasFrame}
use Rattle.pe_layout.specs.Headers.{image_base_of, file_alignment_of}
use Rattle.pe_layout.specs.Numbers.{IsImageBase, IsFileAlignment}
use Rattle.pe_layout.specs.declared.parts.Kind.{Kind}
use Rattle.metadata_tables.specs.Schema.{columns_of}
use Rattle.metadata_tables.specs.Stream.{cell, column_of}
use Rattle.metadata_tables.specs.declared.schema.Column.{Column}
use Rattle.metadata_tables.specs.declared.schema.Column.TheVariants.{Strings, Guids, Blobs}
use Rattle.sig_codec.specs.Spelling.{Notation, shortest, SpellsType}
use Rattle.sig_codec.specs.Signature.{SpellsMethod, SpellsField, SpellsProperty, SpellsLocals, SpellsInstantiation}
use Rattle.image_model.specs.Written.{HasWrittenRoot}
use Rattle.image_model.specs.Streams.{tables_of, strings_of, user_of, guids_of, blobs_of}
use Rattle.image_model.specs.Columns.{module_identifier, field_signature, method_signature, member_signature, property_signature, locals_signature, type_spec_signature, instance_arguments, data_rva}
use Rattle.image_model.specs.Rows.{HasRow}
use Rattle.body_codec.specs.Names.{NameMap}
use Rattle.image_model.specs.Naming.{IsToken}
use Rattle.image_model.specs.Namings.{AreNamings}
use Rattle.image_model.specs.Used.{IsReference, IsUsed}
use Rattle.image_model.specs.Bodies.{HasBody, BodyNames, IsShortestBody}

-- ---- nothing twice

-- the cells of a row
abbrev pub cells_of : List ℕ → ℕ → ℕ → List ℕ
cells_of image table row =
    map (cell (tables_of image) table row) (range_with_len 0 (length (columns_of table)))

-- no two rows of a table of references are equal
abbrev pub HasRowsOnce : List ℕ → Type 0
HasRowsOnce image =
    (table a b : ℕ) → IsReference table → HasRow image table a → HasRow image table b → cells_of image table a ≡ cells_of image table b → a ≡ b

-- a cell of a column of one kind holds an index
pub record IsCellOf (image : List ℕ) (IsKind : Column → Type 0) (index : ℕ) : Type 0 where
  pub table : ℕ
  pub row : ℕ
  pub column : ℕ
  pub there : HasRow image table row
  pub within : column < length (columns_of table)
  pub kind : IsKind (column_of table column)
  pub value : cell (tables_of image) table row column ≡ index

abbrev pub IsStrings : Column → Type 0
IsStrings column = (nil : Bool) × (column ≡ Strings nil)

abbrev pub IsGuids : Column → Type 0
IsGuids column = (nil : Bool) × (column ≡ Guids nil)

abbrev pub IsBlobs : Column → Type 0
IsBlobs column = (nil : Bool) × (column ≡ Blobs nil)

-- the index of a user string that a body loads (III.4.16)
abbrev pub IsLoaded : List ℕ → ℕ → Type 0
IsLoaded image index =
    (method token : ℕ) × HasRow image 0x06 method × BodyNames image method token × IsToken token 0x70 index

-- no two of the indexes in use have one content
abbrev pub HoldsOnce : (ℕ → Type 0) → (ℕ → List ℕ → Type 0) → Type 0
HoldsOnce Uses Has = (a b : ℕ) (content : List ℕ) → Uses a → Uses b → Has a content → Has b content → a ≡ b

pub record HasNothingTwice (image : List ℕ) : Type 0 where
  pub rows : HasRowsOnce image
  pub strings : HoldsOnce (IsCellOf image IsStrings) (HasText (strings_of image))
  pub guids : HoldsOnce (IsCellOf image IsGuids) (HasGuid (guids_of image))
  pub blobs : HoldsOnce (IsCellOf image IsBlobs) (HasBlob (blobs_of image))
  pub user : HoldsOnce (IsLoaded image) (HasUnits (user_of image))

-- ---- shortest forms

-- a signature has each number in its shortest form, where it is in use
abbrev pub ShortAs : {X : Type 0} → List ℕ → (X → List ℕ → Type 0) → ℕ → Type 0
ShortAs {X = X} image Spells index = (x : X) × (bytes : List ℕ) × HasBlob (blobs_of image) index bytes × Spells x bytes

abbrev pub notation_of : NameMap → Notation
notation_of names = shortest names.owners

pub record HasShortSignatures (image : List ℕ) (names : NameMap) : Type 0 where
  pub fields : (row : ℕ) → HasRow image 0x04 row → ShortAs image (SpellsField (notation_of names)) (field_signature image row)
  pub methods : (row : ℕ) → HasRow image 0x06 row → ShortAs image (SpellsMethod (notation_of names)) (method_signature image row)
  pub properties : (row : ℕ) → HasRow image 0x17 row → ShortAs image (SpellsProperty (notation_of names)) (property_signature image row)
  pub members : (row : ℕ) → IsUsed image 0x0A row
      → ShortAs image (SpellsMethod (notation_of names)) (member_signature image row) ⊎ ShortAs image (SpellsField (notation_of names)) (member_signature image row)
  pub locals : (row : ℕ) → IsUsed image 0x11 row → ShortAs image (SpellsLocals (notation_of names)) (locals_signature image row)
  pub types : (row : ℕ) → IsUsed image 0x1B row → ShortAs image (SpellsType (notation_of names)) (type_spec_signature image row)
  pub instances : (row : ℕ) → IsUsed image 0x2B row → ShortAs image (SpellsInstantiation (notation_of names)) (instance_arguments image row)

pub record IsShort (image : List ℕ) : Type 0 where
  pub names : NameMap
  pub named : AreNamings image names
  pub signatures : HasShortSignatures image names
  pub blobs : (index : ℕ) → IsCellOf image IsBlobs index → (blob : List ℕ) × HasShortBlob (blobs_of image) index blob
  pub user : (index : ℕ) → IsLoaded image index → (units : List ℕ) × HasWrittenUnits (user_of image) index units
  pub bodies : (method : ℕ) → HasRow image 0x06 method → HasBody image method → IsShortestBody image names method
  pub data_placed : (row : ℕ) → HasRow image 0x1D row → data_rva image row % 8 ≡ 0

-- ---- header fields

-- II.24.2.6: the header of the tables: reserved, version 2.0, the heap sizes, 1
pub record HasWrittenTables (stream : List ℕ) : Type 0 where
  pub reserved : u32_at stream 0 ≡ 0
  pub major : slice_index stream 4 ≡ 2
  pub minor : slice_index stream 5 ≡ 0
  pub reserved_one : slice_index stream 7 ≡ 1

-- image base and file alignment are ones that a reading keeps (II.25.2.3.2), and the flag of a signed image is unset (II.25.3.3.1)
pub record HasKeptNumbers (image : List ℕ) : Type 0 where
  pub image_base : IsImageBase (image_base_of image)
  pub file_alignment : IsFileAlignment (file_alignment_of image)
  pub unsigned : bit_and (cor_flags_of image) 8 ≡ 0

-- each header field has the value that is written, and the module has this identifier
pub record HasWrittenFields (image : List ℕ) (kind : Kind) (id : List ℕ) : Type 0 where
  pub frame : HasFrame image kind
  pub numbers : HasKeptNumbers image
  pub root : HasWrittenRoot (metadata_of image)
  pub tables : HasWrittenTables (tables_of image)
  pub identifier : HasGuid (guids_of image) (module_identifier image 1) id

pub record IsTidy (image : List ℕ) (kind : Kind) (id : List ℕ) : Type 0 where
  pub once : HasNothingTwice image
  pub short : IsShort image
  pub fields : HasWrittenFields image kind id
