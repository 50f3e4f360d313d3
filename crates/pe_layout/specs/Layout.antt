-- How the writer lays an image out.
use Rattle.std.specs.Prelude.{ℕ, ◌+◌, ◌-◌, ◌*◌, ◌/◌, ◌%◌, ◌^◌, ◌<◌, ◌≤◌, List, [], ◌∷◌, ◌++◌, length, replicate, codes}
use Rattle.std.specs.List.{flat_map}
use Rattle.byteorder.specs.Endian.{little_bytes}
use Rattle.pe_layout.specs.declared.field.Field.{Field}
use Rattle.pe_layout.specs.declared.field.Field.TheVariants.{Byte, Half, Word, Name, Text, Zeros}
use Rattle.pe_layout.specs.declared.layout.Layout.{Layout}
use Rattle.pe_layout.specs.declared.parts.Kind.{Kind}
use Rattle.pe_layout.specs.declared.parts.ManifestNumbers.{ManifestNumbers}
use Rattle.pe_layout.specs.declared.parts.Parts.{Parts}
use Rattle.pe_layout.specs.Fields.{round_up}
use Rattle.pe_layout.specs.Kinds.{characteristics_for, function_for}

abbrev pub field_bytes : Field → List ℕ
field_bytes (Byte n) = n ∷ []
field_bytes (Half n) = little_bytes 2 n
field_bytes (Word n) = little_bytes 4 n
field_bytes (Name bytes) = bytes
field_bytes (Text bytes) = bytes
field_bytes (Zeros n) = replicate n 0

-- the bytes of fields, one after the other
abbrev pub spelled : List Field → List ℕ
spelled fields = flat_map field_bytes fields

-- `.text` holds the address table, the CLI header, code and metadata, each filled up to a multiple of 4,
-- and 80 bytes of imports and stub; `.reloc` has the next free multiple of 0x2000
unfoldable pub layout_of : ℕ → ℕ → ℕ → Layout
layout_of code metadata alignment =
    let imports = 0x2050 + round_up code 4 + round_up metadata 4 in
    let text = imports + 80 - 0x2000 in
    record { metadata_rva = 0x2050 + round_up code 4; imports_rva = imports; text_size = text; text_raw = round_up text alignment; reloc_rva = round_up (0x2000 + text) 0x2000; reloc_raw = round_up 12 alignment }

-- the numbers that the caller gives fit their types
pub record IsRanged (p : Parts) : Type 0 where
  pub entry : p.entry < 2 ^ 32
  pub stack_reserve : p.numbers.stack_reserve < 2 ^ 32
  pub subsystem : p.numbers.subsystem < 2 ^ 16
  pub cor_flags : p.numbers.cor_flags < 2 ^ 32

-- what is laid out has far fewer bytes than an RVA can name, and each section is filled up
pub record IsBounded (l : Layout) : Type 0 where
  pub imports_rva : l.imports_rva < 2 ^ 27
  pub text_raw : l.text_raw < 2 ^ 27
  pub text_filled : l.text_size ≤ l.text_raw
  pub reloc_rva : l.reloc_rva < 2 ^ 27
  pub reloc_raw : l.reloc_raw < 2 ^ 27
  pub reloc_filled : 12 ≤ l.reloc_raw

abbrev pub stub_rva_of : Layout → ℕ
stub_rva_of l = l.imports_rva + 74

-- II.25.2.1
unfoldable pub dos_header : List ℕ
dos_header = spelled (Half 0x5A4D ∷ Zeros 58 ∷ Word 0x80 ∷ Zeros 64 ∷ [])

-- II.25.2.2, behind the signature
unfoldable pub file_header : Kind → List ℕ
file_header kind =
    spelled (Word 0x4550 ∷ Half 0x14C ∷ Half 2 ∷ Zeros 12 ∷ Half 0xE0 ∷ Half (characteristics_for kind) ∷ [])

-- II.25.2.3.1
unfoldable pub standard_fields : Layout → List ℕ
standard_fields l =
    spelled (Half 0x10B ∷ Byte 6 ∷ Byte 0 ∷ Word l.text_raw ∷ Word l.reloc_raw ∷ Word 0 ∷ Word (stub_rva_of l) ∷ Word 0x2000 ∷ Word l.reloc_rva ∷ [])

-- II.25.2.3.2
unfoldable pub nt_fields : Layout → ManifestNumbers → List ℕ
nt_fields l n =
    spelled (Word n.image_base ∷ Word 0x2000 ∷ Word n.file_alignment ∷ Half 5 ∷ Zeros 6 ∷ Half 5 ∷ Zeros 6 ∷ Word (l.reloc_rva + 0x2000) ∷ Word n.file_alignment ∷ Word 0 ∷ Half n.subsystem ∷ Half 0 ∷ Word n.stack_reserve ∷ Word 0x1000 ∷ Word 0x100000 ∷ Word 0x1000 ∷ Word 0 ∷ Word 16 ∷ [])

-- II.25.2.3.3
unfoldable pub directories : Layout → List ℕ
directories l =
    spelled (Zeros 8 ∷ Word l.imports_rva ∷ Word 40 ∷ Zeros 24 ∷ Word l.reloc_rva ∷ Word 12 ∷ Zeros 48 ∷ Word 0x2000 ∷ Word 8 ∷ Zeros 8 ∷ Word 0x2008 ∷ Word 72 ∷ Zeros 8 ∷ [])

-- II.25.3
unfoldable pub section_headers : Layout → ℕ → List ℕ
section_headers l alignment =
    spelled (Name (codes ".text" ++ replicate 3 0) ∷ Word l.text_size ∷ Word 0x2000 ∷ Word l.text_raw ∷ Word alignment ∷ Zeros 12 ∷ Word 0x60000020 ∷ Name (codes ".reloc" ++ replicate 2 0) ∷ Word 12 ∷ Word l.reloc_rva ∷ Word l.reloc_raw ∷ Word (alignment + l.text_raw) ∷ Zeros 12 ∷ Word 0x42000040 ∷ [])

-- all headers, 456 bytes
unfoldable pub headers : Layout → ManifestNumbers → Kind → List ℕ
headers l n kind =
    dos_header ++ file_header kind ++ standard_fields l ++ nt_fields l n ++ directories l ++ section_headers l n.file_alignment

-- II.25.3.1: the address table, 8 bytes, and II.25.3.3: the CLI header, 72 bytes
unfoldable pub text_front : Layout → ℕ → ℕ → ℕ → List ℕ
text_front l metadata flags entry =
    spelled (Word (l.imports_rva + 48) ∷ Word 0 ∷ Word 72 ∷ Half 2 ∷ Half 0 ∷ Word l.metadata_rva ∷ Word metadata ∷ Word flags ∷ Word entry ∷ Zeros 48 ∷ [])

-- II.25.3.1: the descriptor and 20 zero bytes, the lookup table, hint and name of the function, the name
-- of the library; then the stub, which jumps to the address in the address table
unfoldable pub text_back : Layout → ManifestNumbers → Kind → List ℕ
text_back l n kind =
    spelled (Word (l.imports_rva + 40) ∷ Zeros 8 ∷ Word (l.imports_rva + 62) ∷ Word 0x2000 ∷ Zeros 20 ∷ Word (l.imports_rva + 48) ∷ Word 0 ∷ Half 0 ∷ Text (function_for kind ++ 0 ∷ []) ∷ Text (codes "mscoree.dll" ++ 0 ∷ []) ∷ Byte 0xFF ∷ Byte 0x25 ∷ Word (n.image_base + 0x2000) ∷ [])

-- II.25.3.2: one block, whose one entry of type 3 is the place of the stub's address
unfoldable pub relocations : Layout → List ℕ
relocations l =
    let place = stub_rva_of l + 2 in
    spelled (Word (place / 0x1000 * 0x1000) ∷ Word 12 ∷ Half (0x3000 + place % 0x1000) ∷ Half 0 ∷ [])

-- code or metadata, filled up with zeros to a multiple of 4
unfoldable pub padded : List ℕ → List ℕ
padded bytes = bytes ++ replicate (round_up (length bytes) 4 - length bytes) 0

unfoldable pub text : Layout → Parts → List ℕ
text l p =
    text_front l (length p.metadata) p.numbers.cor_flags p.entry ++ padded p.code ++ padded p.metadata ++ text_back l p.numbers p.kind

-- headers, `.text` and `.reloc`, each filled up with zeros
unfoldable pub image_by : Layout → Parts → List ℕ
image_by l p =
    headers l p.numbers p.kind ++ replicate (p.numbers.file_alignment - 456) 0 ++ text l p ++ replicate (l.text_raw - l.text_size) 0
    ++ relocations l ++ replicate (l.reloc_raw - 12) 0

unfoldable pub image_of : Parts → List ℕ
image_of p =
    image_by (layout_of (length p.code) (length p.metadata) p.numbers.file_alignment) p
