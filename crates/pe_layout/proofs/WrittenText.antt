-- What `.text` and `.reloc` hold in an image that is written.
use Rattle.std.proofs.Common.{◌≡◌, ℕ, ◌+◌, ◌*◌, ◌/◌, ◌%◌, ◌^◌, ◌<◌, List, [], ◌∷◌, ◌++◌, length, take, drop, replicate, refl, arith, codes}
use Rattle.byteorder.specs.Numbers.{little_number-reads_back}
use Rattle.pe_layout.specs.declared.layout.Layout.{Layout}
use Rattle.pe_layout.specs.declared.parts.Kind.{Kind}
use Rattle.pe_layout.specs.declared.parts.Kind.TheVariants.{Exe, Dll}
use Rattle.pe_layout.specs.declared.parts.ManifestNumbers.{ManifestNumbers}
use Rattle.pe_layout.specs.Fields.{u16_at, u32_at}
use Rattle.pe_layout.specs.Kinds.{function_for}
use Rattle.pe_layout.specs.Layout.{text_front, text_back, relocations}

pub length-text_front : (l : Layout) (metadata flags entry : ℕ) → length (text_front l metadata flags entry) ≡ 80
unfolding text_front
length-text_front l metadata flags entry = refl

pub length-text_back : (l : Layout) (n : ManifestNumbers) (kind : Kind) → length (text_back l n kind) ≡ 80
unfolding text_back
length-text_back l n Exe = refl
length-text_back l n Dll = refl

pub length-relocations : (l : Layout) → length (relocations l) ≡ 12
unfolding relocations
length-relocations l = refl

-- the address table
pub record IsAddressTable (front : List ℕ) (l : Layout) : Type 0 where
  pub entry : u32_at front 0 ≡ l.imports_rva + 48
  pub ends : take 4 (drop 4 front) ≡ replicate 4 0

pub address_table : (l : Layout) (metadata flags entry : ℕ) (rest : List ℕ) → l.imports_rva < 2 ^ 27 → IsAddressTable (text_front l metadata flags entry ++ rest) l
unfolding text_front u32_at
address_table l metadata flags entry rest h =
    record { entry = little_number-reads_back 4 (l.imports_rva + 48) [] (omega arith); ends = refl }

-- the 72 bytes of the CLI header
pub record IsCliHeader (cli : List ℕ) (l : Layout) (metadata flags entry : ℕ) : Type 0 where
  pub cb : u32_at cli 0 ≡ 72
  pub major : u16_at cli 4 ≡ 2
  pub minor : u16_at cli 6 ≡ 0
  pub metadata_rva : u32_at cli 8 ≡ l.metadata_rva
  pub metadata_size : u32_at cli 12 ≡ metadata
  pub cor_flags : u32_at cli 16 ≡ flags
  pub entry_token : u32_at cli 20 ≡ entry
  pub zero_24 : u32_at cli 24 ≡ 0
  pub zero_28 : u32_at cli 28 ≡ 0
  pub zero_32 : u32_at cli 32 ≡ 0
  pub zero_36 : u32_at cli 36 ≡ 0
  pub zero_40 : u32_at cli 40 ≡ 0
  pub zero_44 : u32_at cli 44 ≡ 0
  pub zero_48 : u32_at cli 48 ≡ 0
  pub zero_52 : u32_at cli 52 ≡ 0
  pub zero_56 : u32_at cli 56 ≡ 0
  pub zero_60 : u32_at cli 60 ≡ 0
  pub zero_64 : u32_at cli 64 ≡ 0
  pub zero_68 : u32_at cli 68 ≡ 0

pub cli_header : (l : Layout) (metadata flags entry : ℕ) (rest : List ℕ) → l.metadata_rva < 2 ^ 32 → metadata < 2 ^ 32 → flags < 2 ^ 32 → entry < 2 ^ 32
    → IsCliHeader (take 72 (drop 8 (text_front l metadata flags entry ++ rest))) l metadata flags entry
unfolding text_front u16_at u32_at
cli_header l metadata flags entry rest rva size fits token =
    record {
      cb = refl;
      major = refl;
      minor = refl;
      metadata_rva = little_number-reads_back 4 l.metadata_rva [] rva;
      metadata_size = little_number-reads_back 4 metadata [] size;
      cor_flags = little_number-reads_back 4 flags [] fits;
      entry_token = little_number-reads_back 4 entry [] token;
      zero_24 = refl;
      zero_28 = refl;
      zero_32 = refl;
      zero_36 = refl;
      zero_40 = refl;
      zero_44 = refl;
      zero_48 = refl;
      zero_52 = refl;
      zero_56 = refl;
      zero_60 = refl;
      zero_64 = refl;
      zero_68 = refl;
    }

-- imports and stub
pub record IsBack (back : List ℕ) (l : Layout) (n : ManifestNumbers) (kind : Kind) : Type 0 where
  pub lookup : u32_at back 0 ≡ l.imports_rva + 40
  pub time_stamp : u32_at back 4 ≡ 0
  pub forwarder : u32_at back 8 ≡ 0
  pub library : u32_at back 12 ≡ l.imports_rva + 62
  pub table : u32_at back 16 ≡ 0x2000
  pub ends : take 20 (drop 20 back) ≡ replicate 20 0
  pub entry : u32_at (drop 40 back) 0 ≡ l.imports_rva + 48
  pub entry_ends : take 4 (drop 4 (drop 40 back)) ≡ replicate 4 0
  pub function : take 14 (drop 48 back) ≡ 0 ∷ 0 ∷ function_for kind ++ 0 ∷ []
  pub name : take 12 (drop 62 back) ≡ codes "mscoree.dll" ++ 0 ∷ []
  pub jump : take 2 (drop 74 back) ≡ 0xFF ∷ 0x25 ∷ []
  pub address : u32_at (drop 74 back) 2 ≡ n.image_base + 0x2000

pub is_back : (l : Layout) (n : ManifestNumbers) (kind : Kind) (rest : List ℕ) → l.imports_rva < 2 ^ 27 → n.image_base + 0x2000 < 2 ^ 32 → IsBack (text_back l n kind ++ rest) l n kind
unfolding text_back u32_at
is_back l n Exe rest h base =
    record {
      lookup = little_number-reads_back 4 (l.imports_rva + 40) [] (omega arith);
      time_stamp = refl;
      forwarder = refl;
      library = little_number-reads_back 4 (l.imports_rva + 62) [] (omega arith);
      table = refl;
      ends = refl;
      entry = little_number-reads_back 4 (l.imports_rva + 48) [] (omega arith);
      entry_ends = refl;
      function = refl;
      name = refl;
      jump = refl;
      address = little_number-reads_back 4 (n.image_base + 0x2000) [] base;
    }
is_back l n Dll rest h base =
    record {
      lookup = little_number-reads_back 4 (l.imports_rva + 40) [] (omega arith);
      time_stamp = refl;
      forwarder = refl;
      library = little_number-reads_back 4 (l.imports_rva + 62) [] (omega arith);
      table = refl;
      ends = refl;
      entry = little_number-reads_back 4 (l.imports_rva + 48) [] (omega arith);
      entry_ends = refl;
      function = refl;
      name = refl;
      jump = refl;
      address = little_number-reads_back 4 (n.image_base + 0x2000) [] base;
    }

-- the block of relocations
pub record IsBlock (block : List ℕ) (l : Layout) : Type 0 where
  pub page : u32_at block 0 ≡ (l.imports_rva + 74 + 2) / 0x1000 * 0x1000
  pub size : u32_at block 4 ≡ 12
  pub entry : u16_at block 8 ≡ 0x3000 + (l.imports_rva + 74 + 2) % 0x1000
  pub padding : u16_at block 10 ≡ 0

pub is_block : (l : Layout) (rest : List ℕ) → l.imports_rva < 2 ^ 27 → IsBlock (relocations l ++ rest) l
unfolding relocations u16_at u32_at
is_block l rest h =
    let place = l.imports_rva + 74 + 2 in
    record {
      page = little_number-reads_back 4 (place / 0x1000 * 0x1000) [] (omega arith);
      size = refl;
      entry = little_number-reads_back 2 (0x3000 + place % 0x1000) [] (omega arith);
      padding = refl;
    }
