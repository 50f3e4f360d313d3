-- The frame of a written image: each header field has the value that is written, and the image imports the
-- runtime's entry and jumps to it.
use Rattle.std.specs.Prelude.{◌≡◌, ◌≤◌, ◌-◌, ◌⊎◌, ℕ, ◌+◌, ◌/◌, ◌%◌, List, [], ◌∷◌, ◌++◌, length, take, drop, replicate, All, codes}
use Rattle.pe_layout.specs.declared.parts.Kind.{Kind}
use Rattle.pe_layout.specs.Fields.{u16_at, u32_at, round_up}
use Rattle.pe_layout.specs.Headers.{signature_place_of, machine_of, section_count_of, time_stamp_of, symbol_table_of, symbol_count_of, optional_size_of, characteristics_of, magic_of, linker_major_of, linker_minor_of, code_size_of, initialized_size_of, uninitialized_size_of, entry_rva_of, code_base_of, data_base_of, image_base_of, section_alignment_of, file_alignment_of, os_major_of, os_minor_of, user_major_of, user_minor_of, subsystem_major_of, subsystem_minor_of, reserved_of, image_size_of, header_size_of, checksum_of, dll_flags_of, stack_commit_of, heap_reserve_of, heap_commit_of, loader_flags_of, directory_count_of, directory_rva_of, directory_size_of, section_table_of, section_name_at, virtual_size_at, virtual_address_at, raw_size_at, raw_place_at, relocation_place_at, line_place_at, relocation_count_at, line_count_at, section_flags_at}
use Rattle.pe_layout.specs.FileMap.{readable}
use Rattle.pe_layout.specs.CliHeader.{cb_of, runtime_major_of, runtime_minor_of, resources_rva_of, resources_size_of, strong_name_rva_of, strong_name_size_of, code_manager_rva_of, code_manager_size_of, vtable_fixups_rva_of, vtable_fixups_size_of, export_jumps_rva_of, export_jumps_size_of, native_header_rva_of, native_header_size_of}
use Rattle.pe_layout.specs.Kinds.{characteristics_for, function_for}

-- II.25.2.1: the bytes before the PE signature at 0x80 are 0 but for the signature and its place
pub record HasDosHeader (image : List ℕ) : Type 0 where
  pub signature : take 2 image ≡ 0x4D ∷ 0x5A ∷ []
  pub zeros_before : take 58 (drop 2 image) ≡ replicate 58 0
  pub signature_place : signature_place_of image ≡ 0x80
  pub zeros_after : take 64 (drop 0x40 image) ≡ replicate 64 0

-- II.25.2.2
pub record HasFileHeader (image : List ℕ) (kind : Kind) : Type 0 where
  pub signature : u32_at image (signature_place_of image) ≡ 0x4550
  pub machine : machine_of image ≡ 0x14C
  pub section_count : section_count_of image ≡ 2
  pub time_stamp : time_stamp_of image ≡ 0
  pub symbol_table : symbol_table_of image ≡ 0
  pub symbol_count : symbol_count_of image ≡ 0
  pub optional_size : optional_size_of image ≡ 0xE0
  pub characteristics : characteristics_of image ≡ characteristics_for kind

-- the places of the two section headers
abbrev pub text_header_of : List ℕ → ℕ
text_header_of image = section_table_of image

abbrev pub reloc_header_of : List ℕ → ℕ
reloc_header_of image = section_table_of image + 40

-- II.25.2.3.1; of the entry point speaks `HasEntryStub`
pub record HasStandardFields (image : List ℕ) : Type 0 where
  pub magic : magic_of image ≡ 0x10B
  pub linker_major : linker_major_of image ≡ 6
  pub linker_minor : linker_minor_of image ≡ 0
  pub code_size : code_size_of image ≡ raw_size_at image (text_header_of image)
  pub initialized_size : initialized_size_of image ≡ raw_size_at image (reloc_header_of image)
  pub uninitialized_size : uninitialized_size_of image ≡ 0
  pub code_base : code_base_of image ≡ 0x2000
  pub data_base : data_base_of image ≡ virtual_address_at image (reloc_header_of image)

-- II.25.2.3.2; image base, file alignment, subsystem and stack reserve are the manifest's
pub record HasNtFields (image : List ℕ) : Type 0 where
  pub section_alignment : section_alignment_of image ≡ 0x2000
  pub os_major : os_major_of image ≡ 5
  pub os_minor : os_minor_of image ≡ 0
  pub user_major : user_major_of image ≡ 0
  pub user_minor : user_minor_of image ≡ 0
  pub subsystem_major : subsystem_major_of image ≡ 5
  pub subsystem_minor : subsystem_minor_of image ≡ 0
  pub reserved : reserved_of image ≡ 0
  pub image_size : image_size_of image ≡ round_up (virtual_address_at image (reloc_header_of image) + virtual_size_at image (reloc_header_of image)) 0x2000
  pub header_size : header_size_of image ≡ file_alignment_of image
  pub checksum : checksum_of image ≡ 0
  pub dll_flags : dll_flags_of image ≡ 0
  pub stack_commit : stack_commit_of image ≡ 0x1000
  pub heap_reserve : heap_reserve_of image ≡ 0x100000
  pub heap_commit : heap_commit_of image ≡ 0x1000
  pub loader_flags : loader_flags_of image ≡ 0
  pub directory_count : directory_count_of image ≡ 16

-- a data directory that leads nowhere
abbrev pub IsEmptyDirectory : List ℕ → ℕ → Type 0
IsEmptyDirectory image k =
    (directory_rva_of image k ≡ 0) × (directory_size_of image k ≡ 0)

-- II.25.2.3.3: imports, relocations, import addresses and the CLI header alone lead somewhere
pub record HasDirectories (image : List ℕ) : Type 0 where
  pub imports_size : directory_size_of image 1 ≡ 40
  pub relocations_rva : directory_rva_of image 5 ≡ virtual_address_at image (reloc_header_of image)
  pub relocations_size : directory_size_of image 5 ≡ virtual_size_at image (reloc_header_of image)
  pub addresses_rva : directory_rva_of image 12 ≡ 0x2000
  pub addresses_size : directory_size_of image 12 ≡ 8
  pub cli_rva : directory_rva_of image 14 ≡ 0x2008
  pub cli_size : directory_size_of image 14 ≡ 72
  pub others : All (IsEmptyDirectory image) (0 ∷ 2 ∷ 3 ∷ 4 ∷ 6 ∷ 7 ∷ 8 ∷ 9 ∷ 10 ∷ 11 ∷ 13 ∷ 15 ∷ [])

-- II.25.3: a section header without relocations and line numbers, whose raw size is the true length rounded
-- up to the file alignment
pub record IsSectionHeader (image : List ℕ) (place : ℕ) (name : List ℕ) (rva raw flags : ℕ) : Type 0 where
  pub name_is : section_name_at image place ≡ name
  pub virtual_address : virtual_address_at image place ≡ rva
  pub raw_size : raw_size_at image place ≡ round_up (virtual_size_at image place) (file_alignment_of image)
  pub raw_place : raw_place_at image place ≡ raw
  pub relocation_place : relocation_place_at image place ≡ 0
  pub line_place : line_place_at image place ≡ 0
  pub relocation_count : relocation_count_at image place ≡ 0
  pub line_count : line_count_at image place ≡ 0
  pub flags_are : section_flags_at image place ≡ flags

-- `.text` stands directly after the headers, `.reloc` in memory at the next free multiple of 0x2000 and in
-- the file directly after the raw bytes of `.text`. The last part of `.text` is the entry stub of 6 bytes, so
-- its true length runs to the stub's end; that of `.reloc` is the size of directory 5.
pub record HasSections (image : List ℕ) : Type 0 where
  pub text : IsSectionHeader image (text_header_of image) (codes ".text" ++ replicate 3 0) 0x2000 (header_size_of image) 0x60000020
  pub reloc : IsSectionHeader image (reloc_header_of image) (codes ".reloc" ++ replicate 2 0) (round_up (0x2000 + virtual_size_at image (text_header_of image)) 0x2000) (raw_place_at image (text_header_of image) + raw_size_at image (text_header_of image)) 0x42000040
  pub text_length : 0x2000 + virtual_size_at image (text_header_of image) ≡ entry_rva_of image + 6

-- II.25.3.3; metadata, flags and entry token are the assembly's
pub record HasCliFields (image : List ℕ) : Type 0 where
  pub cb : cb_of image ≡ 72
  pub runtime_major : runtime_major_of image ≡ 2
  pub runtime_minor : runtime_minor_of image ≡ 0
  pub resources_rva : resources_rva_of image ≡ 0
  pub resources_size : resources_size_of image ≡ 0
  pub strong_name_rva : strong_name_rva_of image ≡ 0
  pub strong_name_size : strong_name_size_of image ≡ 0
  pub code_manager_rva : code_manager_rva_of image ≡ 0
  pub code_manager_size : code_manager_size_of image ≡ 0
  pub vtable_fixups_rva : vtable_fixups_rva_of image ≡ 0
  pub vtable_fixups_size : vtable_fixups_size_of image ≡ 0
  pub export_jumps_rva : export_jumps_rva_of image ≡ 0
  pub export_jumps_size : export_jumps_size_of image ≡ 0
  pub native_header_rva : native_header_rva_of image ≡ 0
  pub native_header_size : native_header_size_of image ≡ 0

-- II.25.3.1: a lookup or address table names one function: the RVA of a hint of 0 and the name, then 0
pub record NamesFunction (image table : List ℕ) (kind : Kind) : Type 0 where
  pub function : take 14 (readable image (u32_at table 0)) ≡ 0 ∷ 0 ∷ function_for kind ++ 0 ∷ []
  pub ends : take 4 (drop 4 table) ≡ replicate 4 0

-- II.25.3.1: one descriptor of 20 bytes and 20 zero bytes
pub record HasImports (image imports : List ℕ) (kind : Kind) : Type 0 where
  pub lookup : NamesFunction image (readable image (u32_at imports 0)) kind
  pub time_stamp : u32_at imports 4 ≡ 0
  pub forwarder : u32_at imports 8 ≡ 0
  pub library : take 12 (readable image (u32_at imports 12)) ≡ codes "mscoree.dll" ++ 0 ∷ []
  pub table : u32_at imports 16 ≡ directory_rva_of image 12
  pub addresses : NamesFunction image (readable image (directory_rva_of image 12)) kind
  pub ends : take 20 (drop 20 imports) ≡ replicate 20 0

-- the entry point jumps to the address that the loader puts into the address table
pub record HasEntryStub (image stub : List ℕ) : Type 0 where
  pub jump : take 2 stub ≡ 0xFF ∷ 0x25 ∷ []
  pub address : u32_at stub 2 ≡ image_base_of image + directory_rva_of image 12

-- II.25.3.2: one block, whose one entry of type 3 is the place of the stub's address; an entry of type 0 may
-- pad it
pub record HasRelocation (image block : List ℕ) : Type 0 where
  pub whole : directory_size_of image 5 ≤ length block
  pub size : u32_at block 4 ≡ directory_size_of image 5
  pub page : u32_at block 0 % 0x1000 ≡ 0
  pub type_of : u16_at block 8 / 0x1000 ≡ 3
  pub place : u32_at block 0 + u16_at block 8 % 0x1000 ≡ entry_rva_of image + 2
  pub padding : (directory_size_of image 5 ≡ 10) ⊎ ((directory_size_of image 5 ≡ 12) × (u16_at block 10 / 0x1000 ≡ 0))

pub record HasFrame (image : List ℕ) (kind : Kind) : Type 0 where
  pub dos : HasDosHeader image
  pub file : HasFileHeader image kind
  pub standard : HasStandardFields image
  pub nt : HasNtFields image
  pub directories : HasDirectories image
  pub sections : HasSections image
  pub cli : HasCliFields image
  pub imports : HasImports image (readable image (directory_rva_of image 1)) kind
  pub stub : HasEntryStub image (readable image (entry_rva_of image))
  pub relocation : HasRelocation image (readable image (directory_rva_of image 5))

-- what the file holds of the section whose header stands at a place
abbrev pub raw_bytes_at : List ℕ → ℕ → List ℕ
raw_bytes_at image place =
    take (raw_size_at image place) (drop (raw_place_at image place) image)

-- the bytes behind the true length of a section are 0
abbrev pub IsFilledAt : List ℕ → ℕ → Type 0
IsFilledAt image place =
    drop (virtual_size_at image place) (raw_bytes_at image place) ≡ replicate (raw_size_at image place - virtual_size_at image place) 0

-- headers and sections are filled up with zeros, and behind `.reloc` the file ends
pub record IsFilled (image : List ℕ) : Type 0 where
  pub headers : take (header_size_of image - (text_header_of image + 80)) (drop (text_header_of image + 80) image) ≡ replicate (header_size_of image - (text_header_of image + 80)) 0
  pub text : IsFilledAt image (text_header_of image)
  pub reloc : IsFilledAt image (reloc_header_of image)
  pub ends : length image ≡ raw_place_at image (reloc_header_of image) + raw_size_at image (reloc_header_of image)
