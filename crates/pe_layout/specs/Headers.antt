-- The fields of a PE file's headers, by their names in II.25.2 and II.25.3.
use Rattle.std.specs.Prelude.{ℕ, ◌+◌, ◌*◌, List, take, drop}
use Rattle.pe_layout.specs.Fields.{u8_at, u16_at, u32_at}

-- II.25.2.1: the place of the PE signature, after which the PE file header begins
abbrev pub signature_place_of : List ℕ → ℕ
signature_place_of image = u32_at image 0x3C

-- II.25.2.2, the PE file header: 20 bytes
abbrev pub machine_of : List ℕ → ℕ
machine_of image = u16_at image (signature_place_of image + 4)

abbrev pub section_count_of : List ℕ → ℕ
section_count_of image = u16_at image (signature_place_of image + 6)

abbrev pub time_stamp_of : List ℕ → ℕ
time_stamp_of image = u32_at image (signature_place_of image + 8)

abbrev pub symbol_table_of : List ℕ → ℕ
symbol_table_of image = u32_at image (signature_place_of image + 12)

abbrev pub symbol_count_of : List ℕ → ℕ
symbol_count_of image = u32_at image (signature_place_of image + 16)

abbrev pub optional_size_of : List ℕ → ℕ
optional_size_of image = u16_at image (signature_place_of image + 20)

abbrev pub characteristics_of : List ℕ → ℕ
characteristics_of image = u16_at image (signature_place_of image + 22)

-- II.25.2.3: where the optional header begins, which is as long as the PE file header says
abbrev pub optional_place_of : List ℕ → ℕ
optional_place_of image = signature_place_of image + 24

-- II.25.2.3.1, the standard fields: 28 bytes
abbrev pub magic_of : List ℕ → ℕ
magic_of image = u16_at image (optional_place_of image)

abbrev pub linker_major_of : List ℕ → ℕ
linker_major_of image = u8_at image (optional_place_of image + 2)

abbrev pub linker_minor_of : List ℕ → ℕ
linker_minor_of image = u8_at image (optional_place_of image + 3)

abbrev pub code_size_of : List ℕ → ℕ
code_size_of image = u32_at image (optional_place_of image + 4)

abbrev pub initialized_size_of : List ℕ → ℕ
initialized_size_of image = u32_at image (optional_place_of image + 8)

abbrev pub uninitialized_size_of : List ℕ → ℕ
uninitialized_size_of image = u32_at image (optional_place_of image + 12)

abbrev pub entry_rva_of : List ℕ → ℕ
entry_rva_of image = u32_at image (optional_place_of image + 16)

abbrev pub code_base_of : List ℕ → ℕ
code_base_of image = u32_at image (optional_place_of image + 20)

abbrev pub data_base_of : List ℕ → ℕ
data_base_of image = u32_at image (optional_place_of image + 24)

-- II.25.2.3.2, the NT-specific fields: 68 bytes
abbrev pub image_base_of : List ℕ → ℕ
image_base_of image = u32_at image (optional_place_of image + 28)

abbrev pub section_alignment_of : List ℕ → ℕ
section_alignment_of image = u32_at image (optional_place_of image + 32)

abbrev pub file_alignment_of : List ℕ → ℕ
file_alignment_of image = u32_at image (optional_place_of image + 36)

abbrev pub os_major_of : List ℕ → ℕ
os_major_of image = u16_at image (optional_place_of image + 40)

abbrev pub os_minor_of : List ℕ → ℕ
os_minor_of image = u16_at image (optional_place_of image + 42)

abbrev pub user_major_of : List ℕ → ℕ
user_major_of image = u16_at image (optional_place_of image + 44)

abbrev pub user_minor_of : List ℕ → ℕ
user_minor_of image = u16_at image (optional_place_of image + 46)

abbrev pub subsystem_major_of : List ℕ → ℕ
subsystem_major_of image = u16_at image (optional_place_of image + 48)

abbrev pub subsystem_minor_of : List ℕ → ℕ
subsystem_minor_of image = u16_at image (optional_place_of image + 50)

abbrev pub reserved_of : List ℕ → ℕ
reserved_of image = u32_at image (optional_place_of image + 52)

abbrev pub image_size_of : List ℕ → ℕ
image_size_of image = u32_at image (optional_place_of image + 56)

abbrev pub header_size_of : List ℕ → ℕ
header_size_of image = u32_at image (optional_place_of image + 60)

abbrev pub checksum_of : List ℕ → ℕ
checksum_of image = u32_at image (optional_place_of image + 64)

abbrev pub subsystem_of : List ℕ → ℕ
subsystem_of image = u16_at image (optional_place_of image + 68)

abbrev pub dll_flags_of : List ℕ → ℕ
dll_flags_of image = u16_at image (optional_place_of image + 70)

abbrev pub stack_reserve_of : List ℕ → ℕ
stack_reserve_of image = u32_at image (optional_place_of image + 72)

abbrev pub stack_commit_of : List ℕ → ℕ
stack_commit_of image = u32_at image (optional_place_of image + 76)

abbrev pub heap_reserve_of : List ℕ → ℕ
heap_reserve_of image = u32_at image (optional_place_of image + 80)

abbrev pub heap_commit_of : List ℕ → ℕ
heap_commit_of image = u32_at image (optional_place_of image + 84)

abbrev pub loader_flags_of : List ℕ → ℕ
loader_flags_of image = u32_at image (optional_place_of image + 88)

abbrev pub directory_count_of : List ℕ → ℕ
directory_count_of image = u32_at image (optional_place_of image + 92)

-- II.25.2.3.3, data directory k: an RVA and a size
abbrev pub directory_rva_of : List ℕ → ℕ → ℕ
directory_rva_of image k = u32_at image (optional_place_of image + 96 + 8 * k)

abbrev pub directory_size_of : List ℕ → ℕ → ℕ
directory_size_of image k = u32_at image (optional_place_of image + 100 + 8 * k)

-- II.25.3: the section headers, of 40 bytes each, follow the optional header
abbrev pub section_table_of : List ℕ → ℕ
section_table_of image = optional_place_of image + optional_size_of image

-- II.25.3: the fields of the section header at a place
abbrev pub section_name_at : List ℕ → ℕ → List ℕ
section_name_at image place = take 8 (drop place image)

abbrev pub virtual_size_at : List ℕ → ℕ → ℕ
virtual_size_at image place = u32_at image (place + 8)

abbrev pub virtual_address_at : List ℕ → ℕ → ℕ
virtual_address_at image place = u32_at image (place + 12)

abbrev pub raw_size_at : List ℕ → ℕ → ℕ
raw_size_at image place = u32_at image (place + 16)

abbrev pub raw_place_at : List ℕ → ℕ → ℕ
raw_place_at image place = u32_at image (place + 20)

abbrev pub relocation_place_at : List ℕ → ℕ → ℕ
relocation_place_at image place = u32_at image (place + 24)

abbrev pub line_place_at : List ℕ → ℕ → ℕ
line_place_at image place = u32_at image (place + 28)

abbrev pub relocation_count_at : List ℕ → ℕ → ℕ
relocation_count_at image place = u16_at image (place + 32)

abbrev pub line_count_at : List ℕ → ℕ → ℕ
line_count_at image place = u16_at image (place + 34)

abbrev pub section_flags_at : List ℕ → ℕ → ℕ
section_flags_at image place = u32_at image (place + 36)
