-- The CLI header (II.25.3.3): 72 bytes, to which data directory 14 leads.
use Rattle.std.specs.Prelude.{ℕ, List, take}
use Rattle.pe_layout.specs.Fields.{u16_at, u32_at}
use Rattle.pe_layout.specs.Headers.{directory_rva_of}
use Rattle.pe_layout.specs.FileMap.{readable}

unfoldable pub cli_header_of : List ℕ → List ℕ
cli_header_of image = take 72 (readable image (directory_rva_of image 14))

abbrev pub cb_of : List ℕ → ℕ
cb_of image = u32_at (cli_header_of image) 0

abbrev pub runtime_major_of : List ℕ → ℕ
runtime_major_of image = u16_at (cli_header_of image) 4

abbrev pub runtime_minor_of : List ℕ → ℕ
runtime_minor_of image = u16_at (cli_header_of image) 6

abbrev pub metadata_rva_of : List ℕ → ℕ
metadata_rva_of image = u32_at (cli_header_of image) 8

abbrev pub metadata_size_of : List ℕ → ℕ
metadata_size_of image = u32_at (cli_header_of image) 12

abbrev pub cor_flags_of : List ℕ → ℕ
cor_flags_of image = u32_at (cli_header_of image) 16

abbrev pub entry_token_of : List ℕ → ℕ
entry_token_of image = u32_at (cli_header_of image) 20

abbrev pub resources_rva_of : List ℕ → ℕ
resources_rva_of image = u32_at (cli_header_of image) 24

abbrev pub resources_size_of : List ℕ → ℕ
resources_size_of image = u32_at (cli_header_of image) 28

abbrev pub strong_name_rva_of : List ℕ → ℕ
strong_name_rva_of image = u32_at (cli_header_of image) 32

abbrev pub strong_name_size_of : List ℕ → ℕ
strong_name_size_of image = u32_at (cli_header_of image) 36

abbrev pub code_manager_rva_of : List ℕ → ℕ
code_manager_rva_of image = u32_at (cli_header_of image) 40

abbrev pub code_manager_size_of : List ℕ → ℕ
code_manager_size_of image = u32_at (cli_header_of image) 44

abbrev pub vtable_fixups_rva_of : List ℕ → ℕ
vtable_fixups_rva_of image = u32_at (cli_header_of image) 48

abbrev pub vtable_fixups_size_of : List ℕ → ℕ
vtable_fixups_size_of image = u32_at (cli_header_of image) 52

abbrev pub export_jumps_rva_of : List ℕ → ℕ
export_jumps_rva_of image = u32_at (cli_header_of image) 56

abbrev pub export_jumps_size_of : List ℕ → ℕ
export_jumps_size_of image = u32_at (cli_header_of image) 60

abbrev pub native_header_rva_of : List ℕ → ℕ
native_header_rva_of image = u32_at (cli_header_of image) 64

abbrev pub native_header_size_of : List ℕ → ℕ
native_header_size_of image = u32_at (cli_header_of image) 68

-- the metadata, as far as it can be read
unfoldable pub metadata_of : List ℕ → List ℕ
metadata_of image = take (metadata_size_of image) (readable image (metadata_rva_of image))
