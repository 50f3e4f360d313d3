-- What `open` asks of a file (II.25.2, II.25.3), and the fault that it names.
use Rattle.std.specs.Prelude.{ℕ, ◌+◌, ◌*◌, Bool, ◌&&◌, ◌==◌, nat_le, if◌then◌else◌, List, length, Option, None, Some}
use Rattle.pe_layout.specs.declared.fault.PeFault.{PeFault}
use Rattle.pe_layout.specs.Fields.{u16_at, u32_at}
use Rattle.pe_layout.specs.Headers.{signature_place_of, machine_of, section_count_of, optional_size_of, section_table_of, magic_of, directory_count_of, directory_rva_of}
use Rattle.pe_layout.specs.FileMap.{readable}

-- I1: the DOS header of 64 bytes with its signature 4D 5A, the PE signature 50 45 00 00, the PE file
-- header of 20 bytes, the optional header and the section headers lie in the file
unfoldable pub has_headers : List ℕ → Bool
has_headers image =
    nat_le 64 (length image) && (u16_at image 0 == 0x5A4D) && nat_le (signature_place_of image + 24) (length image)
    && (u32_at image (signature_place_of image) == 0x4550)
    && nat_le (section_table_of image + 40 * section_count_of image) (length image)

-- I2: the machine is an I386, the optional header that of PE32, with at least 15 directories, and it is
-- long enough for as many as it says: they follow its 96 bytes of other fields
unfoldable pub is_in_profile : List ℕ → Bool
is_in_profile image =
    (machine_of image == 0x14C) && (magic_of image == 0x10B) && nat_le 15 (directory_count_of image)
    && nat_le (96 + 8 * directory_count_of image) (optional_size_of image)

-- I3: directory 14 leads to 72 bytes that can be read
unfoldable pub has_cli_header : List ℕ → Bool
has_cli_header image = nat_le 72 (length (readable image (directory_rva_of image 14)))

-- the first of the three that fails, with its place in the file: for I2 that of the PE signature
unfoldable pub pe_fault : List ℕ → Option PeFault
pe_fault image =
    if has_headers image
    then (if is_in_profile image
    then (if has_cli_header image then None else Some (record { rule = 3; at = 0 }))
    else Some (record { rule = 2; at = signature_place_of image }))
    else Some (record { rule = 1; at = 0 })
