-- The fields of the headers that are written, read back.
use Rattle.std.proofs.Common.{◌≡◌, ℕ, ◌+◌, List, [], ◌∷◌, ◌++◌, length, refl, sym, ◌∙◌, ap, arith}
use Rattle.std.proofs.lemmas.List.Elements.{All-from_recursion}
use Rattle.byteorder.specs.Numbers.{little_number-reads_back}
use Rattle.pe_layout.specs.declared.layout.Layout.{Layout}
use Rattle.pe_layout.specs.declared.section.Section.{Section}
use Rattle.pe_layout.specs.declared.parts.Kind.{Kind}
use Rattle.pe_layout.specs.declared.parts.Kind.TheVariants.{Exe, Dll}
use Rattle.pe_layout.specs.declared.parts.ManifestNumbers.{ManifestNumbers}
use Rattle.pe_layout.specs.declared.parts.Parts.{Parts}
use Rattle.pe_layout.specs.Fields.{u16_at, u32_at, round_up}
use Rattle.pe_layout.specs.Headers.{image_base_of, file_alignment_of, stack_reserve_of, subsystem_of, image_size_of, entry_rva_of, directory_rva_of, directory_size_of, virtual_size_at, virtual_address_at, raw_size_at, raw_place_at}
use Rattle.pe_layout.specs.FileMap.{sections_of}
use Rattle.pe_layout.specs.Layout.{dos_header, file_header, standard_fields, nt_fields, directories, section_headers, headers}
use Rattle.pe_layout.specs.Frame.{HasDosHeader, HasFileHeader, HasStandardFields, HasNtFields, HasDirectories, HasSections, IsEmptyDirectory}
use Rattle.pe_layout.proofs.LaidOut.{LaidOut, round_up-past}
use Rattle.pe_layout.proofs.ReadBack.{section_is, sections_are}

pub length-headers : (l : Layout) (n : ManifestNumbers) (kind : Kind) → length (headers l n kind) ≡ 456
unfolding headers dos_header file_header standard_fields nt_fields directories section_headers
length-headers l n kind = refl

pub written_dos : (l : Layout) (n : ManifestNumbers) (kind : Kind) (rest : List ℕ) → HasDosHeader (headers l n kind ++ rest)
unfolding headers dos_header file_header standard_fields nt_fields directories section_headers u16_at u32_at
written_dos l n kind rest =
    record { signature = refl; zeros_before = refl; signature_place = refl; zeros_after = refl }

pub written_file : (l : Layout) (n : ManifestNumbers) (kind : Kind) (rest : List ℕ) → HasFileHeader (headers l n kind ++ rest) kind
unfolding headers dos_header file_header standard_fields nt_fields directories section_headers u16_at u32_at
written_file l n Exe rest =
    record { signature = refl; machine = refl; section_count = refl; time_stamp = refl; symbol_table = refl; symbol_count = refl; optional_size = refl; characteristics = refl }
written_file l n Dll rest =
    record { signature = refl; machine = refl; section_count = refl; time_stamp = refl; symbol_table = refl; symbol_count = refl; optional_size = refl; characteristics = refl }

pub written_standard : (l : Layout) (n : ManifestNumbers) (kind : Kind) (rest : List ℕ) → HasStandardFields (headers l n kind ++ rest)
unfolding headers dos_header file_header standard_fields nt_fields directories section_headers u16_at u32_at
written_standard l n kind rest =
    record { magic = refl; linker_major = refl; linker_minor = refl; code_size = refl; initialized_size = refl; uninitialized_size = refl; code_base = refl; data_base = refl }

-- the fields that hold numbers of the layout or of the manifest
pub record HasNumbers (image : List ℕ) (l : Layout) (n : ManifestNumbers) : Type 0 where
  pub image_base : image_base_of image ≡ n.image_base
  pub file_alignment : file_alignment_of image ≡ n.file_alignment
  pub stack_reserve : stack_reserve_of image ≡ n.stack_reserve
  pub subsystem : subsystem_of image ≡ n.subsystem
  pub entry_rva : entry_rva_of image ≡ l.imports_rva + 74
  pub image_size : image_size_of image ≡ l.reloc_rva + 0x2000
  pub imports_rva : directory_rva_of image 1 ≡ l.imports_rva
  pub relocations_rva : directory_rva_of image 5 ≡ l.reloc_rva
  pub relocations_size : directory_size_of image 5 ≡ 12
  pub dos : u16_at image 0 ≡ 0x5A4D
  pub text_size : virtual_size_at image 376 ≡ l.text_size
  pub text_raw : raw_size_at image 376 ≡ l.text_raw
  pub text_place : raw_place_at image 376 ≡ n.file_alignment
  pub reloc_size : virtual_size_at image 416 ≡ 12
  pub reloc_rva : virtual_address_at image 416 ≡ l.reloc_rva
  pub reloc_raw : raw_size_at image 416 ≡ l.reloc_raw
  pub reloc_place : raw_place_at image 416 ≡ n.file_alignment + l.text_raw

pub written_numbers : (l : Layout) (p : Parts) (rest : List ℕ) → LaidOut l p → HasNumbers (headers l p.numbers p.kind ++ rest) l p.numbers
unfolding headers dos_header file_header standard_fields nt_fields directories section_headers u16_at u32_at
written_numbers l p rest h =
    let n = p.numbers in
    let base = h.base in
    let high = h.alignment_high in
    let b = h.bounded in
    record {
      image_base = little_number-reads_back 4 n.image_base [] (omega arith);
      file_alignment = little_number-reads_back 4 n.file_alignment [] (omega arith);
      stack_reserve = little_number-reads_back 4 n.stack_reserve [] h.ranged.stack_reserve;
      subsystem = little_number-reads_back 2 n.subsystem [] h.ranged.subsystem;
      entry_rva = little_number-reads_back 4 (l.imports_rva + 74) [] (omega arith);
      image_size = little_number-reads_back 4 (l.reloc_rva + 0x2000) [] (omega arith);
      imports_rva = little_number-reads_back 4 l.imports_rva [] (omega arith);
      relocations_rva = little_number-reads_back 4 l.reloc_rva [] (omega arith);
      relocations_size = refl;
      dos = refl;
      reloc_size = refl;
      text_size = little_number-reads_back 4 l.text_size [] (omega arith);
      text_raw = little_number-reads_back 4 l.text_raw [] (omega arith);
      text_place = little_number-reads_back 4 n.file_alignment [] (omega arith);
      reloc_rva = little_number-reads_back 4 l.reloc_rva [] (omega arith);
      reloc_raw = little_number-reads_back 4 l.reloc_raw [] (omega arith);
      reloc_place = little_number-reads_back 4 (n.file_alignment + l.text_raw) [] (omega arith);
    }

pub written_nt : (l : Layout) (p : Parts) (rest : List ℕ) → LaidOut l p → HasNtFields (headers l p.numbers p.kind ++ rest)
unfolding headers dos_header file_header standard_fields nt_fields directories section_headers u16_at u32_at
written_nt l p rest h =
    let n = written_numbers l p rest h in
    record {
      section_alignment = refl;
      os_major = refl;
      os_minor = refl;
      user_major = refl;
      user_minor = refl;
      subsystem_major = refl;
      subsystem_minor = refl;
      reserved = refl;
      image_size = n.image_size ∙ sym (round_up-past l.reloc_rva h.reloc_page) ∙ ap (λ a. round_up (a + 12) 0x2000) (sym n.reloc_rva);
      header_size = refl;
      checksum = refl;
      dll_flags = refl;
      stack_commit = refl;
      heap_reserve = refl;
      heap_commit = refl;
      loader_flags = refl;
      directory_count = refl;
    }

pub written_directories : (l : Layout) (n : ManifestNumbers) (kind : Kind) (rest : List ℕ) → HasDirectories (headers l n kind ++ rest)
unfolding headers dos_header file_header standard_fields nt_fields directories section_headers u16_at u32_at
written_directories l n kind rest =
    record { imports_size = refl; relocations_rva = refl; relocations_size = refl; addresses_rva = refl; addresses_size = refl; cli_rva = refl; cli_size = refl; others = All-from_recursion (IsEmptyDirectory (headers l n kind ++ rest)) (0 ∷ 2 ∷ 3 ∷ 4 ∷ 6 ∷ 7 ∷ 8 ∷ 9 ∷ 10 ∷ 11 ∷ 13 ∷ 15 ∷ []) ((refl, refl), ((refl, refl), ((refl, refl), ((refl, refl), ((refl, refl), ((refl, refl), ((refl, refl), ((refl, refl), ((refl, refl), ((refl, refl), ((refl, refl), ((refl, refl), tt)))))))))))) }

pub written_sections : (l : Layout) (p : Parts) (rest : List ℕ) → LaidOut l p → HasSections (headers l p.numbers p.kind ++ rest)
unfolding headers dos_header file_header standard_fields nt_fields directories section_headers u16_at u32_at
written_sections l p rest h =
    let n = written_numbers l p rest h in
    let size = h.text_size in
    let ends : 0x2000 + l.text_size ≡ l.imports_rva + 74 + 6 = omega arith in
    record {
      text = record { name_is = refl; virtual_address = refl; raw_size = n.text_raw ∙ h.text_raw ∙ ap (λ s. round_up s p.numbers.file_alignment) (sym n.text_size) ∙ ap (round_up (virtual_size_at (headers l p.numbers p.kind ++ rest) 376)) (sym n.file_alignment); raw_place = refl; relocation_place = refl; line_place = refl; relocation_count = refl; line_count = refl; flags_are = refl };
      reloc = record { name_is = refl; virtual_address = n.reloc_rva ∙ h.reloc_rva ∙ ap (λ s. round_up (0x2000 + s) 0x2000) (sym n.text_size); raw_size = n.reloc_raw ∙ h.reloc_raw ∙ ap (round_up 12) (sym n.file_alignment); raw_place = n.reloc_place ∙ ap (λ a. a + l.text_raw) (sym n.text_place) ∙ ap (λ r. raw_place_at (headers l p.numbers p.kind ++ rest) 376 + r) (sym n.text_raw); relocation_place = refl; line_place = refl; relocation_count = refl; line_count = refl; flags_are = refl };
      text_length = ap (λ s. 0x2000 + s) n.text_size ∙ ends ∙ ap (λ e. e + 6) (sym n.entry_rva);
    }

abbrev pub text_section : Layout → ManifestNumbers → Section
text_section l n =
    record { virtual_size = l.text_size; virtual_address = 0x2000; raw_size = l.text_raw; raw_place = n.file_alignment }

abbrev pub reloc_section : Layout → ManifestNumbers → Section
reloc_section l n =
    record { virtual_size = 12; virtual_address = l.reloc_rva; raw_size = l.reloc_raw; raw_place = n.file_alignment + l.text_raw }

-- the map of a written file
pub written_map : (l : Layout) (p : Parts) (rest : List ℕ) → LaidOut l p → sections_of (headers l p.numbers p.kind ++ rest) ≡ text_section l p.numbers ∷ reloc_section l p.numbers ∷ []
unfolding headers dos_header file_header standard_fields nt_fields directories section_headers u16_at u32_at
written_map l p rest h =
    let n = written_numbers l p rest h in
    let image = headers l p.numbers p.kind ++ rest in
    sections_are image (text_section l p.numbers) (reloc_section l p.numbers) refl (section_is image 376 (text_section l p.numbers) n.text_size refl n.text_raw n.text_place) (section_is image 416 (reloc_section l p.numbers) refl n.reloc_rva n.reloc_raw n.reloc_place)
