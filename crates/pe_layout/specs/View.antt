-- What the code of an opened image speaks of.
use Rattle.std.specs.Prelude.{◌≡◌, ℕ, ◌+◌, ◌-◌, ◌*◌, ◌≤◌, List, length, take, drop, None}
use Rattle.pe_layout.specs.declared.section.Section.{Section}
use Rattle.pe_layout.specs.Headers.{optional_place_of, section_table_of, section_count_of}
use Rattle.pe_layout.specs.FileMap.{place_in}
use Rattle.pe_layout.specs.CliHeader.{cli_header_of}
use Rattle.pe_layout.specs.Faults.{pe_fault}

-- of an RVA that the section holds: from its place to the end of the section's raw bytes or of the file
abbrev pub readable_in : List ℕ → ℕ → Section → List ℕ
readable_in image rva s =
    take (s.raw_place + s.raw_size - place_in rva s) (drop (place_in rva s) image)

-- the places are those that the headers say, and what they lead to lies in the file
pub record IsOpened (image : List ℕ) (optional sections count : ℕ) (cli : List ℕ) : Type 0 where
  pub faultless : pe_fault image ≡ None
  pub optional_is : optional ≡ optional_place_of image
  pub optional_in : optional + 96 ≤ length image
  pub sections_is : sections ≡ section_table_of image
  pub count_is : count ≡ section_count_of image
  pub sections_in : sections + 40 * count ≤ length image
  pub cli_is : cli ≡ cli_header_of image
  pub cli_len : length cli ≡ 72
