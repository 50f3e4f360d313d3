-- The file map (II.25): what a file holds at a relative virtual address (RVA).
use Rattle.std.specs.Prelude.{ℕ, zero, suc, ◌+◌, ◌-◌, ◌≤◌, ◌≡◌, Bool, ◌&&◌, nat_le, nat_lt, nat_eq, if◌then◌else◌, List, [], ◌∷◌, take, drop, length, Option}
use Rattle.std.specs.List.{find}
use Rattle.std.specs.Option.{option_map, option_map_or}
use Rattle.pe_layout.specs.declared.section.Section.{Section}
use Rattle.pe_layout.specs.Headers.{section_count_of, section_table_of, virtual_size_at, virtual_address_at, raw_size_at, raw_place_at}

-- the section whose header stands at a place
abbrev pub section_at : List ℕ → ℕ → Section
section_at image place =
    record { virtual_size = virtual_size_at image place; virtual_address = virtual_address_at image place; raw_size = raw_size_at image place; raw_place = raw_place_at image place }

-- the sections of n headers that begin at a place
abbrev pub sections_from : List ℕ → ℕ → ℕ → List Section
sections_from image place zero = []
sections_from image place (suc n) = section_at image place ∷ sections_from image (place + 40) n

-- the sections of an image, in the order of their headers
abbrev pub sections_of : List ℕ → List Section
sections_of image = sections_from image (section_table_of image) (section_count_of image)

-- how many bytes of memory a section takes: its raw size, where its virtual size is 0
abbrev pub extent_of : Section → ℕ
extent_of s = if nat_eq s.virtual_size 0 then s.raw_size else s.virtual_size

-- the RVA lies in the section
abbrev pub holds : ℕ → Section → Bool
holds rva s = nat_le s.virtual_address rva && nat_lt rva (s.virtual_address + extent_of s)

-- the first section that holds an RVA
unfoldable pub section_of : List ℕ → ℕ → Option Section
section_of image rva = find (holds rva) (sections_of image)

-- the place in the file of an RVA that the section holds
abbrev pub place_in : ℕ → Section → ℕ
place_in rva s = rva - s.virtual_address + s.raw_place

-- the place in the file of an RVA, or none where no section holds it
unfoldable pub at : List ℕ → ℕ → Option ℕ
at image rva = option_map (place_in rva) (section_of image rva)

-- the end in the file of the raw bytes of the section that holds an RVA
unfoldable pub raw_end : List ℕ → ℕ → ℕ
raw_end image rva =
    option_map_or (λ s. s.raw_place + s.raw_size) (section_of image rva) 0

-- the bytes that can be read from an RVA on: from its place to the end of the section's raw bytes or of the
-- file
unfoldable pub readable : List ℕ → ℕ → List ℕ
readable image rva =
    option_map_or (λ place. take (raw_end image rva - place) (drop place image)) (at image rva) []

-- the bytes stand at an RVA: from the RVA of each of them on, the rest of them can be read
pub record StandsAt (image : List ℕ) (rva : ℕ) (bytes : List ℕ) : Type 0 where
  pub from : (k : ℕ) → k ≤ length bytes → take (length bytes - k) (readable image (rva + k)) ≡ drop k bytes
