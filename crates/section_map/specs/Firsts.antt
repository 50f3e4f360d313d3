-- The first section that holds an address, by its number (II.25.3).
use Rattle.std.specs.Prelude.{ℕ, zero, suc, ◌+◌, ◌*◌, Bool, if◌then◌else◌, List}
use Rattle.pe_layout.specs.FileMap.{section_at, holds}

-- the section with a number holds an address, where the section headers begin at a place
abbrev pub holds_at : List ℕ → (table address : ℕ) → ℕ → Bool
holds_at image table address k = holds address (section_at image (table + 40 * k))

-- the first of n numbers, from a number on, of which a test holds; or 65536
abbrev pub first_from : (ℕ → Bool) → (from n : ℕ) → ℕ
first_from test from zero = 65536
first_from test from (suc n) = if test from then from else first_from test (from + 1) n

-- the first of so many sections, from a number on, that holds an address
abbrev pub first_holding : List ℕ → (table from count : ℕ) → ℕ → ℕ
first_holding image table from count address = first_from (holds_at image table address) from count
