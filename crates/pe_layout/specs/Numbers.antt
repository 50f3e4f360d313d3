-- The numbers of an image that its manifest keeps.
use Rattle.std.specs.Prelude.{◌≡◌, ◌≤◌, ◌%◌, ◌⊎◌, ℕ, List}
use Rattle.pe_layout.specs.declared.parts.ManifestNumbers.{ManifestNumbers}
use Rattle.pe_layout.specs.Headers.{image_base_of, file_alignment_of, stack_reserve_of, subsystem_of}
use Rattle.pe_layout.specs.CliHeader.{cor_flags_of}

-- as they stand in the optional header and in the CLI header
abbrev pub numbers_of : List ℕ → ManifestNumbers
numbers_of image =
    record { image_base = image_base_of image; file_alignment = file_alignment_of image; stack_reserve = stack_reserve_of image; subsystem = subsystem_of image; cor_flags = cor_flags_of image }

-- II.25.2.3.2: a multiple of 0x10000, here from 0x10000 to 0xF0000000
pub record IsImageBase (n : ℕ) : Type 0 where
  pub multiple : n % 0x10000 ≡ 0
  pub least : 0x10000 ≤ n
  pub greatest : n ≤ 0xF0000000

-- II.25.2.3.2: 0x200, or one of the next three powers of 2
abbrev pub IsFileAlignment : ℕ → Type 0
IsFileAlignment n = (n ≡ 0x200) ⊎ ((n ≡ 0x400) ⊎ ((n ≡ 0x800) ⊎ (n ≡ 0x1000)))
