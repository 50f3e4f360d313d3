-- Bodies and data are read where they stand in the code (ECMA-335 II.25.4, II.22.18).
use Rattle.std.specs.Prelude.{◌≡◌, ℕ, List, ◌++◌}
use Rattle.pe_layout.specs.FileMap.{readable, StandsAt}
use Rattle.image_members.specs.Placing.{StandsIn}

-- what can be read from an RVA on begins with the bytes that stand in the code there
abbrev pub CodeIsRead : Type 0
CodeIsRead =
    (image code bytes : List ℕ) (rva : ℕ) → StandsAt image 0x2050 code → StandsIn code rva bytes → (rest : List ℕ) × (readable image rva ≡ bytes ++ rest)
