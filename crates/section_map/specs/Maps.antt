-- A map of the sections of an image (II.25.3).
use Rattle.std.specs.Prelude.{◌≡◌, ℕ, ◌+◌, ◌*◌, ◌≤◌, ◌<◌, ◌^◌, List, length}
use Rattle.pe_layout.specs.Headers.{section_table_of, section_count_of}
use Rattle.section_map.specs.Firsts.{first_holding}
use Rattle.section_map.specs.Steps.{Tell}
use Rattle.section_map.specs.declared.step.Step.{Step}

-- the section headers lie in the file, and the steps tell the first section that holds an address
pub record IsMap (image : List ℕ) (table : ℕ) (steps : List Step) : Type 0 where
  pub table_is : table ≡ section_table_of image
  pub within : table + 40 * section_count_of image ≤ length image
  pub few : section_count_of image < 2 ^ 16
  pub told : Tell steps (first_holding image table 0 (section_count_of image))
