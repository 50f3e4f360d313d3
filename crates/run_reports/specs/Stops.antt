-- Why not all images were read.
use Rattle.std.specs.Prelude.{ℕ, List, ⊤}
use Rattle.image_reader.specs.declared.fault.ImageFault.{ImageFault}
use Rattle.image_reader.specs.declared.fault.ImageFault.TheVariants as image
use Rattle.run_reports.specs.Reports.{IsFirstFault}
use Rattle.run_reports.specs.declared.images.Stop.{Stop}
use Rattle.run_reports.specs.declared.images.Stop.TheVariants.{Faulty, NoMemory}

-- the first that fails a demand; want of memory has no cause
abbrev pub IsStop : List (List ℕ) → Stop → Type 0
IsStop images (Faulty number rule at) = IsFirstFault images number rule at
IsStop images NoMemory = ⊤

-- what is answered where the image with a number isn't read
abbrev pub stop_at : ℕ → ImageFault → Stop
stop_at number (image.Bad rule at) = Faulty number rule at
stop_at number image.NoMemory = NoMemory
