-- The rows that every image has (II.22.2, II.22.30, II.22.37).
use Rattle.std.proofs.Common.{ℕ, List, refl, arith}
use Rattle.image_model.specs.Rows.{HasRow}
use Rattle.row_demands.specs.Structured.{MeetStructure}

pub first_type : (image : List ℕ) → MeetStructure image → HasRow image 0x02 1
first_type image meets = let some = (meets.manifest 0x02 0).some_types refl refl in (omega arith, omega (arith, some))

pub first_assembly : (image : List ℕ) → MeetStructure image → HasRow image 0x20 1
first_assembly image meets = let one = (meets.manifest 0x20 0).one_assembly refl refl in (omega arith, omega (arith, one))

pub first_module : (image : List ℕ) → MeetStructure image → HasRow image 0x00 1
first_module image meets = let one = (meets.manifest 0x00 0).one_module refl refl in (omega arith, omega (arith, one))
