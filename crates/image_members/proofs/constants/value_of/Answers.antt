use Rattle.std.proofs.Common.{◌≡◌, ap, ℕ, ◌<◌, ◌≤◌, List, length, arith}
use Rattle.assembly_tree.specs.declared.members.Constant.{Constant}
use Rattle.image_members.proofs.ConstantSizes.{units_short}
use Rattle.image_members.proofs.constants.value_of.Goals as goal

pub bytes_of_units-requires : goal.bytes_of_units-requires
bytes_of_units-requires c = units_short c.args.constant.now c.in-Str.units c.in-Str.is c.requires
