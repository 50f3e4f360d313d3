-- The constants of a well-formed tree are in range.
use Rattle.std.proofs.Common.{Option, None, Some}
use Rattle.std.specs.Prelude.{IsTrue}
use Rattle.std.specs.List.{AllByRecursion}
use Rattle.assembly_tree.specs.WellFormedMembers.{is_constant}
use Rattle.assembly_tree.specs.WellFormedNames.{option_all}
use Rattle.assembly_tree.specs.declared.members.Constant.{Constant}
use Rattle.assembly_tree.specs.declared.members.Constant.TheVariants as constant
use Rattle.image_members.specs.ConstantRows.{stated_constant}
use Rattle.laws_image_parts.specs.ConstantsRead.{HasRange}
use Rattle.laws_image_reading.specs.parts.Ranges.{IsConstantInRange, IsStatedInRange}

constant_ranged : (c : Constant) → IsTrue (is_constant c) → IsConstantInRange c → HasRange c
constant_ranged (constant.Bool b) formed range = tt
constant_ranged (constant.Char unit) formed range = range
constant_ranged (constant.Int of n) formed range = formed
constant_ranged (constant.Real4 bits) formed range = range
constant_ranged (constant.Real8 bits) formed range = range
constant_ranged (constant.Str units) formed range = range
constant_ranged constant.Null formed range = tt

pub stated_ranged : (c : Option Constant) → IsTrue (option_all is_constant c) → IsStatedInRange c → AllByRecursion HasRange (stated_constant c)
stated_ranged None formed range = tt
stated_ranged (Some c) formed range = (constant_ranged c formed range.0, tt)
