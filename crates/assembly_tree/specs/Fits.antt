-- Which assemblies fit into an image (ECMA-335 II.24, III.1.9).
use Rattle.std.specs.Prelude.{◌^◌, ◌≤◌}
use Rattle.assembly_tree.specs.Room.{room as room_in}
use Rattle.assembly_tree.specs.Weight.{weight_of}
use Rattle.assembly_tree.specs.declared.assembly.Assembly.{Assembly}

-- an assembly fits into an image, and its texts have room for the tokens that load them
pub record Fits (a : Assembly) : Type 0 where
  pub weight : weight_of a ≤ 2 ^ 26
  pub room : room_in a ≤ 2 ^ 24
