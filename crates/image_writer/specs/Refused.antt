-- Why an assembly has no image (ECMA-335 II.22 to II.25).
use Rattle.std.specs.Prelude.{◌≡◌, ℕ, ◌^◌, ◌<◌, ◌≤◌, ⊤, min}
use Rattle.assembly_tree.specs.Room.{room as room_in}
use Rattle.assembly_tree.specs.Weight.{weight_of}
use Rattle.assembly_tree.specs.declared.assembly.Assembly.{Assembly}
use Rattle.image_writer.specs.declared.fault.WriteFault.{WriteFault}
use Rattle.image_writer.specs.declared.fault.WriteFault.TheVariants.{TooLarge, StringsFull, NoMemory}

-- an assembly that is too large, with its weight, of which no more than 2 ^ 63 is told
pub record IsTooLarge (a : Assembly) (weight : ℕ) : Type 0 where
  pub large : 2 ^ 26 < weight_of a
  pub is : weight ≡ min (weight_of a) (2 ^ 63)

-- an assembly that isn't too large, but whose texts take too much room
pub record HasFullStrings (a : Assembly) (room : ℕ) : Type 0 where
  pub small : weight_of a ≤ 2 ^ 26
  pub full : 2 ^ 24 < room_in a
  pub is : room ≡ room_in a

-- the cause of a fault
abbrev pub IsRefused : Assembly → WriteFault → Type 0
IsRefused a (TooLarge weight) = IsTooLarge a weight
IsRefused a (StringsFull room) = HasFullStrings a room
IsRefused a NoMemory = ⊤
