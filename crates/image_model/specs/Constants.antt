-- The constants of fields, params and properties (II.22.9): an element type and a value of that type's width, lowest byte first.
use Rattle.std.specs.Prelude.{ℕ, ◌-◌, ◌*◌, ◌^◌, ◌==◌, ℤ, pos, negsuc, Bool, true, false, nat_lt, not, if◌then◌else◌, List, [], ◌∷◌, Option, None, Some, length, slice_index, find, option_map, option_and_then}
use Rattle.byteorder.specs.Endian.{little_number}
use Rattle.type_terms.specs.declared.term.Primitive.{Primitive}
use Rattle.type_terms.specs.declared.term.Primitive.TheVariants as prim
use Rattle.assembly_tree.specs.declared.members.Constant.{Constant}
use Rattle.assembly_tree.specs.declared.members.Constant.TheVariants as constant
use Rattle.image_model.specs.Units.{units_of}

-- an integer type by its element type (II.23.1.16), its bytes, and whether it has a sign
pub record Integer : Type 0 where
  pub element : ℕ
  pub of : Primitive
  pub bytes : ℕ
  pub signed : Bool

abbrev pub integers : List Integer
integers =
    record { element = 0x04; of = prim.I1; bytes = 1; signed = true }
    ∷ record { element = 0x05; of = prim.U1; bytes = 1; signed = false }
    ∷ record { element = 0x06; of = prim.I2; bytes = 2; signed = true }
    ∷ record { element = 0x07; of = prim.U2; bytes = 2; signed = false }
    ∷ record { element = 0x08; of = prim.I4; bytes = 4; signed = true }
    ∷ record { element = 0x09; of = prim.U4; bytes = 4; signed = false }
    ∷ record { element = 0x0A; of = prim.I8; bytes = 8; signed = true }
    ∷ record { element = 0x0B; of = prim.U8; bytes = 8; signed = false }
    ∷ []

-- the number of some bytes, without a sign or in two's complement
abbrev pub integer_number : Integer → List ℕ → ℤ
integer_number t value =
    let n = little_number t.bytes value in
    if not t.signed then pos n else if nat_lt n (2 ^ (8 * t.bytes - 1)) then pos n else negsuc (2 ^ (8 * t.bytes) - 1 - n)

-- a constant, where the value has so many bytes
abbrev pub of_width : ℕ → List ℕ → Constant → Option Constant
of_width bytes value c = if length value == bytes then Some c else None

abbrev pub integer_constant : List ℕ → Integer → Option Constant
integer_constant value t = of_width t.bytes value (constant.Int t.of (integer_number t value))

-- The constant of an element type and a value. A bool is true where its byte isn't 0. A string's value is its UTF-16 units.
-- Null is that of a class, with four bytes.
unfoldable pub constant_of : ℕ → List ℕ → Option Constant
constant_of element value =
    if element == 0x02 then of_width 1 value (constant.Bool (not (slice_index value 0 == 0)))
    else if element == 0x03 then of_width 2 value (constant.Char (little_number 2 value))
    else if element == 0x0C then of_width 4 value (constant.Real4 (little_number 4 value))
    else if element == 0x0D then of_width 8 value (constant.Real8 (little_number 8 value))
    else if element == 0x0E then option_map constant.Str (units_of value)
    else if element == 0x12 then of_width 4 value constant.Null
    else option_and_then (integer_constant value) (find (λ t. t.element == element) integers)
