-- The constants of fields, parameters and properties (ECMA-335 II.22.9, II.23.1.16): an element type, and a value of that type's
-- width, the lowest byte first.
use Rattle.std.specs.Prelude.{ℕ, Bool, if◌then◌else◌, List, [], ◌∷◌, take}
use Rattle.std.specs.Int.{w16, w32, w64, w128, to_le_bytes, cast_unsigned}
use Rattle.assembly_tree.specs.declared.members.Constant.{Constant}
use Rattle.assembly_tree.specs.declared.members.Constant.TheVariants as constant
use Rattle.type_terms.specs.declared.term.Primitive.{Primitive}
use Rattle.type_terms.specs.declared.term.Primitive.TheVariants as prim
use Rattle.image_tokens.specs.Units.{bytes_of_units}

-- an integer type as an element type; the others have no constants that are integers
abbrev pub integer_element : Primitive → ℕ
integer_element prim.I1 = 0x04
integer_element prim.U1 = 0x05
integer_element prim.I2 = 0x06
integer_element prim.U2 = 0x07
integer_element prim.I4 = 0x08
integer_element prim.U4 = 0x09
integer_element prim.I8 = 0x0A
integer_element prim.U8 = 0x0B
integer_element _ = 0

-- how many bytes its values have
abbrev pub integer_width : Primitive → ℕ
integer_width prim.I1 = 1
integer_width prim.U1 = 1
integer_width prim.I2 = 2
integer_width prim.U2 = 2
integer_width prim.I4 = 4
integer_width prim.U4 = 4
integer_width prim.I8 = 8
integer_width prim.U8 = 8
integer_width _ = 0

-- null has the element type of a class
unfoldable pub element_of : Constant → ℕ
element_of (constant.Bool b) = 0x02
element_of (constant.Char unit) = 0x03
element_of (constant.Int of n) = integer_element of
element_of (constant.Real4 bits) = 0x0C
element_of (constant.Real8 bits) = 0x0D
element_of (constant.Str units) = 0x0E
element_of constant.Null = 0x12

-- true is 1, an integer stands in two's complement, a string has two bytes for each unit, and null has four
unfoldable pub value_of : Constant → List ℕ
value_of (constant.Bool b) = (if b then 1 else 0) ∷ []
value_of (constant.Char unit) = to_le_bytes w16 unit
value_of (constant.Int of n) = take (integer_width of) (to_le_bytes w128 (cast_unsigned w128 n))
value_of (constant.Real4 bits) = to_le_bytes w32 bits
value_of (constant.Real8 bits) = to_le_bytes w64 bits
value_of (constant.Str units) = bytes_of_units units
value_of constant.Null = 0 ∷ 0 ∷ 0 ∷ 0 ∷ []
