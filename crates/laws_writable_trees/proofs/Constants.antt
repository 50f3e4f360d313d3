-- The values of constants are short, since none is heavier than the assembly.
use Rattle.std.proofs.Common.{◌≡◌, refl, ℕ, ◌*◌, ◌^◌, ◌<◌, ◌≤◌, List, [], ◌∷◌, length, arith}
use Rattle.std.specs.Int.{w16, w32, w64, w128, to_le_bytes, cast_unsigned}
use Rattle.std.proofs.lemmas.List.{length-append, length-take}
use Rattle.assembly_tree.specs.Weight.{constant_weight}
use Rattle.assembly_tree.specs.declared.members.Constant.{Constant}
use Rattle.assembly_tree.specs.declared.members.Constant.TheVariants as constant
use Rattle.type_terms.specs.declared.term.Primitive.{Primitive}
use Rattle.type_terms.specs.declared.term.Primitive.TheVariants as prim
use Rattle.image_tokens.specs.Units.{bytes_of_units}
use Rattle.image_members.specs.Constants.{integer_width, value_of}

-- a string has two bytes for each unit
units_long : (units : List ℕ) → length (bytes_of_units units) ≡ 2 * length units
units_long [] = refl
units_long (u ∷ units) =
    let rest = units_long units in
    let long = length-append (to_le_bytes w16 u) (bytes_of_units units) in
    let two : length (to_le_bytes w16 u) ≡ 2 = refl in
    omega arith

narrow : (p : Primitive) → integer_width p ≤ 8
narrow prim.I1 = omega arith
narrow prim.U1 = omega arith
narrow prim.I2 = omega arith
narrow prim.U2 = omega arith
narrow prim.I4 = omega arith
narrow prim.U4 = omega arith
narrow prim.I8 = omega arith
narrow prim.U8 = omega arith
narrow p = omega arith

pub value_short : (c : Constant) → constant_weight c ≤ 2 ^ 26 → length (value_of c) < 2 ^ 32
unfolding value_of constant_weight
value_short (constant.Bool b) k = omega arith
value_short (constant.Char unit) k = let two : length (to_le_bytes w16 unit) ≡ 2 = refl in omega arith
value_short (constant.Int of n) k =
    let cut = length-take (integer_width of) (to_le_bytes w128 (cast_unsigned w128 n)) in
    let few = narrow of in
    omega arith
value_short (constant.Real4 bits) k = let four : length (to_le_bytes w32 bits) ≡ 4 = refl in omega arith
value_short (constant.Real8 bits) k = let eight : length (to_le_bytes w64 bits) ≡ 8 = refl in omega arith
value_short (constant.Str units) k = let long = units_long units in omega arith
value_short constant.Null k = omega arith
