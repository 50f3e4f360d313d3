-- A string has two bytes for each unit.
use Rattle.std.proofs.Common.{◌≡◌, ap, refl, ◌∙◌, ℕ, ◌+◌, ◌<◌, ◌≤◌, ◌^◌, List, [], ◌∷◌, ◌++◌, length, arith}
use Rattle.std.specs.Int.{w16, to_le_bytes}
use Rattle.std.proofs.lemmas.List.{length-append}
use Rattle.assembly_tree.specs.declared.members.Constant.{Constant}
use Rattle.assembly_tree.specs.declared.members.Constant.TheVariants as constant
use Rattle.image_members.specs.Constants.{value_of}
use Rattle.image_tokens.specs.Units.{bytes_of_units}

as_many : (units : List ℕ) → length units ≤ length (bytes_of_units units)
as_many [] = omega arith
as_many (u ∷ units) =
    let rest = as_many units in
    let long = length-append (to_le_bytes w16 u) (bytes_of_units units) in
    let two : length (to_le_bytes w16 u) ≡ 2 = refl in
    omega arith

pub units_short : (c : Constant) (units : List ℕ) → c ≡ constant.Str units → length (value_of c) < 2 ^ 32 → length units < 2 ^ 32
unfolding value_of
units_short c units e h =
    let long = ap (λ (x : Constant). length (value_of x)) e in
    let many = as_many units in
    omega arith
