-- Attributes, constants and generic parameters: what each brings, with its row.
use Rattle.std.proofs.Common.{◌≡◌, refl, ℕ, ◌+◌, ◌≤◌, List, [], length, Option, Some, None, arith}
use Rattle.std.specs.Prelude.{sum_by}
use Rattle.std.specs.Int.{w16, w32, w64, w128, to_le_bytes, cast_unsigned}
use Rattle.std.proofs.lemmas.List.{length-take}
use Rattle.std.proofs.lemmas.List.Sums.{sum_by-cons}
use Rattle.assembly_tree.specs.Weight.{optional, owner_weight, method_ref_weight, bounds_weight, attribute_weight, constant_weight, generic_weight}
use Rattle.assembly_tree.specs.declared.members.Attribute.{Attribute}
use Rattle.assembly_tree.specs.declared.members.Constant.{Constant}
use Rattle.assembly_tree.specs.declared.members.Constant.TheVariants as constant
use Rattle.assembly_tree.specs.declared.members.Generic.{Generic}
use Rattle.type_terms.specs.declared.term.Owner.{Owner}
use Rattle.image_tokens.proofs.LoadedLemmas.{two_each}
use Rattle.image_members.specs.ConstantRows.{stated_constant}
use Rattle.image_members.specs.Constants.{integer_width, value_of}
use Rattle.laws_tree_weights.proofs.Sums.{sum_each, sum_least}

-- ---- attributes

abbrev pub attribute_part : Attribute → ℕ
attribute_part a = method_ref_weight a.constructor + (length a.value + 4) + 12

attribute_fits : (a : Attribute) → attribute_part a ≤ attribute_weight a
unfolding attribute_weight
attribute_fits a = omega arith

abbrev pub attributes_part : List Attribute → ℕ
attributes_part attributes = sum_by attribute_part attributes

pub attributes_fit : (attributes : List Attribute) → attributes_part attributes ≤ sum_by attribute_weight attributes
attributes_fit attributes = sum_least attribute_part attribute_weight attribute_fits attributes

-- ---- constants

abbrev pub constant_part : Constant → ℕ
constant_part c = length (value_of c) + 4 + 10

constant_fits : (c : Constant) → constant_part c ≤ constant_weight c
unfolding constant_weight value_of
constant_fits (constant.Str units) = let two = two_each units in omega arith
constant_fits (constant.Int of n) =
    let few = length-take (integer_width of) (to_le_bytes w128 (cast_unsigned w128 n)) in
    let all : length (to_le_bytes w128 (cast_unsigned w128 n)) ≡ 16 = refl in
    omega arith
constant_fits (constant.Bool b) = omega arith
constant_fits (constant.Char unit) = let two : length (to_le_bytes w16 unit) ≡ 2 = refl in omega arith
constant_fits (constant.Real4 bits) = let four : length (to_le_bytes w32 bits) ≡ 4 = refl in omega arith
constant_fits (constant.Real8 bits) = let eight : length (to_le_bytes w64 bits) ≡ 8 = refl in omega arith
constant_fits constant.Null = omega arith

pub stated_fits : (c : Option Constant) → sum_by constant_part (stated_constant c) ≤ optional constant_weight c
stated_fits None = omega arith
stated_fits (Some c) = let one = sum_by-cons constant_part c [] in let fits = constant_fits c in omega arith

-- ---- generic parameters

abbrev pub bound_part : Owner → ℕ
bound_part o = owner_weight o + 8

abbrev pub generic_part : Generic → ℕ
generic_part g = length g.name + 1 + 12 + sum_by bound_part g.bounds + attributes_part g.attributes

pub generic_fits : (g : Generic) → generic_part g ≤ generic_weight g
unfolding generic_weight bounds_weight
generic_fits g =
    let bounds = sum_each owner_weight 8 g.bounds in
    let attributes = attributes_fit g.attributes in
    omega arith
