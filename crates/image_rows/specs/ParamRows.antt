-- The rows of Param: for each method in turn those of its parameters (ECMA-335 II.22.33, II.23.1.13).
use Rattle.std.specs.Prelude.{◌≡◌, ℕ, ◌+◌, List, [], ◌∷◌, ◌++◌, length, bit_or}
use Rattle.std.specs.List.{flat_map}
use Rattle.assembly_tree.specs.declared.members.Method.{Method}
use Rattle.assembly_tree.specs.declared.members.Param.{Param}
use Rattle.image_members.specs.DeclaredMembers.{class_methods}
use Rattle.image_rows.specs.FieldRows.{flag_if}
use Rattle.image_members.specs.Places.{params_of}
use Rattle.image_tokens.specs.Texts.{HasNoZero, HoldsText}
use Rattle.image_members.specs.declared.classes.Class.{Class}
use Rattle.image_tokens.specs.declared.references.References.{References}

abbrev pub class_params : Class → List Param
class_params c = flat_map params_of (class_methods c)

-- the parameters of the methods of `<Module>`, and then those of the methods of each type
abbrev pub all_params : List Method → List Class → List Param
all_params globals classes = flat_map params_of globals ++ flat_map class_params classes

-- the flags, with HasDefault where there is a constant
abbrev pub param_flags : Param → ℕ
param_flags p = bit_or p.flags (flag_if 0x1000 p.constant)

-- flags, number and name
pub record IsParamRow (r : References) (cells : List ℕ) (p : Param) : Type 0 where
  pub name : ℕ
  pub are : cells ≡ param_flags p ∷ p.number ∷ name ∷ []
  pub name_is : HoldsText r.heaps.strings p.name name

-- the bytes of a name, with the zero that ends it
unfoldable pub param_bytes : Param → ℕ
param_bytes p = length p.name + 1

abbrev pub IsPlainParam : Param → Type 0
IsPlainParam p = HasNoZero p.name
