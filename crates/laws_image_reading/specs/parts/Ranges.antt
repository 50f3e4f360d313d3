-- The ranges of numbers in constants, and how many numbers a version has (ECMA-335 II.22.2, II.22.5, II.22.9). In a definition a
-- number is any, and a list of any length; in a tree that a program holds each is in the range of its field.
use Rattle.std.specs.Prelude.{◌≡◌, ◌^◌, ◌<◌, ⊤, List, Option, length}
use Rattle.std.specs.List.{AllByRecursion}
use Rattle.assembly_tree.specs.declared.assembly.Assembly.{Assembly}
use Rattle.assembly_tree.specs.declared.assembly.ExternAssembly.{ExternAssembly}
use Rattle.assembly_tree.specs.declared.members.Constant.{Constant}
use Rattle.assembly_tree.specs.declared.members.Constant.TheVariants as constant
use Rattle.assembly_tree.specs.declared.members.Field.{Field}
use Rattle.assembly_tree.specs.declared.members.Param.{Param}
use Rattle.assembly_tree.specs.declared.members.Property.{Property}
use Rattle.image_members.specs.ConstantRows.{stated_constant}
use Rattle.image_members.specs.Lists.{params_in, properties_in}
use Rattle.image_members.specs.Places.{all_fields}
use Rattle.image_members.specs.declared.classes.Class.{Class}

-- a well-formed tree says the range of an integer itself
abbrev pub IsConstantInRange : Constant → Type 0
IsConstantInRange (constant.Char unit) = unit < 2 ^ 16
IsConstantInRange (constant.Real4 bits) = bits < 2 ^ 32
IsConstantInRange (constant.Real8 bits) = bits < 2 ^ 64
IsConstantInRange (constant.Str units) = AllByRecursion (λ unit. unit < 2 ^ 16) units
IsConstantInRange (constant.Bool b) = ⊤
IsConstantInRange (constant.Int of n) = ⊤
IsConstantInRange constant.Null = ⊤

-- where there is one
abbrev pub IsStatedInRange : Option Constant → Type 0
IsStatedInRange c = AllByRecursion IsConstantInRange (stated_constant c)

abbrev pub IsFieldInRange : Field → Type 0
IsFieldInRange f = IsStatedInRange f.constant

abbrev pub IsParamInRange : Param → Type 0
IsParamInRange p = IsStatedInRange p.constant

abbrev pub IsPropertyInRange : Property → Type 0
IsPropertyInRange p = IsStatedInRange p.constant

abbrev pub HasFour : ExternAssembly → Type 0
HasFour e = length e.version ≡ 4

-- versions have four numbers, and the constants of fields, parameters and properties are in range
pub record AreInRange (a : Assembly) (classes : List Class) : Type 0 where
  pub version : length a.manifest.version ≡ 4
  pub externs : AllByRecursion HasFour a.externs
  pub fields : AllByRecursion IsFieldInRange (all_fields a classes)
  pub params : AllByRecursion IsParamInRange (params_in a classes)
  pub properties : AllByRecursion IsPropertyInRange (properties_in classes)
