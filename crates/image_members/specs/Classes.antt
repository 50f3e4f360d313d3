-- The types that an assembly declares, in the order of their rows: row 1 is that of `<Module>`, and each type stands before
-- those that it nests (ECMA-335 II.22.32, II.22.37).
use Rattle.std.specs.Prelude.{◌≡◌, ℕ, ◌+◌, List, [], ◌∷◌, ◌++◌, length, sum_by}
use Rattle.assembly_tree.specs.Nesting.{types_in}
use Rattle.assembly_tree.specs.declared.typedef.TypeDef.{TypeDef}
use Rattle.assembly_tree.specs.declared.typedef.TypeDef.TheViews.{out-TypeDef}
use Rattle.image_members.specs.declared.classes.Class.{Class}

-- `classes` are the types side by side in the type of row `encloser`, or at the top where that is 0, each followed by those
-- that it nests; the first has this row
pub data AreClasses : (encloser row : ℕ) → List TypeDef → List Class → Type 0 where
  none : {encloser row : ℕ} {types : List TypeDef} {classes : List Class} → types ≡ [] → classes ≡ [] → AreClasses encloser row types classes
  more : {encloser row : ℕ} {type : TypeDef} {types beside : List TypeDef} {class : Class} {classes nested others : List Class}
      → class.of.now ≡ type → class.encloser ≡ encloser
      → AreClasses row (row + 1) (out-TypeDef type).nested nested
      → AreClasses encloser (row + 1 + length nested) beside others
      → types ≡ type ∷ beside → classes ≡ class ∷ (nested ++ others)
      → AreClasses encloser row types classes

-- such types have been added at the end
pub record AddsClasses (encloser : ℕ) (types : List TypeDef) (old new : List Class) : Type 0 where
  pub more : List Class
  pub is : new ≡ old ++ more
  pub are : AreClasses encloser (length old + 2) types more
  pub count : length more ≡ sum_by types_in types
