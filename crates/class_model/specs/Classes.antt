-- The classes that an assembly declares, in preorder, and which of them are checked (ECMA-335 II.10.1, II.10.6, II.23.1.15).
use Rattle.std.specs.Prelude.{◌≡◌, ◌⊎◌, ℕ, Bool, not, nat_eq, bit_and, List, [], ◌∷◌, ◌++◌, length, Option, Some, option_and_then}
use Rattle.std.specs.List.{filter, flat_map}
use Rattle.type_terms.specs.declared.name.TypeId.{TypeId}
use Rattle.type_terms.specs.declared.term.SigType.{SigType}
use Rattle.assembly_tree.specs.declared.assembly.Assembly.{Assembly}
use Rattle.assembly_tree.specs.declared.typedef.TypeDef.{TypeDef}
use Rattle.assembly_tree.specs.declared.typedef.TypeDef.TheOpen.{TypeDef-F}
use Rattle.assembly_tree.specs.declared.typedef.TypeDef.TheFolds.{fold-TypeDef}
use Rattle.assembly_tree.specs.DataSize.{declared}
use Rattle.type_hierarchy.specs.Ancestors.{name_in}
use Rattle.type_hierarchy.specs.Hierarchy.{Hierarchy, Chain, object, named, core_name}
use Rattle.type_hierarchy.specs.Names.{the_value_type}
use Rattle.type_hierarchy.specs.Normal.{normal}
use Rattle.type_order.specs.Keys.{reading_of}
use Rattle.type_order.specs.OwnTypes.{own_class}
use Rattle.class_model.specs.declared.row.Row.{Row}

-- whether the flags of a type are those of an interface (II.23.1.15)
abbrev pub is_interface : ℕ → Bool
is_interface flags = not (nat_eq (bit_and flags 0x20) 0)

-- a type, and then those that it nests, of which `outer` is the path of what holds it
abbrev pub rows_step : TypeDef-F (List TypeId → List Row) → List TypeId → List Row
rows_step t outer =
    record { path = outer ++ t.id ∷ []; flags = t.flags; parameters = length t.generics } ∷ flat_map (λ rows. rows (outer ++ t.id ∷ [])) t.nested

abbrev pub typedef_rows : List TypeId → TypeDef → List Row
typedef_rows outer t = fold-TypeDef (List TypeId → List Row) rows_step t outer

abbrev pub rows_from : List TypeId → List TypeDef → List Row
rows_from outer types = flat_map (typedef_rows outer) types

abbrev pub is_class : Row → Bool
is_class r = not (is_interface r.flags)

-- the types that aren't interfaces, but for `<Module>`, which holds what stands outside types
abbrev pub classes : Assembly → List Row
classes a = filter is_class (rows_from [] a.types)

-- the type of a row with its own parameters as arguments
abbrev pub own_type : Hierarchy → Row → SigType
own_type w r = normal (reading_of w) (own_class r.path r.parameters)

-- the declaration of a type, which is that of its name
abbrev pub declaration : Assembly → Hierarchy → SigType → Option TypeDef
declaration a w t = option_and_then (declared a) (name_in w t)

abbrev pub IsDeclared : Assembly → Hierarchy → SigType → Type 0
IsDeclared a w t = (d : TypeDef) × (declaration a w t ≡ Some d)

-- the type is declared, or the core's Object or ValueType
abbrev pub IsKnown : Assembly → Hierarchy → SigType → Type 0
IsKnown a w t = IsDeclared a w t ⊎ ((t ≡ object) ⊎ (t ≡ named w (core_name w the_value_type)))

-- a class is checked where it and all its ancestors are known
abbrev pub IsChecked : Assembly → Hierarchy → SigType → Type 0
IsChecked a w t = (u : SigType) → Chain w t u → IsKnown a w u
