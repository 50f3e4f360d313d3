-- How the types of an assembly are read, from tables.
use Rattle.std.specs.Prelude.{Bool, true, false, ◌&&◌, ◌||◌, not, if◌then◌else◌, List, [], ◌∷◌, Option, None, Some}
use Rattle.type_terms.specs.declared.name.Scope.{Scope}
use Rattle.type_terms.specs.declared.name.TypeName.{TypeName}
use Rattle.type_terms.specs.declared.term.Primitive.{Primitive}
use Rattle.type_terms.specs.declared.term.Owner.TheOpen.{SigType-F, Prim, Class, Value, Inst, Var, MVar, SzArray, Array, ByRef, Pointer, Mod, Pinned}
use Rattle.type_hierarchy.specs.Declarations.{is_class_of}
use Rattle.type_hierarchy.specs.Gathered.{scope_by}
use Rattle.type_hierarchy.specs.Names.{is_among, is_integral, the_enum, the_value_type}
use Rattle.type_hierarchy.specs.Normal.{Reading}
use Rattle.type_hierarchy.specs.declared.meanings.Meanings.{Meanings}
use Rattle.type_hierarchy.specs.declared.values.Values.{Values}

-- whether a name is the core's Enum or ValueType
abbrev pub is_value_base : Scope → TypeName → Bool
is_value_base core name = is_class_of core the_enum name || is_class_of core the_value_type name

-- one of the names, but for those two
abbrev pub value_by : Values → TypeName → Bool
value_by v name = not (is_value_base v.core name) && is_among v.names name

abbrev pub reading_by : Values → Meanings → Reading
reading_by v m = record { core = v.core; scope = scope_by m; is_value = value_by v }

-- a primitive type, where it is bool, char or an integer type
abbrev pub if_integral : Option Primitive → Option Primitive
if_integral None = None
if_integral (Some p) = if is_integral p then Some p else None

-- the list of what there is
abbrev pub as_list : {A : Type 0} → Option A → List A
as_list None = []
as_list (Some x) = x ∷ []

-- whether a layer is that of a name or an instantiation
abbrev pub is_kept : {A B : Type 0} → SigType-F A B → Bool
is_kept (Class name) = true
is_kept (Value name) = true
is_kept (Inst value name args) = true
is_kept (Prim p) = false
is_kept (Var n) = false
is_kept (MVar n) = false
is_kept (SzArray of) = false
is_kept (Array of rank sizes lower) = false
is_kept (ByRef of) = false
is_kept (Pointer of) = false
is_kept (Mod required by of) = false
is_kept (Pinned of) = false
