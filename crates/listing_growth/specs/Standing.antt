-- Terms that can be written: each path has a name, and each generic type an argument.
use Rattle.std.specs.Prelude.{◌&&◌, nat_lt, Bool, true, List, length, Option, None, Some}
use Rattle.std.specs.List.{list_all}
use Rattle.type_terms.specs.declared.name.TypeName.{TypeName}
use Rattle.type_terms.specs.declared.reference.FieldRef.{FieldRef}
use Rattle.type_terms.specs.declared.reference.MethodRef.{MethodRef}
use Rattle.type_terms.specs.declared.reference.MethodSig.{MethodSig}
use Rattle.type_terms.specs.declared.term.Owner.{Owner, fold-Owner}
use Rattle.assembly_tree.specs.declared.members.Generic.{Generic}
use Rattle.type_terms.specs.declared.term.SigType.{SigType, fold-SigType}
use Rattle.type_terms.specs.declared.term.Owner.TheOpen.{Owner-F, SigType-F, Name, Spec, Prim, Class, Value, Inst, Var, MVar, SzArray, Array, ByRef, Pointer, Mod, Pinned}

abbrev pub has_name : TypeName → Bool
has_name t = nat_lt 0 (length t.path)

abbrev pub owner_stands : Owner-F Bool Bool → Bool
owner_stands (Name t) = has_name t
owner_stands (Spec of) = of

abbrev pub type_stands : SigType-F Bool Bool → Bool
type_stands (Prim p) = true
type_stands (Class t) = has_name t
type_stands (Value t) = has_name t
type_stands (Inst value t args) = has_name t && (nat_lt 0 (length args) && list_all (λ ok. ok) args)
type_stands (Var n) = true
type_stands (MVar n) = true
type_stands (SzArray of) = of
type_stands (Array of rank sizes lower) = of
type_stands (ByRef of) = of
type_stands (Pointer of) = of
type_stands (Mod required by of) = by && of
type_stands (Pinned of) = of

unfoldable pub can_stand : SigType → Bool
can_stand t = fold-SigType Bool Bool owner_stands type_stands t

unfoldable pub owner_can_stand : Owner → Bool
owner_can_stand o = fold-Owner Bool Bool owner_stands type_stands o

-- ---- signatures and references

abbrev pub all_stand : List SigType → Bool
all_stand ts = list_all can_stand ts

abbrev pub signature_stands : MethodSig → Bool
signature_stands s = can_stand s.ret && all_stand s.params

-- arguments of a generic method: one at least, where there are some
abbrev pub args_stand : Option (List SigType) → Bool
args_stand None = true
args_stand (Some ts) = nat_lt 0 (length ts) && all_stand ts

abbrev pub method_stands : MethodRef → Bool
method_stands r = owner_can_stand r.owner && (signature_stands r.sig && args_stand r.args)

abbrev pub field_stands : FieldRef → Bool
field_stands r = owner_can_stand r.owner && can_stand r.of

-- ---- members

abbrev pub all_owners_stand : List Owner → Bool
all_owners_stand os = list_all owner_can_stand os

abbrev pub generic_stands : Generic → Bool
generic_stands g = all_owners_stand g.bounds

abbrev pub all_generics_stand : List Generic → Bool
all_generics_stand gs = list_all generic_stands gs
