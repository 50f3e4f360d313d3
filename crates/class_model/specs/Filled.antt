-- When a class has a method for a slot of an interface (ECMA-335 II.12.2, II.10.3.2).
use Rattle.std.specs.Prelude.{◌≡◌, ◌⊎◌, ℕ, true, false, List, [], ◌∷◌, codes, None, IsTrue}
use Rattle.std.specs.List.{Contains}
use Rattle.type_terms.specs.declared.reference.MethodRef.{MethodRef}
use Rattle.type_terms.specs.declared.reference.MethodSig.{MethodSig}
use Rattle.type_terms.specs.declared.term.Primitive.TheVariants as prim
use Rattle.type_terms.specs.declared.term.SigType.{SigType}
use Rattle.type_terms.specs.declared.term.SigType.TheVariants as type
use Rattle.assembly_tree.specs.declared.assembly.Assembly.{Assembly}
use Rattle.assembly_tree.specs.declared.members.Method.{Method}
use Rattle.sig_pool.specs.Replaced.{replaced}
use Rattle.type_hierarchy.specs.Hierarchy.{Hierarchy, Chain, object}
use Rattle.type_hierarchy.specs.Normal.{normal_owner}
use Rattle.type_order.specs.Keys.{reading_of}
use Rattle.type_order.specs.Parts.{type_arguments}
use Rattle.class_model.specs.Classes.{declaration}
use Rattle.class_model.specs.Slots.{IsFace, methods_in, is_provider, plain_sig, sig_of}

-- ---- a method of the class or of an ancestor

pub record ByMember (a : Assembly) (w : Hierarchy) (t face : SigType) (slot : Method) : Type 0 where
  pub declarer : SigType
  pub chain : Chain w t declarer
  pub method : Method
  pub among : Contains (methods_in a w declarer) method
  pub provides : IsTrue (is_provider method)
  pub name : method.name ≡ slot.name
  pub sig : sig_of w declarer method.sig ≡ sig_of w face slot.sig

-- ---- a method of the core's Object

pub record Member : Type 0 where
  pub name : List ℕ
  pub sig : MethodSig

abbrev pub instance_sig : SigType → List SigType → MethodSig
instance_sig ret params =
    record { has_this = true; explicit_this = false; vararg = false; generic = 0; ret = ret; params = params; sentinel = None }

-- the virtual methods of Object that are public
abbrev pub object_members : List Member
object_members =
    record { name = codes "ToString"; sig = instance_sig (type.Prim prim.Str) [] }
    ∷ record { name = codes "Equals"; sig = instance_sig (type.Prim prim.Bool) (object ∷ []) }
    ∷ record { name = codes "GetHashCode"; sig = instance_sig (type.Prim prim.I4) [] }
    ∷ []

-- the ancestors end in a core Object that isn't declared, and that has such a method
pub record ByObject (a : Assembly) (w : Hierarchy) (t face : SigType) (slot : Method) : Type 0 where
  pub chain : Chain w t object
  pub undeclared : declaration a w object ≡ None
  pub has : Contains object_members (record { name = slot.name; sig = sig_of w face slot.sig })

-- ---- an override

-- the override of a method of `declarer` names the slot: the interface, its name and its signature, before or after arguments
-- are put in
pub record NamesSlot (w : Hierarchy) (declarer face : SigType) (slot : Method) (o : MethodRef) : Type 0 where
  pub owner : replaced (type_arguments declarer) [] (normal_owner (reading_of w) o.owner) ≡ face
  pub name : o.name ≡ slot.name
  pub sig : (plain_sig w o.sig ≡ plain_sig w slot.sig) ⊎ (sig_of w declarer o.sig ≡ sig_of w face slot.sig)

pub record ByOverride (a : Assembly) (w : Hierarchy) (t face : SigType) (slot : Method) : Type 0 where
  pub declarer : SigType
  pub above : Chain w t declarer ⊎ IsFace a w t declarer
  pub method : Method
  pub among : Contains (methods_in a w declarer) method
  pub override : MethodRef
  pub has : Contains method.overrides override
  pub names : NamesSlot w declarer face slot override

-- ----

abbrev pub IsFilled : Assembly → Hierarchy → SigType → SigType → Method → Type 0
IsFilled a w t face slot = ByMember a w t face slot ⊎ (ByObject a w t face slot ⊎ ByOverride a w t face slot)
