-- What methods offer to fill, and what a slot of an interface asks for (ECMA-335 II.10.3.2, II.12.2).
use Rattle.std.specs.Prelude.{◌≡◌, ◌⊎◌, ℕ, Bool, true, false, if◌then◌else◌, List, [], ◌∷◌, ◌++◌, map, Option, None, Some, IsTrue}
use Rattle.std.specs.List.{Contains, flat_map}
use Rattle.type_terms.specs.declared.reference.MethodRef.{MethodRef}
use Rattle.type_terms.specs.declared.reference.MethodSig.{MethodSig}
use Rattle.type_terms.specs.declared.term.SigType.{SigType}
use Rattle.assembly_tree.specs.declared.assembly.Assembly.{Assembly}
use Rattle.assembly_tree.specs.declared.members.Method.{Method}
use Rattle.sig_pool.specs.Replaced.{replaced}
use Rattle.type_hierarchy.specs.Hierarchy.{Hierarchy, Chain, object}
use Rattle.type_hierarchy.specs.Normal.{normal_owner}
use Rattle.type_order.specs.Found.{IsLedTo}
use Rattle.type_order.specs.Keys.{reading_of}
use Rattle.type_order.specs.Parts.{type_arguments}
use Rattle.class_model.specs.Classes.{declaration}
use Rattle.class_model.specs.Filled.{Member, object_members}
use Rattle.class_model.specs.Slots.{is_interface_type, is_provider, methods_in, plain_sig, sig_by}

-- A method by its name and its signature, whose types have the arguments of the type that declares it put in, or not.
-- Of an override, with the interface whose method it names
pub record Offer : Type 0 where
  pub put : Bool
  pub owner : Option SigType
  pub name : List ℕ
  pub sig : MethodSig

-- ---- what is offered, where the arguments of the declaring type are `args`

-- a signature with these put in
abbrev pub applied_sig : Hierarchy → List SigType → MethodSig → MethodSig
applied_sig w args s = sig_by w (replaced args []) s

-- the method itself, where it is public, virtual and not static
abbrev pub own_offers : Hierarchy → List SigType → Method → List Offer
own_offers w args m =
    if is_provider m then record { put = true; owner = None; name = m.name; sig = applied_sig w args m.sig } ∷ [] else []

abbrev pub override_owner : Hierarchy → List SigType → MethodRef → SigType
override_owner w args o = replaced args [] (normal_owner (reading_of w) o.owner)

-- an override, before and after arguments are put in
abbrev pub override_offers : Hierarchy → List SigType → MethodRef → List Offer
override_offers w args o =
    record { put = false; owner = Some (override_owner w args o); name = o.name; sig = plain_sig w o.sig }
    ∷ record { put = true; owner = Some (override_owner w args o); name = o.name; sig = applied_sig w args o.sig }
    ∷ []

abbrev pub overrides_by : Hierarchy → List SigType → Method → List Offer
overrides_by w args m = flat_map (override_offers w args) m.overrides

abbrev pub offers_by : Hierarchy → List SigType → Method → List Offer
offers_by w args m = own_offers w args m ++ overrides_by w args m

-- the overrides of the methods of a type
abbrev pub overrides_in : Assembly → Hierarchy → SigType → List Offer
overrides_in a w t = flat_map (overrides_by w (type_arguments t)) (methods_in a w t)

-- these and its methods
abbrev pub offers_in : Assembly → Hierarchy → SigType → List Offer
offers_in a w t = flat_map (offers_by w (type_arguments t)) (methods_in a w t)

-- the methods of the core's Object
abbrev pub member_offer : Member → Offer
member_offer m = record { put = true; owner = None; name = m.name; sig = m.sig }

abbrev pub object_offers : List Offer
object_offers = map member_offer object_members

-- ---- what a type adds to what its parent offers

-- a declared interface: the type itself, or one that its own interfaces lead to
pub record IsFresh (a : Assembly) (w : Hierarchy) (t face : SigType) : Type 0 where
  pub is : IsTrue (is_interface_type (declaration a w face))
  pub above : (face ≡ t) ⊎ IsLedTo w t face

-- an override in such an interface
pub record IsByFresh (a : Assembly) (w : Hierarchy) (t : SigType) (x : Offer) : Type 0 where
  pub face : SigType
  pub fresh : IsFresh a w t face
  pub among : Contains (overrides_in a w face) x

-- a method of the core's Object, where it isn't declared
pub record IsByObject (a : Assembly) (w : Hierarchy) (t : SigType) (x : Offer) : Type 0 where
  pub is : t ≡ object
  pub undeclared : declaration a w object ≡ None
  pub among : Contains object_offers x

abbrev pub IsOffered : Assembly → Hierarchy → SigType → Offer → Type 0
IsOffered a w t x = Contains (offers_in a w t) x ⊎ (IsByFresh a w t x ⊎ IsByObject a w t x)

-- the type or an ancestor offers it
pub record IsOfferedAbove (a : Assembly) (w : Hierarchy) (t : SigType) (x : Offer) : Type 0 where
  pub at : SigType
  pub chain : Chain w t at
  pub offered : IsOffered a w at x
