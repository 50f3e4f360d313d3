-- What a part of a tree keeps when each name gives way to what it is called.
use Rattle.std.specs.Prelude.{◌≡◌, ◌↔◌, ◌&&◌, Bool, Some, ℕ, List, [], IsTrue, map}
use Rattle.std.specs.List.{Contains, list_all}
use Rattle.type_terms.specs.Depth.{depth, owner_depth}
use Rattle.type_terms.specs.Nodes.{nodes, owner_nodes}
use Rattle.type_terms.specs.declared.name.TypeName.{TypeName}
use Rattle.type_terms.specs.declared.term.Owner.{Owner}
use Rattle.type_terms.specs.declared.term.SigType.{SigType}
use Rattle.assembly_tree.specs.DataSize.{size_in_data}
use Rattle.assembly_tree.specs.WellFormed.{is_manifest}
use Rattle.assembly_tree.specs.WellFormedMembers.{is_field, is_method}
use Rattle.assembly_tree.specs.WellFormedNames.{is_type_name}
use Rattle.assembly_tree.specs.WellFormedTerms.{is_owner, is_type}
use Rattle.assembly_tree.specs.WellFormedTypes.{are_types, is_own, members_differ}
use Rattle.assembly_tree.specs.declared.assembly.Assembly.{Assembly}
use Rattle.assembly_tree.specs.declared.assembly.Manifest.{Manifest}
use Rattle.assembly_tree.specs.declared.members.Field.{Field}
use Rattle.assembly_tree.specs.declared.members.Method.{Method}
use Rattle.assembly_tree.specs.declared.typedef.TypeDef.{TypeDef}
use Rattle.assembly_tree.specs.declared.typedef.TypeDef.TheFolds.{fold-TypeDef}
use Rattle.assembly_tree.specs.declared.typedef.TypeDef.TheOpen.{TypeDef-F}
use Rattle.tree_names.specs.Called.{Call, called_field, called_manifest, called_method, called_own, called_owner, called_type, called_typedef}
use Rattle.tree_names.specs.Named.{Names, names_in_field, names_in_manifest, names_in_method, names_in_owner, names_in_type, names_in_typedef}

-- ---- terms

-- a called type is as deep, and has as many nodes
abbrev pub TypesKeepForm : Type 0
TypesKeepForm = (f : Call) (t : SigType) → (depth (called_type f t) ≡ depth t) × (nodes (called_type f t) ≡ nodes t)

abbrev pub OwnersKeepForm : Type 0
OwnersKeepForm = (f : Call) (o : Owner) → (owner_depth (called_owner f o) ≡ owner_depth o) × (owner_nodes (called_owner f o) ≡ owner_nodes o)

-- ---- names

-- the names in a called part are what those in the part are called, in order
abbrev pub NamesOfTypes : Type 0
NamesOfTypes = (f : Call) (t : SigType) → names_in_type (called_type f t) ≡ map f (names_in_type t)

abbrev pub NamesOfOwners : Type 0
NamesOfOwners = (f : Call) (o : Owner) → names_in_owner (called_owner f o) ≡ map f (names_in_owner o)

abbrev pub NamesOfFields : Type 0
NamesOfFields = (f : Call) (x : Field) → names_in_field (called_field f x) ≡ map f (names_in_field x)

abbrev pub NamesOfMethods : Type 0
NamesOfMethods = (f : Call) (m : Method) → names_in_method (called_method f m) ≡ map f (names_in_method m)

abbrev pub NamesOfManifests : Type 0
NamesOfManifests = (f : Call) (m : Manifest) → names_in_manifest (called_manifest f m) ≡ map f (names_in_manifest m)

-- the same names, in whatever order and as often as it may be
abbrev pub SameNames : Names → Names → Type 0
SameNames ns ms = (n : TypeName) → Contains ns n ↔ Contains ms n

-- of a type that is declared, as the interfaces of a class are put in order again, each once
abbrev pub NamesOfTypedefs : Type 0
NamesOfTypedefs = (f : Call) (t : TypeDef) → SameNames (names_in_typedef (called_typedef f t)) (map f (names_in_typedef t))

-- ---- conditions

-- a name that stands well in `a` is called one that stands well in `c`, and what has a size in data keeps it
pub record Carries (f : Call) (a c : Assembly) : Type 0 where
  pub names : (n : TypeName) → IsTrue (is_type_name a n) → IsTrue (is_type_name c (f n))
  pub sizes : (t : SigType) (n : ℕ) → size_in_data a t ≡ Some n → size_in_data c (called_type f t) ≡ Some n

-- what meets its conditions in `a`, called, meets them in `c`
abbrev pub FormedTypes : Type 0
FormedTypes = (f : Call) (a c : Assembly) → Carries f a c → (t : SigType) → IsTrue (is_type a t) → IsTrue (is_type c (called_type f t))

abbrev pub FormedOwners : Type 0
FormedOwners = (f : Call) (a c : Assembly) → Carries f a c → (o : Owner) → IsTrue (is_owner a o) → IsTrue (is_owner c (called_owner f o))

abbrev pub FormedFields : Type 0
FormedFields = (f : Call) (a c : Assembly) → Carries f a c → (x : Field) → IsTrue (is_field a x) → IsTrue (is_field c (called_field f x))

abbrev pub FormedMethods : Type 0
FormedMethods = (f : Call) (a c : Assembly) → Carries f a c → (m : Method) → IsTrue (is_method a m) → IsTrue (is_method c (called_method f m))

-- of a type by itself, where its members differ still
abbrev pub FormedOwn : Type 0
FormedOwn = (f : Call) (a c : Assembly) → Carries f a c → (top : Bool) (t : TypeDef-F TypeDef) → IsTrue (is_own a top t) →
    IsTrue (members_differ (called_own f t)) → IsTrue (is_own c top (called_own f t))

abbrev pub FormedManifests : Type 0
FormedManifests = (f : Call) (a c : Assembly) → Carries f a c → (m : Manifest) → IsTrue (is_manifest a m) → IsTrue (is_manifest c (called_manifest f m))

-- ---- types with those that they nest

-- a type without those that it nests
abbrev pub alone : {A : Type 0} → TypeDef-F A → TypeDef-F TypeDef
alone t = record {
  id = t.id;
  flags = t.flags;
  layout = t.layout;
  generics = t.generics;
  extends = t.extends;
  implements = t.implements;
  fields = t.fields;
  methods = t.methods;
  properties = t.properties;
  events = t.events;
  nested = [];
  attributes = t.attributes;
}

-- no member of the type, nor of one that it nests, is declared twice
abbrev pub differ_step : TypeDef-F Bool → Bool
differ_step t = members_differ (alone t) && list_all (λ b. b) t.nested

unfoldable pub all_members_differ : TypeDef → Bool
all_members_differ t = fold-TypeDef Bool differ_step t

-- of types side by side, with those that they nest
abbrev pub FormedNested : Type 0
FormedNested = (f : Call) (a c : Assembly) → Carries f a c → (top : Bool) (depth : ℕ) (ts : List TypeDef) → IsTrue (are_types a top depth ts) →
    IsTrue (list_all all_members_differ (map (called_typedef f) ts)) → IsTrue (are_types c top depth (map (called_typedef f) ts))
