-- Types that are their own ancestors (ECMA-335 I.8.9.9, II.10.1): steps from a declared name to its base and to the
-- interfaces that it implements lead back to it. Arguments play no part.
use Rattle.std.specs.Prelude.{◌≡◌, ℕ, ◌<◌, nat_eq, Bool, false, List, [], ◌∷◌, fold, map, slice_get, Option, None, Some}
use Rattle.std.specs.List.{Contains, filter, flat_map}
use Rattle.type_terms.specs.declared.name.TypeId.{TypeId}
use Rattle.type_terms.specs.declared.name.TypeName.{TypeName}
use Rattle.type_terms.specs.declared.term.Owner.{Owner}
use Rattle.type_terms.specs.declared.term.Owner.TheOpen.{SigType-F, Prim, Class, Value, Inst, Var, MVar, SzArray, Array, ByRef, Pointer, Mod, Pinned}
use Rattle.type_terms.specs.declared.term.SigType.{SigType, out-SigType}
use Rattle.assembly_tree.specs.declared.typedef.TypeDef.{TypeDef}
use Rattle.assembly_tree.specs.declared.typedef.TypeDef.TheOpen.{TypeDef-F}
use Rattle.assembly_tree.specs.declared.typedef.TypeDef.TheFolds.{fold-TypeDef}
use Rattle.type_hierarchy.specs.Names.{class_of}
use Rattle.type_hierarchy.specs.Hierarchy.{Hierarchy, Declaration, core_name, chained}
use Rattle.type_hierarchy.specs.Gathered.{with_name}
use Rattle.type_hierarchy.specs.Scopes.{Sources, Member, members, member_of, own_scope}
use Rattle.type_hierarchy.specs.Declarations.{hierarchy_of}

-- ---- steps

abbrev pub layer_name : Hierarchy → SigType-F Owner SigType → Option TypeName
layer_name w (Class name) = Some name
layer_name w (Value name) = Some name
layer_name w (Inst value name args) = Some name
layer_name w (Prim p) = Some (core_name w (class_of p))
layer_name w (Var n) = None
layer_name w (MVar n) = None
layer_name w (SzArray of) = None
layer_name w (Array of rank sizes lower) = None
layer_name w (ByRef of) = None
layer_name w (Pointer of) = None
layer_name w (Mod required by of) = None
layer_name w (Pinned of) = None

-- the name of a type that is a name, an instantiation or primitive
unfoldable pub name_in : Hierarchy → SigType → Option TypeName
name_in w t = layer_name w (out-SigType t)

-- one step: from a declared name to its base or to an interface; and from a name of a core chain that isn't declared to
-- the next of its chain
pub data Step (w : Hierarchy) : TypeName → TypeName → Type 0 where
  to_base : {name next : TypeName} {d : Declaration} {b : SigType} →
      w.declared name ≡ Some d → d.base ≡ Some b → name_in w b ≡ Some next → Step w name next
  to_interface : {name next : TypeName} {d : Declaration} {b : SigType} →
      w.declared name ≡ Some d → Contains d.interfaces b → name_in w b ≡ Some next → Step w name next
  to_chain : {name next : TypeName} → w.declared name ≡ None → chained w name ≡ Some next → Step w name next

-- one step or more
pub data Leads (w : Hierarchy) (name : TypeName) : TypeName → Type 0 where
  one_step : {next : TypeName} → Step w name next → Leads w name next
  step_more : {middle next : TypeName} → Leads w name middle → Step w middle next → Leads w name next

abbrev pub IsOwnAncestor : Hierarchy → TypeName → Type 0
IsOwnAncestor w name = Leads w name name

-- ---- the first

abbrev pub Paths : Type 0
Paths = List (List TypeId)

-- a type, and then those that it nests
abbrev pub paths_step : TypeDef-F Paths → Paths
paths_step t = (t.id ∷ []) ∷ map (λ path. t.id ∷ path) (flat_map (λ paths. paths) t.nested)

-- the paths of a type and of those in it, in preorder
abbrev pub typedef_paths : TypeDef → Paths
typedef_paths t = fold-TypeDef Paths paths_step t

-- a type that an assembly declares
pub record Declared : Type 0 where
  pub member : Member
  pub path : List TypeId

abbrev pub declared_in : Member → List Declared
declared_in m = map (λ (path : List TypeId). record { member = m; path = path }) (flat_map typedef_paths m.assembly.types)

abbrev pub has_number : ℕ → Option Member → Bool
has_number n None = false
has_number n (Some m) = nat_eq m.number n

-- the assemblies whose types are declared in the world: of references that have one scope, the first alone
abbrev pub declaring : Sources → List Member
declaring s = filter (λ (m : Member). has_number m.number (member_of s (own_scope s m))) (members s)

-- the types of the image in preorder, then those of each reference
unfoldable pub all_declared : Sources → List Declared
all_declared s = flat_map declared_in (declaring s)

-- the name of a declared type in the world
abbrev pub world_name : Sources → Declared → TypeName
world_name s d = record { scope = own_scope s d.member; path = d.path }

-- the names of the declared types, each once, in that order
unfoldable pub declared_names : Sources → List TypeName
declared_names s = fold with_name [] (map (world_name s) (all_declared s))

abbrev pub IsCyclicAt : Sources → Declared → Type 0
IsCyclicAt s d = IsOwnAncestor (hierarchy_of s) (world_name s d)

-- the type at place k is its own ancestor, and none before it is
pub record IsFirstCyclic (s : Sources) (d : Declared) : Type 0 where
  pub place : ℕ
  pub is : slice_get (all_declared s) place ≡ Some d
  pub cyclic : IsCyclicAt s d
  pub first : (k : ℕ) (e : Declared) → k < place → slice_get (all_declared s) k ≡ Some e → IsCyclicAt s e → ⊥

-- no type of the world is its own ancestor
abbrev pub IsAcyclic : Sources → Type 0
IsAcyclic s = (d : Declared) → Contains (all_declared s) d → IsCyclicAt s d → ⊥
