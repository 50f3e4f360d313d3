-- Steps between declared types by their places (ECMA-335 I.8.9.9, II.10.1). A step to a class of a core chain that isn't
-- declared goes on along its chain.
use Rattle.std.specs.Prelude.{◌≡◌, ◌++◌, ℕ, List, [], length, get_or, slice_get, Option, None, Some}
use Rattle.std.specs.List.{Contains}
use Rattle.type_terms.specs.declared.name.TypeName.{TypeName}
use Rattle.type_terms.specs.declared.term.SigType.{SigType}
use Rattle.type_hierarchy.specs.Above.{path_of}
use Rattle.type_hierarchy.specs.Ancestors.{Step, name_in}
use Rattle.type_hierarchy.specs.Distinct.{AreOnce}
use Rattle.type_hierarchy.specs.Hierarchy.{Hierarchy, Declaration, chained, core_name}
use Rattle.type_hierarchy.specs.Reading.{as_list}
use Rattle.type_tables.specs.Walks.{StepsTo}
use Rattle.type_hierarchy.specs.declared.core_types.Above.{Above}
use Rattle.type_hierarchy.specs.declared.core_types.Above.TheVariants.{Object, ValueType, Delegate}
use Rattle.type_tables.specs.declared.stepping.Tops.{Tops}
use Rattle.type_hierarchy.specs.declared.tables.Declared.{Declared}

-- ---- the declared names

-- `names` are the declared names, once each
pub record IsListed (w : Hierarchy) (names : List TypeName) : Type 0 where
  pub named : (k : ℕ) (name : TypeName) → slice_get names k ≡ Some name → (d : Declaration) × (w.declared name ≡ Some d)
  pub found : (name : TypeName) (d : Declaration) → w.declared name ≡ Some d → (k : ℕ) × (slice_get names k ≡ Some name)
  pub once : AreOnce names

-- ---- where a name leads

-- the declared name to which a name leads: itself, or the first along its core chain
pub data Lands (w : Hierarchy) : TypeName → TypeName → Type 0 where
  here : {name : TypeName} {d : Declaration} → w.declared name ≡ Some d → Lands w name name
  along : {name next last : TypeName} → w.declared name ≡ None → chained w name ≡ Some next → Lands w next last → Lands w name last

-- the declared name to which a name leads stands at place j
pub record LandsAt (w : Hierarchy) (names : List TypeName) (name : TypeName) (j : ℕ) : Type 0 where
  pub last : TypeName
  pub lands : Lands w name last
  pub at : slice_get names j ≡ Some last

-- the place to which a name leads; none where it leads to no declared name
abbrev pub IsLanding : Hierarchy → List TypeName → TypeName → Option ℕ → Type 0
IsLanding w names name None = (last : TypeName) → Lands w name last → ⊥
IsLanding w names name (Some j) = LandsAt w names name j

-- the place to which the name in a type leads
pub record TypeLandsAt (w : Hierarchy) (names : List TypeName) (t : SigType) (j : ℕ) : Type 0 where
  pub name : TypeName
  pub is : name_in w t ≡ Some name
  pub to : LandsAt w names name j

abbrev pub IsTypeLanding : Hierarchy → List TypeName → SigType → Option ℕ → Type 0
IsTypeLanding w names t None = (j : ℕ) → TypeLandsAt w names t j → ⊥
IsTypeLanding w names t (Some j) = TypeLandsAt w names t j

-- ---- the classes that stand above others in the core chains

abbrev pub top_of : Tops → Above → Option ℕ
top_of t Object = t.object
top_of t ValueType = t.value_type
top_of t Delegate = t.delegate

-- where each of them leads
abbrev pub AreTops : Hierarchy → List TypeName → Tops → Type 0
AreTops w names t = (a : Above) → IsLanding w names (core_name w (path_of a)) (top_of t a)

-- ---- steps

-- `new` has the places of `old` before others: those to which these types lead
pub record AddsPlaces (w : Hierarchy) (names : List TypeName) (ts : List SigType) (old new : List ℕ) : Type 0 where
  pub more : List ℕ
  pub is : new ≡ old ++ more
  pub only : (j : ℕ) → Contains more j → (t : SigType) × Contains ts t × TypeLandsAt w names t j
  pub has : (t : SigType) (j : ℕ) → Contains ts t → TypeLandsAt w names t j → Contains more j

-- the base of a declaration, where it has one, and its interfaces
abbrev pub bases : Declared → List SigType
bases d = as_list d.base ++ d.interfaces

-- the places to which the base and the interfaces of each declaration lead
pub record HaveSteps (w : Hierarchy) (names : List TypeName) (entries : List Declared) (steps : List (List ℕ)) : Type 0 where
  pub paired : length steps ≡ length entries
  pub each : (k : ℕ) (d : Declared) → slice_get entries k ≡ Some d → AddsPlaces w names (bases d) [] (get_or steps k [])

-- a step leads from the declared type at place i to that at place j
pub record LeapsTo (w : Hierarchy) (names : List TypeName) (i j : ℕ) : Type 0 where
  pub name : TypeName
  pub next : TypeName
  pub from : slice_get names i ≡ Some name
  pub step : Step w name next
  pub to : LandsAt w names next j

-- exactly the places to which steps lead from each
pub record AreSteps (w : Hierarchy) (names : List TypeName) (steps : List (List ℕ)) : Type 0 where
  pub paired : length steps ≡ length names
  pub only : (i j : ℕ) → StepsTo steps i j → LeapsTo w names i j
  pub all : (i j : ℕ) → LeapsTo w names i j → StepsTo steps i j
