-- What building a world of an image and its references answers.
use Rattle.std.specs.Prelude.{◌≡◌, ℕ, ◌<◌, ⊤, List, length, slice_get, Option, Some}
use Rattle.type_terms.specs.declared.name.Scope.TheVariants.{Here}
use Rattle.type_terms.specs.declared.name.TypeName.{TypeName}
use Rattle.type_hierarchy.specs.Ancestors.{Declared, IsFirstCyclic}
use Rattle.type_hierarchy.specs.Indexed.{KnowsTypes}
use Rattle.type_hierarchy.specs.Names.{full_name}
use Rattle.type_hierarchy.specs.Scopes.{Sources, Member, member_of}
use Rattle.type_hierarchy.specs.Tables.{hierarchy_in}
use Rattle.type_hierarchy.specs.declared.tables.Tables.{Tables}
use Rattle.type_tables.specs.Building.{AreTables}
use Rattle.type_tables.specs.Landings.{AreSteps}
use Rattle.type_tables.specs.Walks.{IsFirstBack}
use Rattle.assignability.specs.declared.building.Read.{Read}
use Rattle.assignability.specs.declared.building.WorldFault.{WorldFault}
use Rattle.assignability.specs.declared.building.WorldFault.TheVariants.{Cyclic, NoMemory}

-- the first type that is its own ancestor, by the number of its assembly and its name there
pub record IsCyclicType (s : Sources) (assembly : ℕ) (at : TypeName) : Type 0 where
  pub type : Declared
  pub first : IsFirstCyclic s type
  pub number : assembly ≡ type.member.number
  pub named : at ≡ full_name Here type.path

abbrev pub IsFaultOf : Sources → WorldFault → Type 0
IsFaultOf s (Cyclic assembly at) = IsCyclicType s assembly at
IsFaultOf s NoMemory = ⊤

-- ---- on the way

-- the assembly that declares a name has that number
pub record HasNumber (s : Sources) (name : TypeName) (number : ℕ) : Type 0 where
  pub member : Member
  pub of : member_of s name.scope ≡ Some member
  pub is : member.number ≡ number

-- the tables of a world, and for each declared type the number of its assembly
pub record IsRead (s : Sources) (r : Read) : Type 0 where
  pub tables : AreTables s r.tables
  pub types : KnowsTypes s.image r.tables
  pub aligned : length r.members ≡ length r.tables.names
  pub within : (k at : ℕ) → slice_get r.members k ≡ Some at → at < length r.numbers
  pub numbers : (k at number : ℕ) (name : TypeName) → slice_get r.tables.names k ≡ Some name → slice_get r.members k ≡ Some at
      → slice_get r.numbers at ≡ Some number → HasNumber s name number

-- the steps of the tables, and the first type that they lead back to
pub record IsFirstOf (t : Tables) (first : Option ℕ) : Type 0 where
  pub steps : List (List ℕ)
  pub are : AreSteps (hierarchy_in t) t.names steps
  pub back : IsFirstBack steps first

-- the type at place `k` as a fault names it
pub record IsNamedAt (r : Read) (k assembly : ℕ) (at : TypeName) : Type 0 where
  pub name : TypeName
  pub member : ℕ
  pub named : slice_get r.tables.names k ≡ Some name
  pub in_member : slice_get r.members k ≡ Some member
  pub number : slice_get r.numbers member ≡ Some assembly
  pub is : at ≡ full_name Here name.path

abbrev pub IsFaultAt : Read → ℕ → WorldFault → Type 0
IsFaultAt r k (Cyclic assembly at) = IsNamedAt r k assembly at
IsFaultAt r k NoMemory = ⊤
