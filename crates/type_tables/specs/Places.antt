-- Declared types as the code keeps them, each with its name and its assembly.
use Rattle.std.specs.Prelude.{◌≡◌, ℕ, map, slice_get, Some}
use Rattle.std.specs.Borrow.{Bor}
use Rattle.type_terms.specs.declared.name.TypeName.{TypeName}
use Rattle.assembly_tree.specs.declared.typedef.TypeDef.{TypeDef}
use Rattle.type_hierarchy.specs.Ancestors.{declared_names}
use Rattle.type_hierarchy.specs.Declarations.{place_of}
use Rattle.type_tables.specs.Placed.{IsAligned, Row, Stands}
use Rattle.type_hierarchy.specs.Scopes.{Sources, Member, members}
use Rattle.type_tables.specs.declared.places.Places.{Places}

abbrev pub row : Places → Row
row p = record { names = p.names; members = p.members; types = map (λ (t : Bor TypeDef). t.now) p.types }

-- a name is declared, as the type `t`, by the assembly at place `at` of those of the world
pub record IsPlace (s : Sources) (name : TypeName) (at : ℕ) (t : TypeDef) : Type 0 where
  pub member : Member
  pub in_member : slice_get (members s) at ≡ Some member
  pub is : place_of s name ≡ Some (record { member = member; typedef = t })

-- the types that a world declares, in its order
pub record ArePlaces (s : Sources) (r : Row) : Type 0 where
  pub aligned : IsAligned r
  pub names : r.names ≡ declared_names s
  pub each : (k at : ℕ) (name : TypeName) (t : TypeDef) → Stands r k name at t → IsPlace s name at t
