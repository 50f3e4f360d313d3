-- The rows of GenericParam and GenericParamConstraint (ECMA-335 II.22.20, II.22.21).
use Rattle.std.specs.Prelude.{◌≡◌, ℕ, ◌+◌, ◌^◌, ◌<◌, List, [], ◌∷◌, map, length}
use Rattle.std.specs.List.{enumerate_from, flat_map}
use Rattle.assembly_tree.specs.Weight.{owner_weight}
use Rattle.assembly_tree.specs.declared.members.Generic.{Generic}
use Rattle.metadata_tables.specs.declared.coded.Coded.TheVariants.{TypeOrMethodDef}
use Rattle.type_terms.specs.declared.term.Owner.{Owner}
use Rattle.image_members.specs.ByNumber.{owned_in, owned_at, by_number}
use Rattle.image_members.specs.Places.{lent}
use Rattle.image_tokens.specs.Texts.{HasNoZero, HoldsText}
use Rattle.image_members.specs.TypeIndexes.{IsTypeIndex}
use Rattle.image_tokens.specs.Writable.{IsOwnerWritable}
use Rattle.image_members.specs.declared.generic_rows.Parametric.{Parametric}
use Rattle.image_tokens.specs.declared.references.References.{References}

-- ---- GenericParam

-- generic parameters with their numbers, which begin at this one, and the coded index of their owner
abbrev pub generics_with : ℕ → ℕ → List Generic → List (ℕ × (ℕ × Generic))
generics_with owner number generics = map (λ (g : ℕ × Generic). (owner, g)) (enumerate_from number generics)

-- with their numbers, for each row of a table
abbrev pub counted : Parametric → ℕ × List (List (ℕ × Generic))
counted t = (t.table, map (λ (gs : List Generic). enumerate_from 0 gs) (lent t.of))

abbrev pub generics_in : ℕ → Parametric → List (ℕ × (ℕ × Generic))
generics_in k t = owned_in TypeOrMethodDef k (counted t)

abbrev pub generics_at : List Parametric → ℕ → List (ℕ × (ℕ × Generic))
generics_at tables k = owned_at TypeOrMethodDef (map counted tables) k

abbrev pub all_generics : List Parametric → ℕ → List (ℕ × (ℕ × Generic))
all_generics tables count = by_number TypeOrMethodDef (map counted tables) count

abbrev pub generic_of : ℕ × (ℕ × Generic) → Generic
generic_of g = g.1.1

-- number, flags, owner and name
pub record IsGenericRow (r : References) (cells : List ℕ) (g : ℕ × (ℕ × Generic)) : Type 0 where
  pub name : ℕ
  pub are : cells ≡ g.1.0 ∷ g.1.1.flags ∷ g.0 ∷ name ∷ []
  pub name_is : HoldsText r.heaps.strings g.1.1.name name

-- the bytes of a name, with the zero that ends it
unfoldable pub generic_bytes : ℕ × (ℕ × Generic) → ℕ
generic_bytes g = length g.1.1.name + 1

pub record CanPushGeneric (r : References) (g : ℕ × (ℕ × Generic)) : Type 0 where
  pub name : HasNoZero g.1.1.name
  pub number : g.1.0 < 2 ^ 16

-- ---- GenericParamConstraint

-- the bounds of the parameter of a row
abbrev pub bounds_with : ℕ → List Owner → List (ℕ × Owner)
bounds_with row bounds = map (λ (o : Owner). (row, o)) bounds

abbrev pub bounds_in : ℕ × Generic → List (ℕ × Owner)
bounds_in (row, g) = bounds_with row g.bounds

-- those of parameters whose rows follow one another, from this row on
abbrev pub bounds_from : ℕ → List Generic → List (ℕ × Owner)
bounds_from row generics = flat_map bounds_in (enumerate_from row generics)

-- owner and constraint
pub record IsBoundRow (r : References) (cells : List ℕ) (b : ℕ × Owner) : Type 0 where
  pub type : ℕ
  pub are : cells ≡ b.0 ∷ type ∷ []
  pub type_is : IsTypeIndex b.1 r type

abbrev pub bound_bytes : ℕ × Owner → ℕ
bound_bytes b = owner_weight b.1

abbrev pub CanPushBound : References → ℕ × Owner → Type 0
CanPushBound r b = IsOwnerWritable r b.1
