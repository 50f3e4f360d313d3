-- The rows of MethodSemantics: the accessors of events and properties (ECMA-335 II.22.28, II.23.1.12).
use Rattle.std.specs.Prelude.{ℕ, ◌+◌, ◌^◌, ◌<◌, List, [], ◌∷◌, map, length}
use Rattle.std.specs.List.{AllByRecursion}
use Rattle.metadata_tables.specs.Encoding.{rows_in}
use Rattle.metadata_tables.specs.declared.coded.Coded.TheVariants.{HasSemantics}
use Rattle.assembly_tree.specs.declared.members.Accessor.{Accessor}
use Rattle.image_members.specs.ByNumber.{owned_in, owned_at, by_number}
use Rattle.image_members.specs.Pushing.{Tables}
use Rattle.image_rows.specs.declared.semantics_rows.Access.{Access}
use Rattle.image_rows.specs.declared.semantics_rows.Accessing.{Accessing}

-- accessors with the coded index of what they belong to: what each does, and the row of its method, where that of the first
-- method of the type is `first`
abbrev pub accessors_with : (association first : ℕ) → List Accessor → List (ℕ × (ℕ × ℕ))
accessors_with association first accessors = map (λ (a : Accessor). (association, (a.kind, first + a.method))) accessors

abbrev pub methods_of : Access → List (ℕ × ℕ)
methods_of a = map (λ (x : Accessor). (x.kind, a.first + x.method)) a.of.now

-- for each row of a table
abbrev pub with_methods : Accessing → ℕ × List (List (ℕ × ℕ))
with_methods t = (t.table, map methods_of t.of)

abbrev pub accessors_in : ℕ → Accessing → List (ℕ × (ℕ × ℕ))
accessors_in k t = owned_in HasSemantics k (with_methods t)

abbrev pub accessors_at : List Accessing → ℕ → List (ℕ × (ℕ × ℕ))
accessors_at tables k = owned_at HasSemantics (map with_methods tables) k

abbrev pub all_accessors : List Accessing → ℕ → List (ℕ × (ℕ × ℕ))
all_accessors tables count = by_number HasSemantics (map with_methods tables) count

-- semantics, method and association
abbrev pub semantics_row : ℕ × (ℕ × ℕ) → List ℕ
semantics_row (association, (kind, method)) = kind ∷ method ∷ association ∷ []

-- such rows can be added: the methods have rows, and there is room
pub record CanAddAccessors (items : List (ℕ × (ℕ × ℕ))) (tables : Tables) : Type 0 where
  pub methods : AllByRecursion (λ a. a.1.1 < 2 ^ 24) items
  pub few : rows_in tables 0x18 + length items < 2 ^ 24
