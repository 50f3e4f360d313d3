-- How the entries of a world are kept: the names once each, with the first place of each.
use Rattle.std.specs.Prelude.{◌≡◌, ℕ, ◌<◌, List, ◌∷◌, ◌++◌, length, map, slice_get, Some}
use Rattle.std.specs.List.{position_or_len}
use Rattle.type_hierarchy.specs.Names.{same_text}
use Rattle.type_hierarchy.specs.Scopes.{Sources, Member, name_of, given, entries, core_of, new_names}
use Rattle.type_tables.specs.declared.entries.Entries.{Entries}
use Rattle.type_tables.specs.declared.naming.Naming.{Naming}

-- `e` tells the first place of each name among `all`
pub record IsEntries (e : Entries) (all : List (List ℕ)) : Type 0 where
  pub count : e.count ≡ length all
  pub aligned : length e.texts ≡ length e.places
  pub found : (name : List ℕ) (j k : ℕ) → slice_get e.texts j ≡ Some name → slice_get e.places j ≡ Some k
      → (k < length all) × (position_or_len (same_text name) all ≡ k)
  pub lacks : (name : List ℕ) → ((j : ℕ) → slice_get e.texts j ≡ Some name → ⊥) → position_or_len (same_text name) all ≡ length all

-- what the entries are once these names have come, but for the image's
unfoldable pub extended : List ℕ → List (List ℕ) → List (List ℕ) → List (List ℕ)
extended image all names = all ++ new_names (image ∷ all) names

-- `n` says how names of assemblies are read in a world
pub record IsNaming (s : Sources) (n : Naming) : Type 0 where
  pub core : n.core ≡ core_of s
  pub image : n.image ≡ name_of s.image
  pub given : n.given ≡ map (λ (m : Member). name_of m.assembly) (given s)
  pub entries : IsEntries n.entries (entries s)
