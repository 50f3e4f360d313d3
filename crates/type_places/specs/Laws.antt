-- Where paths lead in a tree (ECMA-335 II.5.3, II.10).
use Rattle.std.specs.Prelude.{ℕ, ◌≡◌, true, false, Bool, List, [], ◌∷◌, codes}
use Rattle.std.specs.List.{list_any}
use Rattle.type_terms.specs.declared.name.TypeId.{TypeId}
use Rattle.assembly_tree.specs.DataSize.{type_at}
use Rattle.assembly_tree.specs.WellFormedTypes.{are_types}
use Rattle.assembly_tree.specs.declared.assembly.Assembly.{Assembly}
use Rattle.assembly_tree.specs.declared.typedef.TypeDef.{TypeDef}
use Rattle.assembly_tree.specs.WellFormedNames.{all_differ}
use Rattle.type_places.specs.Places.{Placed, places, has_path, layout_found, layout_of}

-- Types side by side that are well formed: the first of a path is the one that the path leads to.
abbrev pub PathsLead : Type 0
PathsLead =
    (a : Assembly) (top : Bool) (depth : ℕ) (ts : List TypeDef) → are_types a top depth ts ≡ true → (path : List TypeId) →
    layout_found path (places [] ts) ≡ layout_of (type_at ts path)

-- a type has the path of an earlier one
abbrev pub is_same_place : Placed → Placed → Bool
is_same_place earlier later = has_path earlier.path later

-- the path of what is declared outside of any type (ECMA-335 II.10.8)
abbrev pub module_path : List TypeId
module_path = record { space = []; name = codes "<Module>" } ∷ []

-- No two have one path, and of types that no other nests none has that of `<Module>`.
pub record PlacesDiffer : Type 0 where
  pub differ : (a : Assembly) (top : Bool) (depth : ℕ) (ts : List TypeDef) → are_types a top depth ts ≡ true → all_differ is_same_place (places [] ts) ≡ true
  pub no_module : (a : Assembly) (depth : ℕ) (ts : List TypeDef) → are_types a true depth ts ≡ true → list_any (has_path module_path) (places [] ts) ≡ false
