-- Which types a listing declares (ECMA-335 II.10, II.10.7, II.16.3).
use Rattle.std.specs.Prelude.{◌≡◌, List, [], map, option_map}
use Rattle.assembly_tree.specs.DataSize.{type_at, size_in_data}
use Rattle.assembly_tree.specs.declared.assembly.Assembly.{Assembly}
use Rattle.type_terms.specs.declared.name.TypeId.{TypeId}
use Rattle.type_terms.specs.declared.term.SigType.{SigType}
use Rattle.source_model.specs.Data.{layout, data_size}
use Rattle.source_model.specs.Names.{classes, class_at}
use Rattle.source_model.specs.Nodes.{Node}
use Rattle.source_model.specs.Source.{Source}
use Rattle.listing_declarations.specs.Laws.{IsListingOf}
use Rattle.type_places.specs.Places.{Placed, places, layout_of}

-- a class of a source by its path, with its layout
abbrev pub place_of : Source → Node → Placed
place_of s n = record { path = n.around.path; layout = layout s n.below }

-- the classes of a listing are the types of the tree, each before those that it nests
abbrev pub PlacesAreRead : Type 0
PlacesAreRead = (s : Source) (a : Assembly) → IsListingOf s a → map (place_of s) (classes s) ≡ places [] a.types

-- A path leads to the same type in a listing and in the tree, or to none in both; so a value of a type has the same size.
pub record SizesAreKnown : Type 0 where
  pub leads : (s : Source) (a : Assembly) → IsListingOf s a → (path : List TypeId) → option_map (λ (n : Node). layout s n.below) (class_at s path) ≡ layout_of (type_at a.types path)
  pub sizes : (s : Source) (a : Assembly) → IsListingOf s a → (t : SigType) → data_size s t ≡ size_in_data a t
