-- What the data of a listing are (ECMA-335 II.16.3).
use Rattle.std.specs.Prelude.{ℕ, suc, ◌≡◌, ◌<◌, ◌^◌, true, List, [], ◌∷◌, length, map, slice_get, Some}
use Rattle.std.specs.List.{list_all}
use Rattle.assembly_tree.specs.declared.assembly.Assembly.{Assembly}
use Rattle.source_model.specs.Data.{bytes_at, data_named, labelled, label_token}
use Rattle.source_model.specs.Source.{Source}
use Rattle.source_model.specs.Values.{name_text}
use Rattle.listing_declarations.specs.Laws.{IsListingOf}
use Rattle.listing_growth.specs.Held.{are_bytes}
use Rattle.listing_leaves.specs.Numbers.{data_label}
use Rattle.listing_model.specs.Canon.{contents}
use Rattle.listing_nesting.specs.Laws.{AreNested}

-- the types of an assembly that is listed stand side by side in it
abbrev pub TypesStand : Type 0
TypesStand = (s : Source) (a : Assembly) → IsListingOf s a → AreNested a true 100 [] a.types

-- the data of all fields
pub record ContentsAreHeld : Type 0 where
  pub few : (s : Source) (a : Assembly) → IsListingOf s a → length (contents a) < 2 ^ 128
  pub bytes : (s : Source) (a : Assembly) → IsListingOf s a → list_all are_bytes (contents a) ≡ true

-- the labels of data, the first of which has this number
abbrev pub labels : ℕ → List (List ℕ) → List (List ℕ)
labels k [] = []
labels k (bytes ∷ more) = data_label k ∷ labels (suc k) more

-- Each stands behind the label of its number, and behind no other.
pub record DataAreThere : Type 0 where
  pub given : (s : Source) (a : Assembly) → IsListingOf s a → (k : ℕ) (bytes : List ℕ) → slice_get (contents a) k ≡ Some bytes →
      bytes_at s (data_named s (data_label k)) ≡ bytes
  pub said : (s : Source) (a : Assembly) → IsListingOf s a → map (λ g. name_text s (label_token g)) (labelled s) ≡ labels 0 (contents a)
