-- Where types are written: what their names stand for there, and which of them can be read.
use Rattle.std.specs.Prelude.{◌≡◌, ℕ, ◌<◌, ◌^◌, List, [], map, length}
use Rattle.source_model.specs.Forest.{Forest}
use Rattle.source_model.specs.Names.{externs, extern_key}
use Rattle.source_model.specs.Nodes.{Around, Node, nothing_around, typar_names}
use Rattle.source_model.specs.Source.{Source}
use Rattle.source_model.specs.TypeRules.{number_in_signature_out_of_range, number_in_type_out_of_range}
use Rattle.source_nodes.specs.Derived.{OfEach, FitsBody}
use Rattle.source_nodes.specs.Readers.{Reads}
use Rattle.source_syntax.specs.declared.place.Place.{Place}

-- a production alone
abbrev pub node_of : ℕ → Forest → Node
node_of p below = record { production = p; below = below; around = nothing_around }

-- the tokens of the numbers and counts in types, signatures and references that are out of their ranges
abbrev pub signature_numbers_out_of_range : Source → ℕ → Forest → List ℕ
signature_numbers_out_of_range s p below = number_in_signature_out_of_range s (node_of p below)

-- those and the flags of parameters
abbrev pub numbers_out_of_range : Source → ℕ → Forest → List ℕ
numbers_out_of_range s p below = number_in_type_out_of_range s (node_of p below)

-- below a production stands its body, and its numbers are in their ranges
abbrev pub IsSound : Source → ℕ → Forest → Type 0
IsSound s p below = FitsBody s p below × (signature_numbers_out_of_range s p below ≡ [])

-- and so it is at each production of a forest
abbrev pub IsReadable : Source → Forest → Type 0
IsReadable s f = OfEach (IsSound s) f

-- the place reads this source, and knows the keys of its assemblies and the names of the generic parameters around it
pub record IsAt (x : Place) (s : Source) (a : Around) : Type 0 where
  pub reads : Reads x.reader s
  pub keys : x.keys.now ≡ map (extern_key s) (externs s)
  pub few : length (externs s) < 2 ^ 32
  pub class : x.class.now ≡ typar_names s a.class
  pub method : x.method.now ≡ typar_names s a.method
  pub few-class : length (typar_names s a.class) < 2 ^ 32
  pub few-method : length (typar_names s a.method) < 2 ^ 32
