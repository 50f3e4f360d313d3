-- The numbers of a production that are in their ranges, one rule after the other.
use Rattle.std.proofs.Common.{◌≡◌, ℕ, List, [], ◌++◌}
use Rattle.source_model.specs.Forest.{Forest}
use Rattle.source_model.specs.Source.{Source}
use Rattle.source_model.specs.TypeRules.{arguments_out_of_range, array_out_of_range, generic_number_out_of_range, index_out_of_range, parameter_flags_out_of_range, second_ellipsis}
use Rattle.source_nodes.proofs.Empties.{nothing_in}
use Rattle.source_syntax.specs.Places.{node_of, numbers_out_of_range, signature_numbers_out_of_range}

module _ (s : Source) (p : ℕ) (f : Forest) where
  abbrev in_types : List ℕ
  in_types = index_out_of_range s (node_of p f) ++ array_out_of_range s (node_of p f)

  abbrev in_generics : List ℕ
  in_generics = in_types ++ generic_number_out_of_range s (node_of p f)

  abbrev in_signatures : List ℕ
  in_signatures = (in_generics ++ arguments_out_of_range (node_of p f)) ++ second_ellipsis (node_of p f)

  pub signature_fits : numbers_out_of_range s p f ≡ [] → signature_numbers_out_of_range s p f ≡ []
  signature_fits e = (nothing_in in_signatures (parameter_flags_out_of_range s (node_of p f)) e).0

  generics_fit : signature_numbers_out_of_range s p f ≡ [] → in_generics ≡ []
  generics_fit e =
      (nothing_in in_generics (arguments_out_of_range (node_of p f))
      (nothing_in (in_generics ++ arguments_out_of_range (node_of p f)) (second_ellipsis (node_of p f)) e).0).0

  pub index_fits : signature_numbers_out_of_range s p f ≡ [] → index_out_of_range s (node_of p f) ≡ []
  index_fits e =
      (nothing_in (index_out_of_range s (node_of p f)) (array_out_of_range s (node_of p f))
      (nothing_in in_types (generic_number_out_of_range s (node_of p f)) (generics_fit e)).0).0

  pub array_fits : signature_numbers_out_of_range s p f ≡ [] → array_out_of_range s (node_of p f) ≡ []
  array_fits e =
      (nothing_in (index_out_of_range s (node_of p f)) (array_out_of_range s (node_of p f))
      (nothing_in in_types (generic_number_out_of_range s (node_of p f)) (generics_fit e)).0).1

  pub generic_number_fits : signature_numbers_out_of_range s p f ≡ [] → generic_number_out_of_range s (node_of p f) ≡ []
  generic_number_fits e = (nothing_in in_types (generic_number_out_of_range s (node_of p f)) (generics_fit e)).1
