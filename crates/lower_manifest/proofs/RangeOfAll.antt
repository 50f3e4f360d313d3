-- Where no number of a source is out of its range, each production is in range.
use Rattle.std.proofs.Common.{◌≡◌, ℕ, [], ◌++◌, sym, ◌∙◌}
use Rattle.std.specs.List.{flat_map}
use Rattle.std.proofs.lemmas.Grind.{flat_map-append}
use Rattle.source_model.specs.Forest.{Forest, none, leaf, branch}
use Rattle.source_model.specs.Nodes.{Around, Node, entered, nodes, nodes_in, nothing_around}
use Rattle.source_model.specs.OutOfRange.{
  barred_arguments,
  barred_in_property,
  constant_out_of_range,
  data_number_out_of_range,
  data_too_long,
  flags_out_of_range,
  layout_number_out_of_range,
  manifest_number_out_of_range,
  number_out_of_range_at,
  numbers_out_of_range,
  param_out_of_range,
}
use Rattle.source_model.specs.Source.{Source}
use Rattle.source_model.specs.TypeRules.{number_in_type_out_of_range, typars_out_of_range}
use Rattle.source_nodes.specs.Derived.{FitsBody, HasBodies}
use Rattle.source_nodes.proofs.Empties.{nothing_in}
use Rattle.source_flags.specs.InRange.{AllInRange, IsInRange}

module _ (s : Source) where
  own_range : (a : Around) (p : ℕ) (b : Forest) → FitsBody s p b
      → number_out_of_range_at s (record { production = p; below = b; around = a }) ≡ [] → IsInRange s p b
  own_range a p b fits e =
      let n : Node = record { production = p; below = b; around = a } in
      let m = manifest_number_out_of_range s n in
      let f = flags_out_of_range s n in
      let c = constant_out_of_range s n in
      let l = layout_number_out_of_range s n in
      let d = data_number_out_of_range s n in
      let t = data_too_long s n in
      let k = param_out_of_range s n in
      let r = barred_arguments n in
      let q = barred_in_property n in
      let i = number_in_type_out_of_range s n in
      let h1 = nothing_in (m ++ f ++ c ++ l ++ d ++ t ++ k ++ r ++ q ++ i) (typars_out_of_range n) e in
      let h2 = nothing_in (m ++ f ++ c ++ l ++ d ++ t ++ k ++ r ++ q) i h1.0 in
      let h3 = nothing_in (m ++ f ++ c ++ l ++ d ++ t ++ k ++ r) q h2.0 in
      let h4 = nothing_in (m ++ f ++ c ++ l ++ d ++ t ++ k) r h3.0 in
      let h5 = nothing_in (m ++ f ++ c ++ l ++ d ++ t) k h4.0 in
      let h6 = nothing_in (m ++ f ++ c ++ l ++ d) t h5.0 in
      let h7 = nothing_in (m ++ f ++ c ++ l) d h6.0 in
      let h8 = nothing_in (m ++ f ++ c) l h7.0 in
      let h9 = nothing_in (m ++ f) c h8.0 in
      let h10 = nothing_in m f h9.0 in
      record {
        fits = fits;
        types = h2.1;
        manifest = h10.0;
        flags = h10.1;
        constants = h9.1;
        layouts = h8.1;
        data-numbers = h7.1;
      }

  in_range : (a : Around) (f : Forest) → HasBodies s f → flat_map (number_out_of_range_at s) (nodes_in s a f) ≡ [] → AllInRange s f
  in_range a none h e = tt
  in_range a (leaf k f) h e = in_range a f h e
  in_range a (branch p b f) h e =
      let inner = entered s a p b in
      let own = nothing_in (number_out_of_range_at s (record { production = p; below = b; around = inner }))
      (flat_map (number_out_of_range_at s) (nodes_in s inner b ++ nodes_in s a f)) e in
      let both = nothing_in (flat_map (number_out_of_range_at s) (nodes_in s inner b)) (flat_map (number_out_of_range_at s) (nodes_in s a f))
      (sym (flat_map-append (number_out_of_range_at s) (nodes_in s inner b) (nodes_in s a f)) ∙ own.1) in
      (own_range inner p b h.0 own.0, in_range inner b h.1 both.0, in_range a f h.2 both.1)

pub all_in_range : (s : Source) → HasBodies s s.tree → numbers_out_of_range s ≡ [] → AllInRange s s.tree
unfolding nodes
all_in_range s h e = in_range s nothing_around s.tree h e
