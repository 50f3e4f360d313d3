-- The parts of a method (ECMA-335 II.15.3, II.22.26).
use Rattle.std.specs.Prelude.{◌≡◌, [], ◌∷◌, map}
use Rattle.ilasm_grammar.specs.declared.productions.TheConstants.{OVERRIDDEN_METHOD, OVERRIDDEN_SPEC}
use Rattle.source_model.specs.Forest.{Forest, parts}
use Rattle.source_model.specs.Items.{items_and_ends, own_customs, runs}
use Rattle.source_model.specs.Manifests.{attributes}
use Rattle.source_model.specs.Members.{overridden}
use Rattle.source_model.specs.Nodes.{Around}
use Rattle.source_model.specs.Parameters.{generics, params}
use Rattle.source_model.specs.Source.{Source}
use Rattle.lower_methods.specs.declared.method_rows.Rows.{Rows}

-- its generic parameters and parameters, the methods that it overrides, and its attributes
pub record AreRows (s : Source) (a : Around) (f : Forest) (x : Rows) : Type 0 where
  pub generics-are : x.generics ≡ generics s a f (runs (items_and_ends f))
  pub parameters-are : x.params ≡ params s a f (runs (items_and_ends f))
  pub overrides-are : x.overrides ≡ map (overridden s a f) (parts (OVERRIDDEN_METHOD ∷ OVERRIDDEN_SPEC ∷ []) f)
  pub attributes-are : x.attributes ≡ attributes s a (own_customs (items_and_ends f))
