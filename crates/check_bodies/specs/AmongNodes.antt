-- What is known of some of a source's nodes, and of the methods among them.
use Rattle.std.specs.Prelude.{◌≡◌, ℕ, List, map}
use Rattle.std.specs.List.{AllByRecursion}
use Rattle.ilasm_grammar.specs.declared.productions.TheConstants.{METHOD}
use Rattle.source_model.specs.Forest.{Forest, tokens_of}
use Rattle.source_model.specs.Nodes.{Node}
use Rattle.source_model.specs.Source.{Source}
use Rattle.source_model.specs.TokenOrder.{numbers_from}
use Rattle.source_nodes.specs.Derived.{HasBodies}
use Rattle.source_syntax.specs.Methods.{all_below, IsMethod}

-- a part of the source's derivation: below each production stands its body, and the tokens follow one another
pub record StandsIn (s : Source) (f : Forest) : Type 0 where
  pub bodies : HasBodies s f
  pub first : ℕ
  pub count : ℕ
  pub in-order : tokens_of f ≡ numbers_from first count

-- all methods in a forest, in preorder
pub record AreMethodsOf (s : Source) (f : Forest) (ms : List Node) : Type 0 where
  pub below : map (λ n. n.below) ms ≡ all_below METHOD f
  pub each : AllByRecursion (IsMethod s) ms
