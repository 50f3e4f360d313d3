-- What a faultless source says of each of its methods: it is derived, and its numbers are in their ranges (ECMA-335 II.15, II.25.4).
use Rattle.std.specs.Prelude.{◌≡◌, ℕ, []}
use Rattle.ilasm_grammar.specs.declared.productions.TheConstants.{METHOD}
use Rattle.source_model.specs.BodyNumbers.{body_numbers_out_of_range_in}
use Rattle.source_model.specs.Forest.{Forest, Part}
use Rattle.source_model.specs.Nodes.{Node}
use Rattle.source_model.specs.Source.{Source}
use Rattle.source_flags.specs.InRange.{AllInRange, IsInRange}
use Rattle.source_nodes.specs.Derived.{OfEach}
use Rattle.source_syntax.specs.Methods.{IsMethod}

pub record IsSoundMethod (s : Source) (n : Node) : Type 0 where
  pub derived : IsMethod s n
  pub each : AllInRange s n.below
  pub numbers : body_numbers_out_of_range_in s n ≡ []

-- what stands below a method's production is that of such a method
pub record IsSoundAt (s : Source) (f : Forest) : Type 0 where
  pub node : Node
  pub below : node.below ≡ f
  pub sound : IsSoundMethod s node

-- a production by itself: its numbers are in their ranges, and where it is a method, it is such a one
abbrev pub IsWhole : Source → ℕ → Forest → Type 0
IsWhole s p f = IsInRange s p f × (p ≡ METHOD → IsSoundAt s f)

-- and so it is at each production of a forest
abbrev pub AllWhole : Source → Forest → Type 0
AllWhole s f = OfEach (IsWhole s) f

-- and at a part and each production below it
abbrev pub IsWholePart : Source → Part → Type 0
IsWholePart s p = IsWhole s p.production p.below × AllWhole s p.below
