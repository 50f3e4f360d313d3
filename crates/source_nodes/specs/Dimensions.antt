-- The dimensions of an array by their tokens (ECMA-335 II.14.2).
use Rattle.std.specs.Prelude.{◌≡◌, ℤ, List, []}
use Rattle.std.specs.List.{flat_map}
use Rattle.source_model.specs.Shapes.{Bound, lower_value}
use Rattle.source_model.specs.Source.{Source}
use Rattle.source_model.specs.TypeRules.{bound_out_of_range}
use Rattle.source_nodes.specs.declared.shapes.Dimension.{Dimension}

-- the bound that a dimension has
abbrev pub bound_of : Dimension → Bound
bound_of d = record { lower = d.lower; size = d.size }

-- its lower bound, which is 0 where none is given
abbrev pub lower_of : Source → Dimension → ℤ
lower_of s d = lower_value s d.lower

-- the bounds of these dimensions are in their ranges
abbrev pub AreInRange : Source → List Bound → Type 0
AreInRange s bs = flat_map (bound_out_of_range s) bs ≡ []
