use Rattle.std.proofs.Common.{◌≡◌, ◌-◌}
use Rattle.listing_model.specs.Types.{dimensions}
use Rattle.print_terms.specs.Shapes.{others_drawn}
use Rattle.print_terms.proofs.shapes.write_others.Given as goal

abbrev pub invariant-loop-k : goal.invariant-loop-k
invariant-loop-k l = others_drawn l.paper (dimensions (l.count - l.k) l.sizes l.lower) ≡ others_drawn l.initial.paper (dimensions l.count l.fn.sizes l.fn.lower)
