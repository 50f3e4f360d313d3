use Rattle.std.proofs.Common.{◌∷◌, [], ap, ◌∙◌}
use Rattle.ilasm_grammar.specs.declared.productions.TheConstants.{METHOD}
use Rattle.source_model.specs.Nodes.{nodes_in, nodes_of, nothing_around}
use Rattle.source_nodes.specs.Least.{least}
use Rattle.check_bodies.proofs.MethodWalks.{chosen_broken, methods_of}
use Rattle.check_bodies.proofs.bodies.body_fault.Goals as goal

pub returns : goal.returns
returns c s f r e stands =
    let ns = nodes_in s nothing_around f in
    c.in_ok-first.ensures s f (nodes_of (METHOD ∷ []) ns) r e (methods_of s f stands) ∙ ap least (chosen_broken s ns)
