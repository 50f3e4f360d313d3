use Rattle.std.proofs.Common.{◌∙◌, ap, drop}
use Rattle.std.proofs.lemmas.List.{drop-drop}
use Rattle.stack_states.specs.Chains.{values_of}
use Rattle.stack_states.proofs.stack.below.Goals as goal

pub loop-preserved : goal.loop-preserved
loop-preserved c = c.next-rest.ensures ∙ ap (drop 1) c.loop.invariant ∙ drop-drop 1 c.loop.counter (values_of c.args.link.now)
