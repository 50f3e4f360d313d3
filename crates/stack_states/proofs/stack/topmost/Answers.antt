use Rattle.std.proofs.Common.{◌∙◌, ap, sym, ◌++◌, drop, take}
use Rattle.std.proofs.lemmas.List.{drop-drop}
use Rattle.std.proofs.Math.Seq.{take-add}
use Rattle.stack_states.specs.Chains.{values_of}
use Rattle.stack_states.proofs.stack.topmost.Goals as goal

pub loop-preserved : goal.loop-preserved
loop-preserved c =
    let k = c.loop.counter in
    let xs = values_of c.args.link.now in (
      c.next-rest.ensures ∙ ap (drop 1) c.loop.invariant.0 ∙ drop-drop 1 k xs,
      c.in_ok-add_topmost.ensures ∙ ap (λ ys. ys ++ take 1 (values_of c.loop.rest.now)) c.loop.invariant.1 ∙ ap (λ ys. take k xs ++ take 1 ys) c.loop.invariant.0 ∙ sym (take-add k 1 xs),
    )
