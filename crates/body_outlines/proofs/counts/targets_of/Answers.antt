use Rattle.std.proofs.Common.{◌≡◌, ◌+◌, ◌∙◌, ap, subst, sym, take, Fits, w32, ◌<◌, ◌^◌, arith}
use Rattle.std.specs.List.{sum_by}
use Rattle.body_codec.specs.Reading.{pieces_of}
use Rattle.body_outlines.specs.Outlines.{targets_in}
use Rattle.body_outlines.proofs.TargetSums.{sum_more, sum_small}
use Rattle.body_outlines.proofs.counts.targets_of.Goals as goal

pub loop-mark-preserved : goal.loop-mark-preserved
loop-mark-preserved c =
    ap (λ n. c.loop-mark.targets + n) c.targets_at-targets.ensures
    ∙ sum_more c.args.code.now c.args.marks.now c.loop-mark.mark-index _ c.loop-mark.targets c.loop-mark-test.true c.loop-mark.invariant

pub overflow_add-targets : goal.overflow_add-targets
overflow_add-targets c =
    let small = sum_small c.args.code.now c.args.marks.now (c.loop-mark.mark-index + 1) c.requires in
    let more : c.loop-mark.targets + c.targets_at-targets.result ≡ sum_by targets_in (take (c.loop-mark.mark-index + 1) (pieces_of c.args.code.now c.args.marks.now)) =
    ap (λ n. c.loop-mark.targets + n) c.targets_at-targets.ensures
    ∙ sum_more c.args.code.now c.args.marks.now c.loop-mark.mark-index _ c.loop-mark.targets c.loop-mark-test.true c.loop-mark.invariant in
    omega arith
