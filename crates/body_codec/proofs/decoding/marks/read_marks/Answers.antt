use Rattle.std.proofs.lemmas.Result.{err_from_is_err_and}
use Rattle.body_codec.proofs.Marks.{marks_more, marks_stop}
use Rattle.body_codec.proofs.decoding.marks.read_marks.Goals as goal

pub returns-in_err-mark-clause-fault : goal.returns-in_err-mark-clause-fault
returns-in_err-mark-clause-fault c =
    let p = err_from_is_err_and c.from_residual.result c.from_residual.ensures.1 in
    rw (p.1, p.2) (marks_stop c.args.code.now c.loop-at.marks c.loop-at.at c.in_err-mark.field-0.0 c.loop-at.invariant c.loop-at-test.true c.in_err-mark.ensures.fault)

pub loop-at-preserved : goal.loop-at-preserved
loop-at-preserved c =
    rw c.in_ok-push.ensures.ok (marks_more c.args.code.now c.loop-at.marks c.in_ok-mark.mark c.loop-at.at c.loop-at.invariant c.in_ok-mark.ensures.start c.in_ok-mark.ensures.found)
