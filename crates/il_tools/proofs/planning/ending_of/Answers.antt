use Rattle.il_tools.proofs.CommandLemmas.{plan_reached, plan_too_long, plan_unread, within_so}
use Rattle.il_tools.proofs.planning.ending_of.Goals as goal

pub plan-requires : goal.plan-requires
plan-requires g c =
    within_so c.args.command (g.S.Shelf.tells c.args.shelf.now) (g.S.Shelf.files c.args.shelf.now) (g.S.Shelf.failed_reads c.args.shelf.now) (g.S.Shelf.failed_reads c.args.shelf.now)
    c.in_ok-inputs.inputs c.as_slice.result.now c.in_ok-inputs.ensures c.as_slice.ensures
    c.in-Ok.given c.as_slice-in-Ok.result.now c.as_slice-in-Ok.ensures c.in-Ok.ensures.given

pub returns-in-Ok-clause-planned : goal.returns-in-Ok-clause-planned
returns-in-Ok-clause-planned g c =
    plan_reached c.args.command _ _ _ _ c.in_ok-inputs.inputs c.as_slice.result.now c.in_ok-inputs.ensures c.as_slice.ensures
    c.in-Ok.given c.as_slice-in-Ok.result.now c.in_ok-ending-in-Ok.ending c.as_slice-in-Ok.ensures c.in-Ok.ensures.given
    c.in_ok-ending-in-Ok.ensures.gives c.in_ok-ending-in-Ok.ensures.merits

pub returns-in-Err-Unread-clause-planned : goal.returns-in-Err-Unread-clause-planned
returns-in-Err-Unread-clause-planned g c =
    let stop = rw c.in-Err-Unread.field-0-is at c.in-Err-Unread.ensures.stop in
    plan_unread c.args.command _ _ _ _ c.in_ok-inputs.inputs c.as_slice.result.now c.in_ok-inputs.ensures c.as_slice.ensures
    c.in-Err-Unread.input.now c.in_ok-ending-in-Err-Unread.ending stop.0 stop.1 c.in_ok-ending-in-Err-Unread.ensures

pub returns-in-Err-TooLong-clause-planned : goal.returns-in-Err-TooLong-clause-planned
returns-in-Err-TooLong-clause-planned g c =
    let stop = rw c.in-Err-TooLong.field-0-is at c.in-Err-TooLong.ensures.stop in
    plan_too_long c.args.command _ _ _ _ c.in_ok-inputs.inputs c.as_slice.result.now c.in_ok-inputs.ensures c.as_slice.ensures
    c.in-Err-TooLong.input.now c.in_ok-ending-in-Err-TooLong.ending stop.0 stop.1 c.in_ok-ending-in-Err-TooLong.ensures
