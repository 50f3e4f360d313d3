use Rattle.std.proofs.lemmas.Int.{to_z-of_z}
use mir.Syntax.{w64}
use Rattle.body_codec.specs.Reading.{pieces_of}
use Rattle.body_codec.proofs.Targets.{behind_none, behind_some, behind_nothing, sum_is}
use Rattle.body_codec.proofs.decoding.targets.target_behind.Goals as goal

pub returns-in_err-offset-clause-none : goal.returns-in_err-offset-clause-none
returns-in_err-offset-clause-none c =
    rw c.from_residual.ensures (behind_none c.args.layout.now.code.now c.args.layout.now.marks.now c.args.mark.now.end c.from.result c.args.distance _
    c.requires.marked c.from.ensures (to_z-of_z w64 c.args.distance c.ranges.distance) c.in_err-offset.ensures)

pub returns-clause-found : goal.returns-clause-found
returns-clause-found c =
    let ps = pieces_of c.args.layout.now.code.now c.args.layout.now.marks.now in
    behind_some ps c.args.mark.now.end c.in_ok-offset.offset c.args.distance c.start_at.result
    (sum_is c.args.mark.now.end c.from.result c.in_ok-offset.offset c.args.distance _ c.from.ensures (to_z-of_z w64 c.args.distance c.ranges.distance) c.in_ok-offset.ensures) c.start_at.ensures.found

pub returns-clause-none : goal.returns-clause-none
returns-clause-none c =
    let ps = pieces_of c.args.layout.now.code.now c.args.layout.now.marks.now in
    behind_nothing ps c.args.mark.now.end c.in_ok-offset.offset c.args.distance c.start_at.result
    (sum_is c.args.mark.now.end c.from.result c.in_ok-offset.offset c.args.distance _ c.from.ensures (to_z-of_z w64 c.args.distance c.ranges.distance) c.in_ok-offset.ensures) c.start_at.ensures.none
