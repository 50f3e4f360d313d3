use Rattle.std.proofs.Common.{arith}
use Rattle.body_outlines.proofs.Answered.{marks_small, told_by}
use Rattle.body_outlines.proofs.reading.told_by.Goals as goal

pub overflow_cast-result : goal.overflow_cast-result
overflow_cast-result c =
    let small = marks_small c.args.bytes.now c.args.outline.now c.as_slice-marks.result.now c.requires.outline c.as_slice-marks.ensures in
    omega arith

pub returns : goal.returns
returns c =
    told_by c.args.bytes.now c.code_in-code.result.now c.args.header.now c.args.outline.now c.as_slice-marks.result.now c.as_slice-found.result.now
    c.in_ok-operands.operands c.in_ok-catches.catches c.targets_of-targets.result c.requires.header c.requires.outline c.code_in-code.ensures c.as_slice-marks.ensures c.as_slice-found.ensures
    c.in_ok-operands.ensures c.in_ok-catches.ensures c.targets_of-targets.ensures
