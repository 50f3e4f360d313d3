use Rattle.std.proofs.Common.{sym, subst, length, ◌<◌, ◌^◌}
use Rattle.std.proofs.lemmas.Result.{err_from_is_err_and}
use Rattle.body_codec.proofs.Outlines.{code_small, scan_by, target_by, range_by, outline_by}
use Rattle.body_codec.proofs.decoding.outline.read_outline.Goals as goal

pub read_marks-requires : goal.read_marks-requires
read_marks-requires c =
    subst (λ x. length x < 2 ^ 32) (sym c.code_in-code.ensures) (code_small c.args.bytes.now c.args.header.now c.requires)

pub returns-in_err-marks-clause-fault : goal.returns-in_err-marks-clause-fault
returns-in_err-marks-clause-fault c =
    let p = err_from_is_err_and c.from_residual.result c.from_residual.ensures.1 in
    rw (p.1, p.2) (scan_by c.args.bytes.now c.code_in-code.result.now c.in_err-marks.field-0.0 c.code_in-code.ensures c.in_err-marks.ensures.fault)

pub returns-in_err-check_targets-clause-fault : goal.returns-in_err-check_targets-clause-fault
returns-in_err-check_targets-clause-fault c =
    let p = err_from_is_err_and c.from_residual-in_err-check_targets.result c.from_residual-in_err-check_targets.ensures.1 in
    rw (p.1, p.2) (target_by c.args.bytes.now c.code_in-code.result.now c.in_ok-marks.marks c.as_slice-places.result.now c.in_err-check_targets.field-0.0
    c.code_in-code.ensures c.as_slice-places.ensures c.in_ok-marks.ensures.found c.in_err-check_targets.ensures.fault)

pub returns-in_err-clauses-clause-fault : goal.returns-in_err-clauses-clause-fault
returns-in_err-clauses-clause-fault c =
    let p = err_from_is_err_and c.from_residual-in_err-clauses.result c.from_residual-in_err-clauses.ensures.1 in
    rw (p.1, p.2) (range_by c.args.bytes.now c.code_in-code.result.now c.in_ok-marks.marks c.as_slice-places.result.now c.in_err-clauses.field-0.0
    c.code_in-code.ensures c.as_slice-places.ensures c.in_ok-marks.ensures.found c.in_ok-check_targets.ensures.found c.in_err-clauses.ensures.fault)

pub returns-clause-found : goal.returns-clause-found
returns-clause-found c =
    outline_by c.args.bytes.now c.code_in-code.result.now c.in_ok-marks.marks c.as_slice-places.result.now c.in_ok-starts.starts c.in_ok-clauses.clauses
    c.code_in-code.ensures c.as_slice-places.ensures c.in_ok-marks.ensures.found
    c.in_ok-starts.ensures c.in_ok-check_targets.ensures.found c.in_ok-clauses.ensures.found
