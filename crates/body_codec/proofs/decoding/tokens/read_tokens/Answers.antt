use Rattle.std.proofs.lemmas.Result.{err_from_is_err_and}
use Rattle.body_codec.proofs.Outlines.{outline_fault_of_all, named_by}
use Rattle.body_codec.proofs.decoding.tokens.read_tokens.Goals as goal

pub returns-in_err-outline-clause-fault : goal.returns-in_err-outline-clause-fault
returns-in_err-outline-clause-fault c =
    let p = err_from_is_err_and c.from_residual.result c.from_residual.ensures.1 in
    rw (p.1, p.2) (outline_fault_of_all c.args.bytes.now c.in_err-outline.field-0.0 c.in-Some.ensures.found.header c.in_err-outline.ensures.fault)

pub returns-clause-tokens : goal.returns-clause-tokens
returns-clause-tokens c =
    named_by c.args.bytes.now c.code_in-code.result.now c.in-Some.header c.in_ok-outline.outline c.as_slice-marks.result.now c.as_slice-found.result.now
    c.in_ok-tokens.tokens c.push_operands.new.tokens c.push_catches.new.tokens c.in-Some.ensures.found c.in_ok-outline.ensures.found
    c.code_in-code.ensures c.as_slice-marks.ensures c.as_slice-found.ensures c.in_ok-tokens.ensures c.in_ok-push_operands.ensures c.in_ok-push_catches.ensures
