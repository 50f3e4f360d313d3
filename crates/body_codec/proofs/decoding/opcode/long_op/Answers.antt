use Rattle.std.proofs.Common.{◌≡◌, None, Some}
use Rattle.body_codec.proofs.Fronts.{opcode_front, long_bytes}
use Rattle.body_codec.proofs.decoding.opcode.long_op.Goals as goal

pub returns-in_err-op-clause-none : goal.returns-in_err-op-clause-none
returns-in_err-op-clause-none c =
    rw c.from_residual.ensures (λ op more e.
    let h : None ≡ Some op = c.in_err-op.ensures.all op (long_bytes op c.args.second c.args.rest.now more c.requires.front e) in cc)

pub returns-clause-found : goal.returns-clause-found
returns-clause-found c = opcode_front c.in_ok-op.op 0xFE (Some c.args.second) c.args.rest.now 2 c.in_ok-op.ensures.found c.requires.front
