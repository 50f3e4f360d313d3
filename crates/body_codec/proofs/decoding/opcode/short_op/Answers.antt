use Rattle.std.proofs.Common.{◌≡◌, None, Some}
use Rattle.body_codec.proofs.Fronts.{opcode_front, short_bytes}
use Rattle.body_codec.proofs.decoding.opcode.short_op.Goals as goal

pub returns-in_err-op-clause-none : goal.returns-in_err-op-clause-none
returns-in_err-op-clause-none c =
    rw c.from_residual.ensures (λ op more e.
    let h : None ≡ Some op = c.in_err-op.ensures.all op (short_bytes op c.args.first c.args.rest.now more c.requires.front c.requires.short e) in cc)

pub returns-clause-found : goal.returns-clause-found
returns-clause-found c = opcode_front c.in_ok-op.op c.args.first None c.args.rest.now 1 c.in_ok-op.ensures.found c.requires.front
