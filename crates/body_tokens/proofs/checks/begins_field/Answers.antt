use Rattle.std.proofs.Common.{arith}
use Rattle.std.proofs.lemmas.Bool.{false≢true}
use Rattle.body_tokens.proofs.Checking.{begins, begins_none}
use Rattle.body_tokens.proofs.checks.begins_field.Goals as goal

pub returns-then-length-eq0 : goal.returns-then-length-eq0
returns-then-length-eq0 c = (
  λ t. absurd (false≢true t),
  λ r. absurd (begins_none c.args.bytes.now r.0 c.if-length-eq0.true r.1),
)

pub returns : goal.returns
returns c = begins c.args.bytes.now (let n = c.if-length-eq0.false in omega arith)
