use Rattle.std.proofs.Common.{rules, sym}
use Rattle.field_data.proofs.Walked.{nothing_left, first_step}
use Rattle.field_data.proofs.kinds.+kinds.Goals as goal

pub kind_at-returns-then-depth-eq0 : goal.kind_at-returns-then-depth-eq0
kind_at-returns-then-depth-eq0 t c = sym (nothing_left c.args.depth c.args.bytes.now c.if-depth-eq0.true)

pub kind_at-returns-in_err-byte : goal.kind_at-returns-in_err-byte
kind_at-returns-in_err-byte t c = rw (first_step c.args.depth c.args.bytes.now c.if-depth-eq0.false) (search rules)

pub kind_at-returns-in_err-element : goal.kind_at-returns-in_err-element
kind_at-returns-in_err-element t c = rw (first_step c.args.depth c.args.bytes.now c.if-depth-eq0.false) (search rules)

pub kind_at-returns : goal.kind_at-returns
kind_at-returns t c = rw (first_step c.args.depth c.args.bytes.now c.if-depth-eq0.false) (search rules)
