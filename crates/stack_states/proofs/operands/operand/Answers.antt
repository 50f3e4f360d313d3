use Rattle.std.proofs.Common.{arith, refl, length}
use Rattle.std.proofs.lemmas.Option.{slice_get_read}
use Rattle.stack_states.proofs.Taking.{code_missing, code_past, code_there, one_within}
use Rattle.stack_states.proofs.operands.operand.Goals as goal

pub returns-then-count-k-clause-is : goal.returns-then-count-k-clause-is
returns-then-count-k-clause-is c = λ ns. code_past ns c.args.stack.now c.args.count c.args.k (omega arith)

pub returns-then-depth-back-clause-is : goal.returns-then-depth-back-clause-is
returns-then-depth-back-clause-is c = λ ns. code_missing ns c.args.stack.now c.args.count c.args.k (omega arith) (omega arith)

pub returns-clause-is : goal.returns-clause-is
returns-clause-is c =
    let s = c.args.stack.now in
    let x = c.index-stack-depth.result in
    λ ns. code_there ns s c.args.count c.args.k _ x (omega arith) (omega arith) (omega arith) (slice_get_read s (length s) _ x refl (omega arith) c.index-stack-depth.is)

pub returns-clause-within : goal.returns-clause-within
returns-clause-within c =
    let s = c.args.stack.now in
    let x = c.index-stack-depth.result in
    λ n all. one_within n s _ x (slice_get_read s (length s) _ x refl (omega arith) c.index-stack-depth.is) all
