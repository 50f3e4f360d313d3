use Rattle.std.proofs.Common.{subst, arith}
use Rattle.image_tokens.specs.Writable.{IsHandledWritable}
use Rattle.image_tokens.proofs.OperandLemmas.{weight_of_caught, caught_noted}
use Rattle.image_tokens.proofs.body_tokens.note_handled.Goals as goal

pub refer_owner-requires-clause-writable : goal.refer_owner-requires-clause-writable
refer_owner-requires-clause-writable c = subst (IsHandledWritable c.args.refs.now) c.in-Catch.is c.requires.writable

pub refer_owner-requires-clause-room : goal.refer_owner-requires-clause-room
refer_owner-requires-clause-room c = let weighs = weight_of_caught c.args.kind.now c.in-Catch.owner c.in-Catch.is in let room = c.requires.room in omega arith

pub returns-in_ok-refer_owner-in-Catch : goal.returns-in_ok-refer_owner-in-Catch
returns-in_ok-refer_owner-in-Catch c =
    caught_noted c.args.refs.now c.refer_owner.new.refs c.args.kind.now c.in-Catch.owner c.in_ok-refer_owner-in-Catch.field-0 c.in-Catch.is c.in_ok-refer_owner-in-Catch.ensures
