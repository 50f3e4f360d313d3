use Rattle.std.proofs.Common.{sym, ◌+◌, arith}
use Rattle.std.specs.Prelude.{sum_by}
use Rattle.std.proofs.lemmas.Result.{IfOk-weaker}
use Rattle.assembly_tree.specs.Weight.{type_weight}
use Rattle.image_tokens.specs.Members.{HasLocals}
use Rattle.image_tokens.proofs.LeavesLemmas.{leaves_there, leaves_after}
use Rattle.image_tokens.proofs.locals.refer_locals.Goals as goal

pub returns-in-Some : goal.returns-in-Some
returns-in-Some c =
    leaves_there (HasLocals c.args.locals.now) c.args.refs.now (sum_by type_weight c.args.locals.now + 17) c.in-Some.token c.requires.known (sym c.in-Some.ensures)

pub locals_signature-requires-clause-room : goal.locals_signature-requires-clause-room
locals_signature-requires-clause-room c = let room = c.requires.room in omega arith

pub give_locals-requires-clause-known : goal.give_locals-requires-clause-known
give_locals-requires-clause-known c = c.in_ok-signature.ensures.known

pub give_locals-requires-clause-signature_is : goal.give_locals-requires-clause-signature_is
give_locals-requires-clause-signature_is c = c.in_ok-signature.ensures.signature

pub give_locals-requires-clause-room : goal.give_locals-requires-clause-room
give_locals-requires-clause-room c = let room = c.requires.room in let first = c.in_ok-signature.ensures.room in omega arith

pub returns : goal.returns
returns c =
    let s = c.in_ok-signature.ensures in
    IfOk-weaker c.give_locals.result _ _ (λ n h. leaves_after (HasLocals c.args.locals.now) c.args.refs.now c.locals_signature.new.refs c.give_locals.new.refs
    (sum_by type_weight c.args.locals.now + 9) 4 (sum_by type_weight c.args.locals.now + 17) n s.grows s.room (omega arith) h) c.give_locals.ensures
