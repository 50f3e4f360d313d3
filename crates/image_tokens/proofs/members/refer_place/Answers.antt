use Rattle.std.proofs.Common.{length, ◌+◌, arith}
use Rattle.assembly_tree.specs.Weight.{owner_weight}
use Rattle.image_tokens.proofs.LeavesLemmas.{placed}
use Rattle.image_tokens.proofs.members.refer_place.Goals as goal

pub refer_owner-requires-clause-room : goal.refer_owner-requires-clause-room
refer_owner-requires-clause-room c = let room = c.requires.room in omega arith

pub refer_text-requires-clause-known : goal.refer_text-requires-clause-known
refer_text-requires-clause-known c = c.in_ok-token.ensures.known

pub refer_text-requires-clause-room : goal.refer_text-requires-clause-room
refer_text-requires-clause-room c = let room = c.requires.room in let first = c.in_ok-token.ensures.room in omega arith

pub returns : goal.returns
returns c =
    placed c.args.refs.now c.refer_owner.new.refs c.refer_text.new.refs c.args.owner.now c.args.name.now c.in_ok-token.token c.in_ok-index.index
    (owner_weight c.args.owner.now + length c.args.name.now + 1) c.in_ok-token.ensures c.in_ok-index.ensures (omega arith)
