use Rattle.std.proofs.Common.{length, ◌+◌, arith}
use Rattle.image_tokens.proofs.LeavesLemmas.{text_leaves}
use Rattle.image_tokens.proofs.SizeLemmas.{room_for_texts}
use Rattle.image_tokens.proofs.members.refer_text.Goals as goal

pub add_text-requires-clause-room : goal.add_text-requires-clause-room
add_text-requires-clause-room c = let room = room_for_texts c.args.refs.now (length c.args.text.now + 1) c.requires.room in omega arith

pub returns : goal.returns
returns c =
    let e = c.add_text.ensures in
    text_leaves c.args.refs.now c.add_text.new.strings c.args.text.now c.add_text.result c.requires.known e.holds e.keeps e.size
