use Rattle.image_tokens.proofs.AddedLemmas.{named}
use Rattle.image_tokens.proofs.SizeLemmas.{room_for_names, room_for_rows}
use Rattle.image_tokens.proofs.naming.refer_name.Goals as goal

pub name_token-requires-clause-room : goal.name_token-requires-clause-room
name_token-requires-clause-room c = room_for_names c.args.refs.now c.args.name.now c.requires.room

pub name_token-requires-clause-few : goal.name_token-requires-clause-few
name_token-requires-clause-few c = room_for_rows c.args.refs.now c.args.name.now c.requires.room

pub returns : goal.returns
returns c =
    let e = c.name_token.ensures in
    named c.args.refs.now c.name_token.new.strings c.name_token.new.referred c.name_token.new.known c.args.name.now c.name_token.result c.requires.known c.requires.room
    e.token e.found e.names e.learns e.keeps e.goes_on e.size e.more c.requires.nameable e.adds
