use Rattle.std.proofs.Common.{refl}
use Rattle.image_members.proofs.type_indexes.type_index.Goals as goal

pub returns : goal.returns
returns c =
    let o = c.in_ok-token.ensures in
    record { grows = o.grows; known = o.known; room = o.room; is = (c.in_ok-token.token, o.token_is, c.index_of_token.ensures) }
