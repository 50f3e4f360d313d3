use Rattle.image_tokens.proofs.LeavesLemmas.{few_members}
use Rattle.image_tokens.proofs.MemberLemmas.{field_given}
use Rattle.image_tokens.proofs.members.give_field.Goals as goal

pub member_token-requires : goal.member_token-requires
member_token-requires c = few_members c.args.refs.now c.requires.room

pub returns : goal.returns
returns c =
    let e = c.member_token.ensures in
    rw e.same
    (field_given c.args.refs.now c.member_token.new.members c.give.new.self c.args.field.now c.args.owner c.args.name c.args.signature c.in_ok-token.token c.give.result c.requires.known
    c.requires.owner_is c.requires.name_is c.requires.signature_is c.requires.named c.requires.in_bounds c.in_ok-token.ensures.token e.goes_on e.more e.adds c.give.ensures.found c.give.ensures.kept)
