use Rattle.image_tokens.proofs.LeavesLemmas.{few_members}
use Rattle.image_tokens.proofs.MemberLemmas.{generic_by_row}
use Rattle.image_tokens.proofs.methods.row_token.Goals as goal

pub member_token-requires : goal.member_token-requires
member_token-requires c = few_members c.args.refs.now c.requires.room

pub returns : goal.returns
returns c =
    let e = c.member_token.ensures in
    rw e.same
    (generic_by_row c.args.refs.now c.member_token.new.members c.args._method.now c.args.owner c.args.name c.args.signature c.member_token.result c.requires.known
    c.requires.owner_is c.requires.name_is c.requires.signature_is c.requires.named c.requires.in_bounds e.token e.goes_on e.more e.adds)
