use Rattle.image_tokens.proofs.MemberLemmas.{method_given}
use Rattle.image_tokens.proofs.methods.give_method.Goals as goal

pub returns : goal.returns
returns c =
    method_given c.args.refs.now c.give.new.self c.args.method.now c.args.token c.give.result c.requires.known c.requires.token_is c.give.ensures.found c.give.ensures.kept
