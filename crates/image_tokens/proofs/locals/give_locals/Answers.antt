use Rattle.image_tokens.proofs.GivenLemmas.{locals_given}
use Rattle.image_tokens.proofs.LeavesLemmas.{few_locals}
use Rattle.image_tokens.proofs.locals.give_locals.Goals as goal

pub number-requires : goal.number-requires
number-requires c = few_locals c.args.refs.now c.requires.room

pub returns : goal.returns
returns c =
    locals_given c.args.refs.now c.number.new.self c.give.new.self c.args.locals.now c.args.signature c.in_ok-row.row c.token_of.result c.give.result c.requires.known c.requires.signature_is c.requires.in_bounds
    c.in_ok-row.ensures.at c.in_ok-row.ensures.kept (record { is = c.token_of.ensures; fits = c.in_ok-row.ensures.few }) c.give.ensures.found c.give.ensures.kept
