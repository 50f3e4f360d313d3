use Rattle.image_tokens.proofs.AddedLemmas.{spec_added}
use Rattle.image_tokens.proofs.SizeLemmas.{few_specs_now}
use Rattle.image_tokens.proofs.type_specs.add_row.Goals as goal

pub number-requires : goal.number-requires
number-requires c = few_specs_now c.args.refs.now c.requires.room

pub returns : goal.returns
returns c =
    spec_added c.args.refs.now c.number.new.self c.add.new.self c.args.of.now c.args.blob c.in_ok-row.row c.token_of-token.result c.requires.known c.requires.lacks c.requires.signature c.requires.in_bounds
    c.in_ok-row.ensures.at c.in_ok-row.ensures.kept (record { is = c.token_of-token.ensures; fits = c.in_ok-row.ensures.few }) c.in_ok-add.ensures.ok
