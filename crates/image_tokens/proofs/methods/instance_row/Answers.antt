use Rattle.image_tokens.specs.declared.row_set.Cells.{Cells}
use Rattle.image_tokens.proofs.GivenLemmas.{instance_added}
use Rattle.image_tokens.proofs.LeavesLemmas.{few_instances}
use Rattle.image_tokens.proofs.methods.instance_row.Goals as goal

pub number-requires : goal.number-requires
number-requires c = few_instances c.args.refs.now c.requires.room

pub returns : goal.returns
returns c =
    let cells : Cells = record { first = c.index_of_token.result; second = c.args.signature; third = 0 } in
    instance_added c.args.refs.now c.number.new.self cells c.args.generic c.args.signature c.in_ok-row.row c.token_of.result c.requires.known
    (λ i. record { first = c.index_of_token.ensures i; second = c.args.signature; third = 0 }) c.in_ok-row.ensures.at c.in_ok-row.ensures.kept
    (record { is = c.token_of.ensures; fits = c.in_ok-row.ensures.few }) c.args._method.now c.requires.generic_is c.requires.signature_is
