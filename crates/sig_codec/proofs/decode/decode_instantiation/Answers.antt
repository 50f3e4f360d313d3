use Rattle.sig_codec.specs.Signature.{IsInstantiation}
use Rattle.sig_codec.specs.Reading.{whole_instantiation}
use Rattle.sig_codec.proofs.Whole.{answers_found, answers_only, answers_none, instantiation_whole, whole_instantiation_again}
use Rattle.sig_codec.proofs.decode.decode_instantiation.Goals as goal

pub returns-clause-found : goal.returns-clause-found
returns-clause-found g c =
    let owners = g.N.Namer.owners c.args.map.now in
    let whole = whole_instantiation owners c.args.bytes.now in
    answers_found whole (IsInstantiation owners c.args.bytes.now) (instantiation_whole owners c.args.bytes.now) (whole_instantiation_again owners c.args.bytes.now) c.answer.result (c.answer.ensures whole c.whole_instantiation.ensures)

pub returns-clause-only : goal.returns-clause-only
returns-clause-only g c =
    let owners = g.N.Namer.owners c.args.map.now in
    let whole = whole_instantiation owners c.args.bytes.now in
    answers_only whole (IsInstantiation owners c.args.bytes.now) (instantiation_whole owners c.args.bytes.now) (whole_instantiation_again owners c.args.bytes.now) c.answer.result (c.answer.ensures whole c.whole_instantiation.ensures)

pub returns-clause-none : goal.returns-clause-none
returns-clause-none g c =
    let owners = g.N.Namer.owners c.args.map.now in
    let whole = whole_instantiation owners c.args.bytes.now in
    answers_none whole (IsInstantiation owners c.args.bytes.now) (instantiation_whole owners c.args.bytes.now) (whole_instantiation_again owners c.args.bytes.now) c.answer.result (c.answer.ensures whole c.whole_instantiation.ensures)
