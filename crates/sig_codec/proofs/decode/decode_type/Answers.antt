use Rattle.sig_codec.specs.Signature.{IsType}
use Rattle.sig_codec.specs.Reading.{whole_type}
use Rattle.sig_codec.proofs.Whole.{answers_found, answers_only, answers_none, type_whole, whole_type_again}
use Rattle.sig_codec.proofs.decode.decode_type.Goals as goal

pub returns-clause-found : goal.returns-clause-found
returns-clause-found g c =
    let owners = g.N.Namer.owners c.args.map.now in
    let whole = whole_type owners c.args.bytes.now in
    answers_found whole (IsType owners c.args.bytes.now) (type_whole owners c.args.bytes.now) (whole_type_again owners c.args.bytes.now) c.answer.result (c.answer.ensures whole c.whole_type.ensures)

pub returns-clause-only : goal.returns-clause-only
returns-clause-only g c =
    let owners = g.N.Namer.owners c.args.map.now in
    let whole = whole_type owners c.args.bytes.now in
    answers_only whole (IsType owners c.args.bytes.now) (type_whole owners c.args.bytes.now) (whole_type_again owners c.args.bytes.now) c.answer.result (c.answer.ensures whole c.whole_type.ensures)

pub returns-clause-none : goal.returns-clause-none
returns-clause-none g c =
    let owners = g.N.Namer.owners c.args.map.now in
    let whole = whole_type owners c.args.bytes.now in
    answers_none whole (IsType owners c.args.bytes.now) (type_whole owners c.args.bytes.now) (whole_type_again owners c.args.bytes.now) c.answer.result (c.answer.ensures whole c.whole_type.ensures)
