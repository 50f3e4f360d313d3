use Rattle.sig_codec.specs.Signature.{IsField}
use Rattle.sig_codec.specs.Reading.{whole_field}
use Rattle.sig_codec.proofs.Whole.{answers_found, answers_only, answers_none, field_whole, whole_field_again}
use Rattle.sig_codec.proofs.decode.decode_field.Goals as goal

pub returns-clause-found : goal.returns-clause-found
returns-clause-found g c =
    let owners = g.N.Namer.owners c.args.map.now in
    let whole = whole_field owners c.args.bytes.now in
    answers_found whole (IsField owners c.args.bytes.now) (field_whole owners c.args.bytes.now) (whole_field_again owners c.args.bytes.now) c.answer.result (c.answer.ensures whole c.whole_field.ensures)

pub returns-clause-only : goal.returns-clause-only
returns-clause-only g c =
    let owners = g.N.Namer.owners c.args.map.now in
    let whole = whole_field owners c.args.bytes.now in
    answers_only whole (IsField owners c.args.bytes.now) (field_whole owners c.args.bytes.now) (whole_field_again owners c.args.bytes.now) c.answer.result (c.answer.ensures whole c.whole_field.ensures)

pub returns-clause-none : goal.returns-clause-none
returns-clause-none g c =
    let owners = g.N.Namer.owners c.args.map.now in
    let whole = whole_field owners c.args.bytes.now in
    answers_none whole (IsField owners c.args.bytes.now) (field_whole owners c.args.bytes.now) (whole_field_again owners c.args.bytes.now) c.answer.result (c.answer.ensures whole c.whole_field.ensures)
