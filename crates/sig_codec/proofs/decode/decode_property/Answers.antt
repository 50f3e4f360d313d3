use Rattle.sig_codec.specs.Signature.{IsProperty}
use Rattle.sig_codec.specs.Reading.{whole_property}
use Rattle.sig_codec.proofs.Whole.{answers_found, answers_only, answers_none}
use Rattle.sig_codec.proofs.Methods.{property_whole, whole_property_again}
use Rattle.sig_codec.proofs.decode.decode_property.Goals as goal

pub returns-clause-found : goal.returns-clause-found
returns-clause-found g c =
    let owners = g.N.Namer.owners c.args.map.now in
    let whole = whole_property owners c.args.bytes.now in
    answers_found whole (IsProperty owners c.args.bytes.now) (property_whole owners c.args.bytes.now) (whole_property_again owners c.args.bytes.now) c.answer.result (c.answer.ensures whole c.whole_property.ensures)

pub returns-clause-only : goal.returns-clause-only
returns-clause-only g c =
    let owners = g.N.Namer.owners c.args.map.now in
    let whole = whole_property owners c.args.bytes.now in
    answers_only whole (IsProperty owners c.args.bytes.now) (property_whole owners c.args.bytes.now) (whole_property_again owners c.args.bytes.now) c.answer.result (c.answer.ensures whole c.whole_property.ensures)

pub returns-clause-none : goal.returns-clause-none
returns-clause-none g c =
    let owners = g.N.Namer.owners c.args.map.now in
    let whole = whole_property owners c.args.bytes.now in
    answers_none whole (IsProperty owners c.args.bytes.now) (property_whole owners c.args.bytes.now) (whole_property_again owners c.args.bytes.now) c.answer.result (c.answer.ensures whole c.whole_property.ensures)
