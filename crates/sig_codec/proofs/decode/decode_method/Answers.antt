use Rattle.sig_codec.specs.Signature.{IsMethod}
use Rattle.sig_codec.specs.Reading.{whole_method}
use Rattle.sig_codec.proofs.Whole.{answers_found, answers_only, answers_none}
use Rattle.sig_codec.proofs.Methods.{method_whole, whole_method_again}
use Rattle.sig_codec.proofs.decode.decode_method.Goals as goal

pub returns-clause-found : goal.returns-clause-found
returns-clause-found g c =
    let owners = g.N.Namer.owners c.args.map.now in
    let whole = whole_method owners c.args.bytes.now in
    answers_found whole (IsMethod owners c.args.bytes.now) (method_whole owners c.args.bytes.now) (whole_method_again owners c.args.bytes.now) c.answer.result (c.answer.ensures whole c.whole_method.ensures)

pub returns-clause-only : goal.returns-clause-only
returns-clause-only g c =
    let owners = g.N.Namer.owners c.args.map.now in
    let whole = whole_method owners c.args.bytes.now in
    answers_only whole (IsMethod owners c.args.bytes.now) (method_whole owners c.args.bytes.now) (whole_method_again owners c.args.bytes.now) c.answer.result (c.answer.ensures whole c.whole_method.ensures)

pub returns-clause-none : goal.returns-clause-none
returns-clause-none g c =
    let owners = g.N.Namer.owners c.args.map.now in
    let whole = whole_method owners c.args.bytes.now in
    answers_none whole (IsMethod owners c.args.bytes.now) (method_whole owners c.args.bytes.now) (whole_method_again owners c.args.bytes.now) c.answer.result (c.answer.ensures whole c.whole_method.ensures)
