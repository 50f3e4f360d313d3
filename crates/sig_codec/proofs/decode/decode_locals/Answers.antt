use Rattle.sig_codec.specs.Signature.{AreLocals}
use Rattle.sig_codec.specs.Reading.{whole_locals}
use Rattle.sig_codec.proofs.Whole.{answers_found, answers_only, answers_none, locals_whole, whole_locals_again}
use Rattle.sig_codec.proofs.decode.decode_locals.Goals as goal

pub returns-clause-found : goal.returns-clause-found
returns-clause-found g c =
    let owners = g.N.Namer.owners c.args.map.now in
    let whole = whole_locals owners c.args.bytes.now in
    answers_found whole (AreLocals owners c.args.bytes.now) (locals_whole owners c.args.bytes.now) (whole_locals_again owners c.args.bytes.now) c.answer.result (c.answer.ensures whole c.whole_locals.ensures)

pub returns-clause-only : goal.returns-clause-only
returns-clause-only g c =
    let owners = g.N.Namer.owners c.args.map.now in
    let whole = whole_locals owners c.args.bytes.now in
    answers_only whole (AreLocals owners c.args.bytes.now) (locals_whole owners c.args.bytes.now) (whole_locals_again owners c.args.bytes.now) c.answer.result (c.answer.ensures whole c.whole_locals.ensures)

pub returns-clause-none : goal.returns-clause-none
returns-clause-none g c =
    let owners = g.N.Namer.owners c.args.map.now in
    let whole = whole_locals owners c.args.bytes.now in
    answers_none whole (AreLocals owners c.args.bytes.now) (locals_whole owners c.args.bytes.now) (whole_locals_again owners c.args.bytes.now) c.answer.result (c.answer.ensures whole c.whole_locals.ensures)
