use Rattle.std.proofs.Common.{arith}
use Rattle.image_tokens.specs.BodyTokens.{HaveLocalsToken}
use Rattle.image_tokens.proofs.BodyLemmas.{locals_noted, some_locals, nothing_noted}
use Rattle.image_tokens.proofs.body_tokens.note_locals.Goals as goal

pub returns-then-is_empty : goal.returns-then-is_empty
returns-then-is_empty c =
    nothing_noted (λ r. HaveLocalsToken r c.args.locals.now) c.args.refs.now _ c.requires.known (λ some. absurd (some (c.is_empty.ensures.0 c.if-is_empty.true)))

pub refer_locals-requires-clause-room : goal.refer_locals-requires-clause-room
refer_locals-requires-clause-room c =
    let some = some_locals c.args.locals.now c.is_empty.result c.is_empty.ensures.1 c.if-is_empty.false in
    let room = c.requires.room in
    omega arith

pub returns : goal.returns
returns c =
    let some = some_locals c.args.locals.now c.is_empty.result c.is_empty.ensures.1 c.if-is_empty.false in
    locals_noted c.args.refs.now c.refer_locals.new.refs c.args.locals.now c.in_ok-refer_locals.field-0 some c.in_ok-refer_locals.ensures
