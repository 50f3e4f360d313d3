use Rattle.std.proofs.Common.{arith}
use Rattle.body_codec.proofs.Places.{begins_at, begins_none, begins_before}
use Rattle.body_codec.proofs.decoding.layout.Layout.start_at.Goals as goal

pub returns-then-offset-self-clause-none : goal.returns-then-offset-self-clause-none
returns-then-offset-self-clause-none c =
    let s = c.args.self.now in
    begins_before s.code.now s.marks.now s.starts.now c.args.offset c.requires (omega (arith, c.requires.started.size))

pub returns-then-start-clause-none : goal.returns-then-start-clause-none
returns-then-start-clause-none c =
    let s = c.args.self.now in
    begins_none s.code.now s.marks.now s.starts.now c.args.offset c.requires (omega (arith, c.requires.started.size)) c.if-start.true

pub returns-clause-found : goal.returns-clause-found
returns-clause-found c =
    let s = c.args.self.now in
    begins_at s.code.now s.marks.now s.starts.now c.args.offset c.requires (omega (arith, c.requires.started.size)) c.if-start.false
