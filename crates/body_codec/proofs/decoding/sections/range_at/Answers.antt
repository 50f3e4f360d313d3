use Rattle.std.proofs.Common.{arith, rules, subst, ◌≡◌, ◌+◌, ◌<◌}
use Rattle.body_codec.specs.Instruction.{place}
use Rattle.body_codec.specs.Sections.{IsRange}
use Rattle.body_codec.specs.Reading.{pieces_of}
use Rattle.body_codec.proofs.Places.{count_is, range_some, range_none}
use Rattle.body_codec.proofs.decoding.sections.range_at.Goals as goal

pub returns-then-size-eq0-clause-none : goal.returns-then-size-eq0-clause-none
returns-then-size-eq0-clause-none c = λ first last r.
    let ps = pieces_of c.args.layout.now.code.now c.args.layout.now.marks.now in
    range_none ps c.args.offset first last (subst (λ n. IsRange ps c.args.offset n first last) c.if-size-eq0.true r)

pub returns-clause-found : goal.returns-clause-found
returns-clause-found c =
    let code = c.args.layout.now.code.now in
    let marks = c.args.layout.now.marks.now in
    let ps = pieces_of code marks in
    let n = count_is code marks in
    let inside = c.in_ok-last.ensures.inside in
    let begins : place ps c.in_ok-first.first ≡ c.args.offset = search rules in
    let ends : place ps c.in_ok-last.last ≡ c.args.offset + c.args.size = search rules in
    let ne = c.if-size-eq0.false in
    let some : 0 < c.args.size = omega arith in
    range_some ps c.args.offset c.args.size c.in_ok-first.first c.in_ok-last.last begins ends some (omega arith)
