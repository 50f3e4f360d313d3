use Rattle.std.proofs.Common.{◌≡◌, ◌∙◌, sym, ap, map, ◌<◌, ◌≤◌, ◌+◌, length, arith}
use Rattle.code_flow.specs.BlockTests.{spans_of}
use Rattle.body_verifier.proofs.Checked.{rows_still}
use Rattle.body_verifier.proofs.EdgeCounts.{room_low}
use Rattle.body_verifier.proofs.EdgeStart.{setup_kept}
use Rattle.body_verifier.proofs.checking.states_of.Goals as goal

pub returns-clause-low : goal.returns-clause-low
returns-clause-low g c =
    let ready = c.requires.1.0 in
    let goings = c.in_ok-goings.ensures g.at.frame (ready.code ∙ sym c.as_slice.ensures) (ready.spans ∙ ap (map spans_of) (sym ready.clauses)) ready.formed ready.nest in
    let room = room_low g.at c.in_ok-goings.goings goings ready.short ready.low in
    let used = c.least_typing.ensures.budget in
    omega (arith, room, used)

pub least_typing-requires : goal.least_typing-requires
least_typing-requires g c =
    let set = c.requires.0 in
    let ready = c.requires.1.0 in
    let stay = c.in_ok-stated.ensures.stays in
    let goings = c.in_ok-goings.ensures g.at.frame (ready.code ∙ sym c.as_slice.ensures) (ready.spans ∙ ap (map spans_of) (sym ready.clauses)) ready.formed ready.nest in
    let room = room_low g.at c.in_ok-goings.goings goings ready.short ready.low in
    let count = c.requires.1.1.1 in
    let short = ready.short in (
      setup_kept c.args.w.now c.stated_of.new.w g.at stay set,
      (
        rows_still c.args.w.now c.stated_of.new.w c.args.rows.now g.at.frame stay c.requires.1.1.0,
        (goings, (c.in_ok-stated.ensures.ok g.at.frame set.types (ready.clauses ∙ sym c.as_slice-2.ensures), (omega arith, omega arith))),
      ),
    )
