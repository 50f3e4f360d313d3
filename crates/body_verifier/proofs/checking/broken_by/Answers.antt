use Rattle.std.proofs.Common.{◌≡◌, ◌<◌, ◌≤◌, ◌∙◌, sym, ap, subst, ◌++◌, List, length, arith}
use Rattle.body_verifier.specs.declared.report.Broken.{Broken}
use Rattle.body_verifier.specs.Checking.{broken_at}
use Rattle.body_verifier.specs.Reports.{Lists}
use Rattle.stack_states.specs.StateMeanings.{typing_of}
use Rattle.body_verifier.proofs.Checked.{known_on, row_still, state_still, judged_at, one_judged, all_judged}
use Rattle.stack_rows.proofs.Growing.{stays_on}
use Rattle.body_verifier.proofs.checking.broken_by.Goals as goal

pub verdict-requires-clause-known : goal.verdict-requires-clause-known
verdict-requires-clause-known c = known_on c.args.a.now c.args.w.now c.loop-k.w c.loop-k.invariant.stays c.requires.known

pub verdict-requires-clause-row : goal.verdict-requires-clause-row
verdict-requires-clause-row c = (row_still c.args.w.now c.loop-k.w c.args.rows.now c.loop-k.k c.at-row.result.now c.requires.rows c.loop-k.invariant.stays c.at-row.ensures).0

pub verdict-requires-clause-state : goal.verdict-requires-clause-state
verdict-requires-clause-state c =
    (state_still c.args.w.now c.loop-k.w c.args.states.now c.loop-k.k c.at-state.result.now (c.keys_keep_their_types.ensures.keys c.args.w.now c.loop-k.w c.loop-k.invariant.stays) c.requires.states c.at-state.ensures).0

pub loop-k-preserved : goal.loop-k-preserved
loop-k-preserved c = record {
  stays = stays_on c.args.w.now c.loop-k.w c.verdict.new.w c.loop-k.invariant.stays c.in_ok-rule.ensures.stays;
  lists = λ f more types is rows h.
      let typing = typing_of c.args.w.now.nodes c.args.states.now in
      let below : c.loop-k.k < length c.args.body.now.code = omega (arith, ap length c.as_slice-code.ensures) in
      let judged = judged_at c.args.w.now c.loop-k.w f c.args.a.now c.args.frame.now c.args.body.now c.as_slice-code.result.now c.args.clauses.now c.in_ok-marks.marks c.args.rows.now c.args.states.now c.loop-k.k
      c.at-row.result.now c.at-state.result.now c.in_ok-rule.rule (c.keys_keep_their_types.ensures.keys c.args.w.now c.loop-k.w c.loop-k.invariant.stays) c.loop-k.invariant.stays types is rows c.requires.rows c.requires.states
      c.as_slice-code.ensures below c.at-row.ensures c.at-state.ensures (λ f e s. c.in_ok-marks.ensures.are f e (c.as_slice.ensures ∙ s)) c.in_ok-rule.ensures.ok in
      let P : List Broken → Type 0 = λ (xs : List Broken). Lists f typing 0 (xs ++ more) in
      subst P (sym c.in_ok-add_broken.ensures)
      (one_judged f typing c.loop-k.k c.in_ok-rule.rule c.loop-k.broken more (omega (arith, below, ap length is.code)) judged (λ rest g. c.loop-k.invariant.lists f rest types is rows g) h);
}

pub returns-clause-ok : goal.returns-clause-ok
returns-clause-ok c = λ f types is rows.
    let past : length f.code ≤ c.loop-k.k = omega (arith, ap length is.code, ap length c.as_slice-code.ensures, c.loop-k-test.false) in
    all_judged f (typing_of c.args.w.now.nodes c.args.states.now) c.loop-k.k c.loop-k.broken past (λ rest g. c.loop-k.invariant.lists f rest types is rows g)
