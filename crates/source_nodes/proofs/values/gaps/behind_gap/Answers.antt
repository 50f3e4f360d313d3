use Rattle.std.proofs.Common.{ℕ, ◌≤◌, ◌-◌, List, length, drop, refl, ap, sym, subst, ◌∙◌, arith}
use Rattle.il_lexer.specs.Runs.{front}
use Rattle.il_lexer.specs.Spelled.{IsGap, is_no_line_feed}
use Rattle.source_nodes.proofs.GapLemmas.{Within, line_passed, block_passed, no_gap_left, shorter}
use Rattle.source_nodes.proofs.values.gaps.behind_gap.Goals as goal

pub loop-rest-preserved-then-begin : goal.loop-rest-preserved-then-begin
loop-rest-preserved-then-begin c = record {
  passed = λ gap after g ends e.
      subst (λ x. Within IsGap x after)
      (sym (c.behind_line-rest.ensures ∙ ap (λ (x : List ℕ). drop (front is_no_line_feed x) x) c.behind.ensures))
      (line_passed c.loop-rest.rest.now after ends (sym c.begin.ensures ∙ c.if-begin.true) (c.loop-rest.invariant.passed gap after g ends e));
  shorter =
      let s = shorter (front is_no_line_feed c.behind.result.now) c.loop-rest.rest.now c.behind.result.now c.behind_line-rest.result.now c.behind.ensures
      c.behind_line-rest.ensures in
      omega (arith, s, c.loop-rest.invariant.shorter);
}

pub loop-rest-preserved : goal.loop-rest-preserved
loop-rest-preserved c = record {
  passed = λ gap after g ends e.
      block_passed c.loop-rest.rest.now c.behind_block-rest.result.now after ends (sym c.begin-else-begin.ensures ∙ c.if-begin-2.true)
      (λ text behind k f. c.behind_block-rest.ensures.passed text behind k (c.behind-then-begin-2.ensures ∙ f))
      (c.loop-rest.invariant.passed gap after g ends e);
  shorter =
      let l : length c.behind-then-begin-2.result.now ≤ length c.loop-rest.rest.now =
      shorter 0 c.loop-rest.rest.now c.behind-then-begin-2.result.now c.behind-then-begin-2.result.now c.behind-then-begin-2.ensures refl in
      omega (arith, l, c.behind_block-rest.ensures.shorter, c.loop-rest.invariant.shorter);
}

pub returns-else-begin-2-clause-passed : goal.returns-else-begin-2-clause-passed
returns-else-begin-2-clause-passed c = λ gap after g ends e.
    no_gap_left c.loop-rest.rest.now after (sym c.begins_blank.ensures ∙ c.if-begins_blank.false) (sym c.begin.ensures ∙ c.if-begin.false)
    (sym c.begin-else-begin.ensures ∙ c.if-begin-2.false) (c.loop-rest.invariant.passed gap after g ends e)
