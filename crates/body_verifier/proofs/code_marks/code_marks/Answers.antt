use Rattle.body_verifier.proofs.code_marks.code_marks.Goals as goal

pub returns-clause-many : goal.returns-clause-many
returns-clause-many c = record {
  entered = c.in_ok-entered.ensures.count;
  pasts = c.in_ok-pasts.ensures.count;
  tries = c.in_ok-tries.ensures.count;
}
