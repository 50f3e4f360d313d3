use Rattle.stack_rows.proofs.Growing.{stays_on}
use Rattle.body_verifier.proofs.StatedLemmas.{caught_more}
use Rattle.body_verifier.proofs.stated.all_caught.Goals as goal

pub loop-clause-preserved : goal.loop-clause-preserved
loop-clause-preserved c = record {
  stays = stays_on c.args.w.now c.loop-clause.w c.caught_by.new.w c.loop-clause.invariant.stays c.in_ok-caught.ensures.stays;
  caught = λ f types. caught_more c.args.w.now c.loop-clause.w c.caught_by.new.w c.loop-clause.all c.push.new.self c.args.clauses.now c.loop-clause.clause-index c.clause-item.result
      c.in_ok-caught.caught f c.loop-clause.invariant.stays c.in_ok-caught.ensures.stays c.loop-clause-test.true c.clause-item.is types (c.loop-clause.invariant.caught f types)
      c.in_ok-caught.ensures.ok c.in_ok-push.ensures.ok;
}
