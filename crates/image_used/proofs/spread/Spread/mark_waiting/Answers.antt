use Rattle.std.proofs.Common.{List, subst, sym, ◌∙◌}
use Rattle.image_model.specs.Used.{RowNames}
use Rattle.image_used.specs.Going.{Passed, NoRows}
use Rattle.image_used.specs.declared.spread.RowAt.{RowAt}
use Rattle.image_used.proofs.Going.{passed_none, going_taken, last_there, fewer_left, keeps_then, keeps_spread}
use Rattle.image_used.proofs.spread.Spread.mark_waiting.Goals as goal

pub loop-at-init : goal.loop-at-init
loop-at-init c = passed_none c.args.image.now c.args.self.now.marks c.args.self.now.todo c.args.self.now.seen NoRows c.requires (λ t r n. n)

pub mark_named-requires-clause-there : goal.mark_named-requires-clause-there
mark_named-requires-clause-there c =
    last_there c.args.image.now c.loop-at.self.marks c.loop-at.self.todo c.pop.new.self c.loop-at.self.seen c.in-Some.at c.loop-at.invariant.going c.in-Some.ensures

pub mark_named-requires-clause-ready : goal.mark_named-requires-clause-ready
mark_named-requires-clause-ready c = c.loop-at.invariant.going.ready

pub loop-at-preserved : goal.loop-at-preserved
loop-at-preserved c = record {
  going =
      going_taken c.args.image.now c.loop-at.self.marks c.mark_named.new.self.marks c.loop-at.self.todo c.pop.new.self c.mark_named.new.self.todo c.loop-at.self.seen c.mark_named.new.self.seen c.in-Some.at c.loop-at.invariant.going c.in-Some.ensures
      c.in_ok-mark_named.ensures.marked c.in_ok-mark_named.ensures.ready;
  keeps =
      keeps_then c.args.self.now.marks c.loop-at.self.marks c.mark_named.new.self.marks c.loop-at.invariant.keeps
      (keeps_spread c.loop-at.self.marks c.mark_named.new.self.marks c.pop.new.self c.mark_named.new.self.todo (RowNames c.args.image.now c.in-Some.at.table c.in-Some.at.row) c.in_ok-mark_named.ensures.marked);
  done = λ t r n. absurd n;
}

pub loop-at-smaller : goal.loop-at-smaller
loop-at-smaller c =
    fewer_left c.loop-at.self.marks c.mark_named.new.self.marks c.loop-at.self.todo c.pop.new.self c.mark_named.new.self.todo c.in-Some.at (RowNames c.args.image.now c.in-Some.at.table c.in-Some.at.row) c.in-Some.ensures c.in_ok-mark_named.ensures.marked

pub returns-clause-going : goal.returns-clause-going
returns-clause-going c =
    subst (λ (z : List RowAt). Passed c.args.image.now c.args.self.now.marks c.loop-at.self.marks z c.loop-at.self.seen NoRows) (c.in_default.ensures.0 ∙ sym c.in_default.ensures.1) c.loop-at.invariant

pub returns-clause-done : goal.returns-clause-done
returns-clause-done c = c.in_default.ensures.1
