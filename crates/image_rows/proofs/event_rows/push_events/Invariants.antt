use Rattle.std.proofs.Common.{drop}
use Rattle.image_members.specs.Places.{lent}
use Rattle.image_members.proofs.KindLemmas.{Pushing}
use Rattle.image_rows.proofs.EventLemmas.{event_kind}
use Rattle.image_rows.proofs.event_rows.push_events.Given as goal

abbrev pub invariant-loop-event : goal.invariant-loop-event
invariant-loop-event l = Pushing event_kind l.initial.refs l.refs l.initial.rows l.rows (lent l.events) (lent (drop l.event-index l.events))
