use Rattle.std.proofs.Common.{◌≡◌, take, fold}
use Rattle.listing_model.specs.Members.{event}
use Rattle.print_terms.specs.Rows.{under}
use Rattle.print_types.proofs.members.write_events.Given as goal

abbrev pub invariant-loop-event : goal.invariant-loop-event
invariant-loop-event l = l.paper ≡ fold (λ q x. under q (event l.externs l.path l.methods x)) l.initial.paper (take l.event-index l.events)
