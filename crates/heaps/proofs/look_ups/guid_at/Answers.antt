use Rattle.heaps.proofs.ContentLemmas.{HasGuid-at, HasGuid-within}
use Rattle.heaps.proofs.look_ups.guid_at.Goals as goal

pub returns-then-heap-start-clause-none : goal.returns-then-heap-start-clause-none
returns-then-heap-start-clause-none c id has = HasGuid-within c.args.heap.now id c.args.at c.if-heap-start.true has

pub returns-clause-found : goal.returns-clause-found
returns-clause-found c = HasGuid-at c.args.heap.now c.args.at c.if-at-eq0.false c.if-heap-start.false
