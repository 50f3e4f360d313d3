use Rattle.heaps.specs.Content.{HasUnits}
use Rattle.heaps.specs.Written.{HasWrittenUnits}
use Rattle.heaps.proofs.BlobLemmas.{HasUnits-append, HasUnits-unique, HasWrittenUnits-has}
use Rattle.heaps.proofs.HeapLemmas.{same_index, HoldsEach-filled, IsFilled-weaker}
use Rattle.heaps.proofs.user_heap.UserHeap.bytes.Goals as goal

pub returns-clause-holds : goal.returns-clause-holds
returns-clause-holds c =
    let inside = c.self.inside.entries in
    rw (← c.self.view_is) (HoldsEach-filled HasWrittenUnits inside.bytes inside.chains c.self.invariant.0)

pub returns-clause-once : goal.returns-clause-once
returns-clause-once c =
    let inside = c.self.inside.entries in
    let filled = IsFilled-weaker HasWrittenUnits HasUnits HasWrittenUnits-has inside.bytes inside.chains c.self.invariant.0 in
    rw (← c.self.view_is) (same_index HasUnits HasUnits-append HasUnits-unique inside.bytes inside.chains filled)
