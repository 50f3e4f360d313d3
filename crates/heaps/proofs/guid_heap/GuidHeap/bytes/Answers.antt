use Rattle.heaps.specs.Content.{HasGuid}
use Rattle.heaps.proofs.ContentLemmas.{HasGuid-append, HasGuid-unique}
use Rattle.heaps.proofs.HeapLemmas.{same_index, HoldsEach-filled}
use Rattle.heaps.proofs.guid_heap.GuidHeap.bytes.Goals as goal

pub returns-clause-holds : goal.returns-clause-holds
returns-clause-holds c =
    let inside = c.self.inside.entries in
    rw (← c.self.view_is) (HoldsEach-filled HasGuid inside.bytes inside.chains c.self.invariant.0)

pub returns-clause-once : goal.returns-clause-once
returns-clause-once c =
    let inside = c.self.inside.entries in
    rw (← c.self.view_is) (same_index HasGuid HasGuid-append HasGuid-unique inside.bytes inside.chains c.self.invariant.0)
