use Rattle.std.proofs.Common.{refl}
use Rattle.heaps.specs.Content.{HasBlob}
use Rattle.heaps.specs.Written.{HasShortBlob}
use Rattle.heaps.proofs.BlobLemmas.{HasBlob-append, HasBlob-unique, HasShortBlob-append, HasShortBlob-unique, HasShortBlob-has}
use Rattle.heaps.proofs.HeapLemmas.{HoldsOnce-zero, HoldsEach-zero, IsFilled-weaker}
use Rattle.heaps.proofs.blob_heap.BlobHeap.bytes.Goals as goal

pub returns-clause-holds : goal.returns-clause-holds
returns-clause-holds c =
    let inside = c.self.inside.entries in
    rw (← c.self.view_is)
    (HoldsEach-zero HasShortBlob HasShortBlob-append HasShortBlob-unique (λ bytes. refl) inside.bytes inside.chains c.self.invariant.0)

pub returns-clause-once : goal.returns-clause-once
returns-clause-once c =
    let inside = c.self.inside.entries in
    let filled = IsFilled-weaker HasShortBlob HasBlob HasShortBlob-has inside.bytes inside.chains c.self.invariant.0 in
    rw (← c.self.view_is) (HoldsOnce-zero HasBlob HasBlob-append HasBlob-unique (λ bytes. refl) inside.bytes inside.chains filled c.self.invariant.1)
