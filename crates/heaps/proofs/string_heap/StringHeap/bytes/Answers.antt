use Rattle.std.proofs.Common.{refl}
use Rattle.heaps.specs.Content.{HasText}
use Rattle.heaps.proofs.ContentLemmas.{HasText-append, HasText-unique}
use Rattle.heaps.proofs.HeapLemmas.{HoldsOnce-zero, HoldsEach-zero}
use Rattle.heaps.proofs.string_heap.StringHeap.bytes.Goals as goal

pub returns-clause-holds : goal.returns-clause-holds
returns-clause-holds c =
    let inside = c.self.inside.entries in
    rw (← c.self.view_is) (HoldsEach-zero HasText HasText-append HasText-unique (λ bytes. refl) inside.bytes inside.chains c.self.invariant.0)

pub returns-clause-once : goal.returns-clause-once
returns-clause-once c =
    let inside = c.self.inside.entries in
    rw (← c.self.view_is) (HoldsOnce-zero HasText HasText-append HasText-unique (λ bytes. refl) inside.bytes inside.chains c.self.invariant.0 c.self.invariant.1)
