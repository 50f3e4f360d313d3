use Rattle.std.proofs.Common.{◌≡◌, ◌+◌, ◌/◌, ◌++◌, [], ap, refl, arith, Ok}
use Rattle.std.proofs.lemmas.List.{length-append}
use Rattle.heaps.specs.Content.{HasGuid}
use Rattle.heaps.specs.Finds.{AddsPlace}
use Rattle.heaps.proofs.ContentLemmas.{HasGuid-append, HasGuid-unique, HasGuid-end}
use Rattle.heaps.proofs.HeapLemmas.{Has-found, IsFilled-grown, index_of_added, known_found, known_lacks}
use Rattle.heaps.proofs.BlobLemmas.{HasGuid-inside}
use Rattle.heaps.proofs.guid_heap.GuidHeap.add.Goals as goal
use Rattle.heaps.proofs.guid_heap.GuidHeap.add.Goals.{In_ok-add}

pub returns-in-Some-clause-has : goal.returns-in-Some-clause-has
returns-in-Some-clause-has c =
    let inside = c.self.inside.entries in
    let found = Has-found HasGuid HasGuid-append HasGuid-unique inside.bytes inside.chains c.args.content.now c.in-Some.old c.self.invariant.0 c.in-Some.ensures.found in
    rw (← c.self.view_is) found

-- the bytes grew by the identifier
grown : (c : In_ok-add) → c.add.new.self.bytes ≡ c.self.inside.entries.bytes ++ ([] ++ (c.args.content.now ++ []))
grown c = c.in_ok-add.ensures.bytes

here : (c : In_ok-add) → HasGuid c.add.new.self.bytes (c.end.result / 16 + 1) c.args.content.now
here c = rw (grown c) (HasGuid-end c.self.inside.entries.bytes (c.end.result / 16 + 1) c.args.content.now (rw c.end.ensures refl)
    c.self.invariant.1 c.requires.whole)

added : (c : In_ok-add) → AddsPlace c.self.inside.entries.chains c.add.new.self.chains c.add.new.self.bytes (c.end.result / 16 + 1) c.args.content.now
added c = c.in_ok-add.ensures.place

pub invariant_of-self-2 : goal.invariant_of-self-2
invariant_of-self-2 c =
    let old = c.self.inside.entries in
    let new = c.add.new.self in
    let more = [] ++ (c.args.content.now ++ []) in
    let index = (c.end.result / 16 + 1) in
    let content = c.args.content.now in (
      IsFilled-grown HasGuid HasGuid-append HasGuid-unique old.bytes more new.bytes old.chains new.chains index content (grown c)
          c.self.invariant.0 c.in_ok-add.ensures.finds (added c) (here c),
      rw (grown c, length-append) (omega (arith, c.self.invariant.1, c.requires.whole, length-append c.args.content.now [])),
    )

pub returns-clause-has : goal.returns-clause-has
returns-clause-has c =
    (here c, (index_of_added c.self.inside.entries.chains c.add.new.self.chains c.add.new.self.bytes (c.end.result / 16 + 1) c.args.content.now (added c)))

pub returns-clause-stays : goal.returns-clause-stays
returns-clause-stays c index text was =
    rw (grown c) (HasGuid-append c.self.inside.entries.bytes _ index text (rw (← c.self.view_is) at was))

pub returns-in-Some-clause-within : goal.returns-in-Some-clause-within
returns-in-Some-clause-within c =
    let inside = c.self.inside.entries in
    let found = Has-found HasGuid HasGuid-append HasGuid-unique inside.bytes inside.chains c.args.content.now c.in-Some.old c.self.invariant.0 c.in-Some.ensures.found in
    rw (← c.self.view_is) (HasGuid-inside inside.bytes c.args.content.now c.in-Some.old found.0)

pub returns-in-Some-clause-known : goal.returns-in-Some-clause-known
returns-in-Some-clause-known c =
    let inside = c.self.inside.entries in
    rw (← c.self.view_is) (λ index used here. (
      ap Ok (known_found HasGuid HasGuid-append HasGuid-unique inside.bytes inside.chains c.args.content.now c.in-Some.old index
          c.self.invariant.0 c.in-Some.ensures.found used here),
      refl,
    ))

pub returns-in_err-add-clause-known : goal.returns-in_err-add-clause-known
returns-in_err-add-clause-known c index used here =
    let inside = c.self.inside.entries in
    absurd (known_lacks HasGuid HasGuid-append HasGuid-unique inside.bytes inside.chains c.args.content.now index
    c.self.invariant.0 c.in_default.ensures.none (rw (← c.self.view_is) at used) (rw (← c.self.view_is) at here))

pub returns-clause-known : goal.returns-clause-known
returns-clause-known c index used here =
    let inside = c.self.inside.entries in
    absurd (known_lacks HasGuid HasGuid-append HasGuid-unique inside.bytes inside.chains c.args.content.now index
    c.self.invariant.0 c.in_default.ensures.none (rw (← c.self.view_is) at used) (rw (← c.self.view_is) at here))
