use Rattle.std.proofs.Common.{◌≡◌, ◌+◌, ◌++◌, [], length, ap, refl, arith, Ok}
use Rattle.std.proofs.lemmas.List.{length-append}
use Rattle.il_base.specs.Numbers.{packed_bytes}
use Rattle.heaps.specs.Content.{HasBlob}
use Rattle.heaps.specs.Written.{HasShortBlob}
use Rattle.heaps.specs.Filled.{IsFilled, indexes}
use Rattle.heaps.specs.Finds.{AddsPlace}
use Rattle.heaps.proofs.BlobLemmas.{HasBlob-append, HasBlob-unique, HasBlob-inside, HasShortBlob-append, HasShortBlob-unique, HasShortBlob-has, HasShortBlob-end}
use Rattle.heaps.proofs.HeapLemmas.{Has-found, IsFilled-weaker, IsFilled-grown, IsProper-grown, Contains-cons, index_of_added, from_empty, from_full, known_empty, known_found-zero, known_lacks-zero}
use Rattle.heaps.specs.declared.entries.Entries.{Entries}
use Rattle.heaps.proofs.blob_heap.BlobHeap.add.Goals as goal
use Rattle.heaps.proofs.blob_heap.BlobHeap.add.Goals.{In_ok-add_counted}

-- what the entries hold, as a reader sees it
blobs : (e : Entries) → IsFilled HasShortBlob e.bytes e.chains → IsFilled HasBlob e.bytes e.chains
blobs e filled = IsFilled-weaker HasShortBlob HasBlob HasShortBlob-has e.bytes e.chains filled

pub returns-then-is_empty-clause-known : goal.returns-then-is_empty-clause-known
returns-then-is_empty-clause-known c =
    let inside = c.self.inside.entries in
    let content = c.args.content.now in
    let none = from_empty content c.is_empty.result c.if-is_empty.true c.is_empty.ensures in
    rw (← c.self.view_is) (λ index used here. (
      ap Ok (known_empty HasBlob HasBlob-append HasBlob-unique (λ bytes. refl) inside.bytes inside.chains content index
          (blobs inside c.self.invariant.0) c.self.invariant.1 none used here),
      refl,
    ))

pub returns-in-Some-clause-has : goal.returns-in-Some-clause-has
returns-in-Some-clause-has c =
    let inside = c.self.inside.entries in
    let found = Has-found HasBlob HasBlob-append HasBlob-unique inside.bytes inside.chains c.args.content.now c.in-Some.old
    (blobs inside c.self.invariant.0) c.in-Some.ensures.found in
    rw (← c.self.view_is) (found.0, Contains-cons 0 (indexes inside.chains.places) c.in-Some.old found.1)

pub returns-in-Some-clause-within : goal.returns-in-Some-clause-within
returns-in-Some-clause-within c =
    let inside = c.self.inside.entries in
    let found = Has-found HasBlob HasBlob-append HasBlob-unique inside.bytes inside.chains c.args.content.now c.in-Some.old
    (blobs inside c.self.invariant.0) c.in-Some.ensures.found in
    rw (← c.self.view_is) (HasBlob-inside inside.bytes c.args.content.now c.in-Some.old c.self.invariant.2 found.0)

pub returns-in-Some-clause-known : goal.returns-in-Some-clause-known
returns-in-Some-clause-known c =
    let inside = c.self.inside.entries in
    rw (← c.self.view_is) (λ index used here. (
      ap Ok (known_found-zero HasBlob HasBlob-append HasBlob-unique (λ bytes. refl) inside.bytes inside.chains c.args.content.now c.in-Some.old index
          (blobs inside c.self.invariant.0) c.self.invariant.1 c.in-Some.ensures.found used here),
      refl,
    ))

pub returns-in_err-add_counted-clause-known : goal.returns-in_err-add_counted-clause-known
returns-in_err-add_counted-clause-known c index used here =
    let inside = c.self.inside.entries in
    let full = from_full c.args.content.now c.is_empty.result c.if-is_empty.false c.is_empty.ensures in
    absurd (known_lacks-zero HasBlob HasBlob-append HasBlob-unique (λ bytes. refl) inside.bytes inside.chains c.args.content.now index
    (blobs inside c.self.invariant.0) c.in_default.ensures.none full (rw (← c.self.view_is) at used) (rw (← c.self.view_is) at here))

-- the bytes grew by the blob behind its length
grown : (c : In_ok-add_counted) → c.add_counted.new.self.bytes
    ≡ c.self.inside.entries.bytes ++ (packed_bytes (length c.args.content.now + 0) ++ (c.args.content.now ++ []))
grown c = c.in_ok-add_counted.ensures.bytes

here : (c : In_ok-add_counted) → HasShortBlob c.add_counted.new.self.bytes c.end-index.result c.args.content.now
here c =
    let content = c.args.content.now in
    let n = length content + 0 in
    rw (grown c) (HasShortBlob-end c.self.inside.entries.bytes c.end-index.result n (packed_bytes n) content [] c.end-index.ensures
    (rw c.end-index.ensures c.self.invariant.2) (omega arith) c.add_counted.ensures.spells c.add_counted.ensures.shortest)

added : (c : In_ok-add_counted) → AddsPlace c.self.inside.entries.chains c.add_counted.new.self.chains c.add_counted.new.self.bytes c.end-index.result c.args.content.now
added c = c.in_ok-add_counted.ensures.place

pub invariant_of-self-2 : goal.invariant_of-self-2
invariant_of-self-2 c =
    let old = c.self.inside.entries in
    let new = c.add_counted.new.self in
    let content = c.args.content.now in
    let more = packed_bytes (length content + 0) ++ (content ++ []) in
    let index = c.end-index.result in
    let full = from_full content c.is_empty.result c.if-is_empty.false c.is_empty.ensures in (
      IsFilled-grown HasShortBlob HasShortBlob-append HasShortBlob-unique old.bytes more new.bytes old.chains new.chains index content (grown c)
          c.self.invariant.0 c.in_ok-add_counted.ensures.finds (added c) (here c),
      IsProper-grown HasShortBlob HasShortBlob-append HasShortBlob-unique old.bytes more new.bytes old.chains new.chains index content (grown c)
          c.self.invariant.0 c.in_ok-add_counted.ensures.finds (added c) c.self.invariant.1 full,
      rw (grown c, length-append) (omega (arith, c.self.invariant.2)),
    )

pub returns-clause-has : goal.returns-clause-has
returns-clause-has c = (
  HasShortBlob-has c.add_counted.new.self.bytes c.end-index.result c.args.content.now (here c),
  Contains-cons 0 (indexes c.add_counted.new.self.chains.places) c.end-index.result
      (index_of_added c.self.inside.entries.chains c.add_counted.new.self.chains c.add_counted.new.self.bytes c.end-index.result c.args.content.now (added c)),
)

pub returns-clause-known : goal.returns-clause-known
returns-clause-known c index used here =
    let inside = c.self.inside.entries in
    let full = from_full c.args.content.now c.is_empty.result c.if-is_empty.false c.is_empty.ensures in
    absurd (known_lacks-zero HasBlob HasBlob-append HasBlob-unique (λ bytes. refl) inside.bytes inside.chains c.args.content.now index
    (blobs inside c.self.invariant.0) c.in_default.ensures.none full (rw (← c.self.view_is) at used) (rw (← c.self.view_is) at here))

pub returns-clause-stays : goal.returns-clause-stays
returns-clause-stays c index blob was =
    rw (grown c) (HasBlob-append c.self.inside.entries.bytes _ index blob (rw (← c.self.view_is) at was))
