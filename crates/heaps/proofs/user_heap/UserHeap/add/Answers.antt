use Rattle.std.proofs.Common.{◌≡◌, ◌+◌, ◌++◌, ◌∷◌, [], length, ap, refl, arith, Ok}
use Rattle.std.proofs.lemmas.List.{length-append}
use Rattle.il_base.specs.Numbers.{packed_bytes}
use Rattle.heaps.specs.Content.{HasUnits}
use Rattle.heaps.specs.Written.{HasWrittenUnits}
use Rattle.heaps.specs.Filled.{IsFilled}
use Rattle.heaps.specs.Finds.{AddsPlace}
use Rattle.heaps.proofs.BlobLemmas.{HasUnits-append, HasUnits-unique, HasUnits-inside, HasWrittenUnits-append, HasWrittenUnits-unique, HasWrittenUnits-has, HasWrittenUnits-end}
use Rattle.heaps.proofs.HeapLemmas.{Has-found, IsFilled-weaker, IsFilled-grown, IsFilled-kept, index_of_added, known_found, known_lacks}
use Rattle.heaps.specs.declared.entries.Entries.{Entries}
use Rattle.heaps.proofs.user_heap.UserHeap.add.Goals as goal
use Rattle.heaps.proofs.user_heap.UserHeap.add.Goals.{In_ok-add_counted}

-- what the entries hold, as a reader sees it
texts : (e : Entries) → IsFilled HasWrittenUnits e.bytes e.chains → IsFilled HasUnits e.bytes e.chains
texts e filled = IsFilled-weaker HasWrittenUnits HasUnits HasWrittenUnits-has e.bytes e.chains filled

pub returns-in-Some-clause-has : goal.returns-in-Some-clause-has
returns-in-Some-clause-has c =
    let inside = c.self.inside.entries in
    rw (← c.self.view_is) (Has-found HasUnits HasUnits-append HasUnits-unique inside.bytes inside.chains c.args.content.now c.in-Some.old
    (texts inside c.self.invariant.0) c.in-Some.ensures.found)

pub returns-in-Some-clause-within : goal.returns-in-Some-clause-within
returns-in-Some-clause-within c =
    let inside = c.self.inside.entries in
    let found = Has-found HasUnits HasUnits-append HasUnits-unique inside.bytes inside.chains c.args.content.now c.in-Some.old
    (texts inside c.self.invariant.0) c.in-Some.ensures.found in
    rw (← c.self.view_is) (HasUnits-inside inside.bytes c.args.content.now c.in-Some.old c.self.invariant.1 found.0)

pub returns-in-Some-clause-known : goal.returns-in-Some-clause-known
returns-in-Some-clause-known c =
    let inside = c.self.inside.entries in
    rw (← c.self.view_is) (λ index used here. (
      ap Ok (known_found HasUnits HasUnits-append HasUnits-unique inside.bytes inside.chains c.args.content.now c.in-Some.old index
          (texts inside c.self.invariant.0) c.in-Some.ensures.found used here),
      refl,
    ))

pub returns-in_err-add_counted-clause-known : goal.returns-in_err-add_counted-clause-known
returns-in_err-add_counted-clause-known c index used here =
    let inside = c.self.inside.entries in
    absurd (known_lacks HasUnits HasUnits-append HasUnits-unique inside.bytes inside.chains c.args.content.now index
    (texts inside c.self.invariant.0) c.in_default.ensures.none (rw (← c.self.view_is) at used) (rw (← c.self.view_is) at here))

-- the bytes grew by the units and their last byte, behind their length
grown : (c : In_ok-add_counted) → c.add_counted.new.self.bytes
    ≡ c.self.inside.entries.bytes ++ (packed_bytes (length c.args.content.now + 1) ++ (c.args.content.now ++ c.last_byte-last.result ∷ []))
grown c = c.in_ok-add_counted.ensures.bytes

here : (c : In_ok-add_counted) → HasWrittenUnits c.add_counted.new.self.bytes c.end-index.result c.args.content.now
here c =
    let content = c.args.content.now in
    let n = length content + 1 in
    rw (grown c) (HasWrittenUnits-end c.self.inside.entries.bytes c.end-index.result n (packed_bytes n) content c.last_byte-last.result c.end-index.ensures
    (rw c.end-index.ensures c.self.invariant.1) refl c.add_counted.ensures.spells c.add_counted.ensures.shortest c.requires.whole c.last_byte-last.ensures)

added : (c : In_ok-add_counted) → AddsPlace c.self.inside.entries.chains c.add_counted.new.self.chains c.add_counted.new.self.bytes c.end-index.result c.args.content.now
added c = c.in_ok-add_counted.ensures.place

pub invariant_of-self : goal.invariant_of-self
invariant_of-self c =
    let old = c.self.inside.entries in
    let new = c.add_counted.new.self in
    let kept = c.in_err-add_counted.ensures.err in (
      IsFilled-kept HasWrittenUnits old.bytes new.bytes old.chains new.chains c.self.invariant.0 c.add_counted.ensures.finds kept.0 kept.1,
      rw kept.0 c.self.invariant.1,
    )

pub invariant_of-self-2 : goal.invariant_of-self-2
invariant_of-self-2 c =
    let old = c.self.inside.entries in
    let new = c.add_counted.new.self in
    let content = c.args.content.now in
    let more = packed_bytes (length content + 1) ++ (content ++ c.last_byte-last.result ∷ []) in (
      IsFilled-grown HasWrittenUnits HasWrittenUnits-append HasWrittenUnits-unique old.bytes more new.bytes old.chains new.chains c.end-index.result content (grown c)
          c.self.invariant.0 c.in_ok-add_counted.ensures.finds (added c) (here c),
      rw (grown c, length-append) (omega (arith, c.self.invariant.1)),
    )

pub returns-clause-has : goal.returns-clause-has
returns-clause-has c = (
  HasWrittenUnits-has c.add_counted.new.self.bytes c.end-index.result c.args.content.now (here c),
  index_of_added c.self.inside.entries.chains c.add_counted.new.self.chains c.add_counted.new.self.bytes c.end-index.result c.args.content.now (added c),
)

pub returns-clause-known : goal.returns-clause-known
returns-clause-known c index used here =
    let inside = c.self.inside.entries in
    absurd (known_lacks HasUnits HasUnits-append HasUnits-unique inside.bytes inside.chains c.args.content.now index
    (texts inside c.self.invariant.0) c.in_default.ensures.none (rw (← c.self.view_is) at used) (rw (← c.self.view_is) at here))

pub returns-clause-stays : goal.returns-clause-stays
returns-clause-stays c index units was =
    rw (grown c) (HasUnits-append c.self.inside.entries.bytes _ index units (rw (← c.self.view_is) at was))
