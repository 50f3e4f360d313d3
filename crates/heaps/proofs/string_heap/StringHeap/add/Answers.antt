use Rattle.std.proofs.Common.{◌≡◌, ◌++◌, ◌∷◌, [], ap, refl, arith, Ok}
use Rattle.std.proofs.lemmas.List.{length-append}
use Rattle.heaps.specs.Content.{HasText}
use Rattle.heaps.specs.Filled.{indexes}
use Rattle.heaps.specs.Finds.{AddsPlace}
use Rattle.heaps.proofs.ContentLemmas.{HasText-append, HasText-unique, HasText-end}
use Rattle.heaps.proofs.HeapLemmas.{Has-found, IsFilled-grown, IsProper-grown, Contains-cons, Contains-first, index_of_added, from_empty, from_full, known_empty, known_found-zero, known_lacks-zero}
use Rattle.heaps.proofs.BlobLemmas.{HasText-inside}
use Rattle.heaps.proofs.string_heap.StringHeap.add.Goals as goal
use Rattle.heaps.proofs.string_heap.StringHeap.add.Goals.{In_ok-add}

pub returns-then-is_empty-clause-has : goal.returns-then-is_empty-clause-has
returns-then-is_empty-clause-has c =
    (from_empty c.args.content.now c.is_empty.result c.if-is_empty.true c.is_empty.ensures, rw (← c.self.view_is) (Contains-first 0 (indexes c.self.inside.entries.chains.places)))

pub returns-in-Some-clause-has : goal.returns-in-Some-clause-has
returns-in-Some-clause-has c =
    let inside = c.self.inside.entries in
    let found = Has-found HasText HasText-append HasText-unique inside.bytes inside.chains c.args.content.now c.in-Some.old c.self.invariant.0 c.in-Some.ensures.found in
    rw (← c.self.view_is) (found.0, Contains-cons 0 (indexes inside.chains.places) c.in-Some.old found.1)

-- the bytes grew by the text and a zero byte
grown : (c : In_ok-add) → c.add.new.self.bytes ≡ c.self.inside.entries.bytes ++ ([] ++ (c.args.content.now ++ (0 ∷ [])))
grown c = c.in_ok-add.ensures.bytes

here : (c : In_ok-add) → HasText c.add.new.self.bytes c.end-index.result c.args.content.now
here c = rw (grown c) (HasText-end c.self.inside.entries.bytes c.end-index.result c.args.content.now c.end-index.ensures
    (rw c.end-index.ensures c.self.invariant.2) c.requires.no_zero c.requires.utf8)

added : (c : In_ok-add) → AddsPlace c.self.inside.entries.chains c.add.new.self.chains c.add.new.self.bytes c.end-index.result c.args.content.now
added c = c.in_ok-add.ensures.place

pub invariant_of-self-2 : goal.invariant_of-self-2
invariant_of-self-2 c =
    let old = c.self.inside.entries in
    let new = c.add.new.self in
    let more = [] ++ (c.args.content.now ++ (0 ∷ [])) in
    let index = c.end-index.result in
    let content = c.args.content.now in
    let full = from_full content c.is_empty.result c.if-is_empty.false c.is_empty.ensures in (
      IsFilled-grown HasText HasText-append HasText-unique old.bytes more new.bytes old.chains new.chains index content (grown c)
          c.self.invariant.0 c.in_ok-add.ensures.finds (added c) (here c),
      IsProper-grown HasText HasText-append HasText-unique old.bytes more new.bytes old.chains new.chains index content (grown c)
          c.self.invariant.0 c.in_ok-add.ensures.finds (added c) c.self.invariant.1 full,
      rw (grown c, length-append) (omega (arith, c.self.invariant.2)),
    )

pub returns-clause-has : goal.returns-clause-has
returns-clause-has c = (
  here c,
  Contains-cons 0 (indexes c.add.new.self.chains.places) c.end-index.result
      (index_of_added c.self.inside.entries.chains c.add.new.self.chains c.add.new.self.bytes c.end-index.result c.args.content.now (added c)),
)

pub returns-clause-stays : goal.returns-clause-stays
returns-clause-stays c index text was =
    rw (grown c) (HasText-append c.self.inside.entries.bytes _ index text (rw (← c.self.view_is) at was))

pub returns-in-Some-clause-within : goal.returns-in-Some-clause-within
returns-in-Some-clause-within c =
    let inside = c.self.inside.entries in
    let found = Has-found HasText HasText-append HasText-unique inside.bytes inside.chains c.args.content.now c.in-Some.old c.self.invariant.0 c.in-Some.ensures.found in
    rw (← c.self.view_is) (HasText-inside inside.bytes c.args.content.now c.in-Some.old c.self.invariant.2 found.0)

pub returns-then-is_empty-clause-known : goal.returns-then-is_empty-clause-known
returns-then-is_empty-clause-known c =
    let inside = c.self.inside.entries in
    let content = c.args.content.now in
    let none = from_empty content c.is_empty.result c.if-is_empty.true c.is_empty.ensures in
    rw (← c.self.view_is) (λ index used here. (
      ap Ok (known_empty HasText HasText-append HasText-unique (λ bytes. refl) inside.bytes inside.chains content index
          c.self.invariant.0 c.self.invariant.1 none used here),
      refl,
    ))

pub returns-in-Some-clause-known : goal.returns-in-Some-clause-known
returns-in-Some-clause-known c =
    let inside = c.self.inside.entries in
    rw (← c.self.view_is) (λ index used here. (
      ap Ok (known_found-zero HasText HasText-append HasText-unique (λ bytes. refl) inside.bytes inside.chains c.args.content.now c.in-Some.old index
          c.self.invariant.0 c.self.invariant.1 c.in-Some.ensures.found used here),
      refl,
    ))

pub returns-in_err-add-clause-known : goal.returns-in_err-add-clause-known
returns-in_err-add-clause-known c index used here =
    let inside = c.self.inside.entries in
    let full = from_full c.args.content.now c.is_empty.result c.if-is_empty.false c.is_empty.ensures in
    absurd (known_lacks-zero HasText HasText-append HasText-unique (λ bytes. refl) inside.bytes inside.chains c.args.content.now index
    c.self.invariant.0 c.in_default.ensures.none full (rw (← c.self.view_is) at used) (rw (← c.self.view_is) at here))

pub returns-clause-known : goal.returns-clause-known
returns-clause-known c index used here =
    let inside = c.self.inside.entries in
    let full = from_full c.args.content.now c.is_empty.result c.if-is_empty.false c.is_empty.ensures in
    absurd (known_lacks-zero HasText HasText-append HasText-unique (λ bytes. refl) inside.bytes inside.chains c.args.content.now index
    c.self.invariant.0 c.in_default.ensures.none full (rw (← c.self.view_is) at used) (rw (← c.self.view_is) at here))
