use Rattle.std.proofs.Common.{◌≡◌, ℕ, ◌+◌, ◌-◌, inl, inr, List, Option, Some, None, length, ap, arith, Bor}
use Rattle.std.specs.Prelude.{IfSome, IfNone}
use Rattle.std.proofs.lemmas.Option.{same_Some}
use Rattle.std.specs.Slice.{IsGetRangeResult}
use Rattle.il_base.specs.Numbers.{Packed, StandsAt}
use Rattle.heaps.specs.Content.{HasBlob}
use Rattle.heaps.proofs.BlobLemmas.{HasBlob-at, HasBlob-stands}
use Rattle.heaps.proofs.look_ups.blob_at.Goals as goal

-- no length stands there
pub returns-in_err-len-clause-none : goal.returns-in_err-len-clause-none
returns-in_err-len-clause-none c = rw c.from_residual.ensures (λ blob has.
    let s = HasBlob-stands c.args.heap.now blob c.args.at c.if-at-eq0.false has in
    let some = c.in_err-len.ensures.only (length blob) s.0 s.1 in
    absurd cc)

-- the part of the heap behind the length
module _ (heap : List ℕ) (place n count : ℕ) (past : place ≡ 0 → ⊥) where
  part_found : (r : Option (Bor (List ℕ))) → StandsAt Packed heap place n count
      → IsGetRangeResult heap (place + count) (place + count + n) r → IfSome r (λ blob. HasBlob heap place blob.now)
  part_found None stands got = tt
  part_found (Some x) stands got =
      let len : place + count + n - (place + count) ≡ n = omega arith in
      rw (got.0.2, len) (HasBlob-at heap place n count past stands got.0.1)

  part_none : (r : Option (Bor (List ℕ))) → ((m other : ℕ) → StandsAt Packed heap place m other → ◌≡◌ {A = Option (ℕ × ℕ)} (Some (n, count)) (Some (m, other)))
      → IsGetRangeResult heap (place + count) (place + count + n) r → IfNone r ((blob : List ℕ) → HasBlob heap place blob → ⊥)
  part_none (Some x) only got = tt
  part_none None only got = λ blob has.
      let s = HasBlob-stands heap blob place past has in
      let same = same_Some (n, count) (length blob, s.0) (only (length blob) s.0 s.1) in
      let long : n ≡ length blob = ap (λ (p : ℕ × ℕ). p.0) same in
      let far : count ≡ s.0 = ap (λ (p : ℕ × ℕ). p.1) same in
      elim got.0 [ inl h ↦ absurd (omega arith) | inr h ↦ absurd (omega arith) ]

pub returns-clause-found : goal.returns-clause-found
returns-clause-found c =
    part_found c.args.heap.now c.args.at c.in_ok-len.len c.in_ok-len.count c.if-at-eq0.false c.get.result c.in_ok-len.ensures.found c.get.ensures.lookup

pub returns-clause-none : goal.returns-clause-none
returns-clause-none c =
    part_none c.args.heap.now c.args.at c.in_ok-len.len c.in_ok-len.count c.if-at-eq0.false c.get.result c.in_ok-len.ensures.only c.get.ensures.lookup
