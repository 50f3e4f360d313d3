use Rattle.std.proofs.Common.{◌≡◌, ℕ, ◌<◌, ◌≤◌, IsTrue, true, false, subst, refl, arith, length}
use Rattle.text_places.specs.Standing.{BeginsAt}
use Rattle.text_places.proofs.Fronts.{parts, whole}
use Rattle.text_places.proofs.sweep.stands_at.Goals.{then-next-heap-via-then-next-heap, then-next-heap-via-else-next-heap+then-not-marks-next}
use Rattle.text_places.proofs.sweep.stands_at.Goals as goal

pub returns-then-next-heap : goal.returns-then-next-heap
returns-then-next-heap c =
    let r = c.requires in
    let cut = parts c.args.heap.now c.args.at c.args.next r.order r.within r.between r.begins c.if-heap-at-eq0.false in
    elim c.then-next-heap.branch [
      | then-next-heap-via-then-next-heap w ↦ (λ never. cc, λ begins. let p = cut begins in let e = w.if-next-heap in absurd (omega arith))
      | then-next-heap-via-else-next-heap+then-not-marks-next w ↦
          (λ never. cc, λ begins. let p = cut begins in let e = w.if-not-marks-next in let m = (r.marked.each c.args.next (omega arith) p.0).1 p.1.0 in cc)
    ]

pub returns-in-Ok : goal.returns-in-Ok
returns-in-Ok c =
    let r = c.requires in
    let less : c.args.next < length c.args.heap.now = let n = c.if-next-heap.false in let w = r.within in omega arith in
    let there : BeginsAt c.args.heap.now c.args.next = (r.marked.each c.args.next (omega arith) less).0 c.if-not-marks-next.false in
    (λ yes. whole c.args.heap.now c.args.at c.args.next r.order r.within r.between r.begins c.if-heap-at-eq0.false there c.in-Ok.ensures.cases.1, λ begins. refl)

pub returns-in-Err : goal.returns-in-Err
returns-in-Err c =
    let r = c.requires in
    (λ never. cc, λ begins. let p = parts c.args.heap.now c.args.at c.args.next r.order r.within r.between r.begins c.if-heap-at-eq0.false begins in absurd (c.in-Err.ensures.cases.0 p.1.1))
