use Rattle.std.proofs.Common.{◌≡◌, ◌↔◌, ◌≤◌, ◌<◌, ◌+◌, ◌-◌, ℕ, IsTrue, length, false, true, arith, refl, sym, ap, ◌∙◌, Fits, w64, List, subst}
use Rattle.image_model.specs.Root.{flags_place, stream_count}
use Rattle.image_streams.specs.Walks.{LieFrom, LieInside}
use Rattle.image_streams.proofs.Steps.{ends_behind, one_more, first_lies}
use Rattle.image_streams.proofs.root.lie_inside.Goals.{then-metadata-behind-via-then-metadata-behind, then-metadata-behind-via-else-metadata-behind+then-metadata-end}
use Rattle.image_streams.proofs.root.lie_inside.Goals as goal

-- no headers lie in bytes that end before them
ends : (metadata : List ℕ) → LieInside metadata → flags_place metadata + 4 ≤ length metadata
ends metadata lie = let e = ends_behind metadata (flags_place metadata + 4) (stream_count metadata) in let h = lie.headers in omega arith

pub returns-then-metadata-lt20-clause-inside : goal.returns-then-metadata-lt20-clause-inside
returns-then-metadata-lt20-clause-inside c = (λ never. cc, λ lie. let e = ends c.args.metadata.now lie in let t = c.if-metadata-lt20.true in absurd (omega arith))

pub returns-then-metadata-flags-clause-inside : goal.returns-then-metadata-flags-clause-inside
returns-then-metadata-flags-clause-inside c =
    (λ never. cc, λ lie. let e = ends c.args.metadata.now lie in let t = c.if-metadata-flags.true in let f = c.flags_place-flags.ensures.place in absurd (omega arith))

pub returns-then-metadata-place-clause-inside : goal.returns-then-metadata-place-clause-inside
returns-then-metadata-place-clause-inside c = (
  λ never. cc,
  λ lie.
      let f = first_lies c.args.metadata.now c.loop-left.place c.loop-left.left c.loop-left-test.true (c.loop-left.invariant.part lie) in
      let t = c.if-metadata-place.true in absurd (omega arith),
)

pub returns-then-metadata-behind-clause-inside : goal.returns-then-metadata-behind-clause-inside
returns-then-metadata-behind-clause-inside c =
    let lies = λ (lie : LieInside c.args.metadata.now). first_lies c.args.metadata.now c.loop-left.place c.loop-left.left c.loop-left-test.true (c.loop-left.invariant.part lie) in
    let b = c.behind_header-behind.ensures in
    let x = c.u32_at.ensures in
    let y = c.u32_at-in-loop-left.ensures in
    elim c.then-metadata-behind.branch [
      | then-metadata-behind-via-then-metadata-behind w ↦ (λ never. cc, λ lie. let f = lies lie in let t = w.if-metadata-behind in absurd (omega arith))
      | then-metadata-behind-via-else-metadata-behind+then-metadata-end w ↦ (λ never. cc, λ lie. let f = lies lie in let t = w.if-metadata-end in absurd (omega arith))
    ]

pub loop-left-preserved : goal.loop-left-preserved
loop-left-preserved c =
    let i = c.loop-left.invariant in
    let some = c.loop-left-test.true in
    let within = c.if-metadata-end.false in
    let x = c.u32_at.ensures in
    let y = c.u32_at-in-loop-left.ensures in
    let inside = c.if-metadata-behind.false in
    let b = c.behind_header-behind.ensures in
    record {
      whole = λ rest. i.whole (one_more c.args.metadata.now c.loop-left.place c.loop-left.left some (subst (λ place. LieFrom c.args.metadata.now place (c.loop-left.left - 1)) b rest) (omega arith));
      part = λ lie. subst (λ place. LieFrom c.args.metadata.now place (c.loop-left.left - 1)) (sym b) (first_lies c.args.metadata.now c.loop-left.place c.loop-left.left some (i.part lie)).1.1.1;
      within = omega arith;
    }
