use Rattle.std.proofs.Common.{◌≡◌, ◌≤◌, ◌<◌, ◌+◌, ◌-◌, ℕ, List, length, false, true, arith, refl, sym, subst, Fits, w64, ap, ◌∙◌, [], take, drop}
use Rattle.pe_layout.specs.Fields.{u16_at, u32_at}
use Rattle.std.specs.Str.{bytes_eq}
use Rattle.image_model.specs.Root.{flags_place, stream_count, behind_header}
use Rattle.image_streams.specs.Walks.{LieInside}
use Rattle.image_streams.proofs.Steps.{ends_behind}
use Rattle.image_streams.proofs.Counting.{AreCounted, begun, ended, next_passed_over, next_further, next_first, next_lies}
use Rattle.image_streams.proofs.root.streams_with.Goals.{then-eq, then-count-eq0, else-count-eq0, else-eq}
use Rattle.image_streams.proofs.root.streams_with.Goals as goal

ends : (metadata : List ℕ) → LieInside metadata → flags_place metadata + 4 ≤ length metadata
ends metadata lie = let e = ends_behind metadata (flags_place metadata + 4) (stream_count metadata) in let h = lie.headers in omega arith

pub flags_place-flags-requires : goal.flags_place-flags-requires
flags_place-flags-requires c = let e = ends c.args.metadata.now c.requires in omega arith

pub u16_at-left-requires : goal.u16_at-left-requires
u16_at-left-requires c = let e = ends c.args.metadata.now c.requires in let f = c.flags_place-flags.ensures.place in omega arith

pub loop-left-init : goal.loop-left-init
loop-left-init c =
    let m = c.args.metadata.now in
    let f = c.flags_place-flags.ensures.place in
    let n : c.u16_at-left.result ≡ stream_count m = c.u16_at-left.ensures ∙ ap (λ place. u16_at m (place + 2)) f in
    let few : stream_count m < 65536 = let t = c.u16_at-left.type_inv in omega arith in
    subst (λ place. AreCounted m c.args.name.now (place + 4) c.u16_at-left.result 0 []) (sym f)
    (subst (λ left. AreCounted m c.args.name.now (flags_place m + 4) left 0 []) (sym n) (begun m c.args.name.now c.requires few))

pub name_of-requires : goal.name_of-requires
name_of-requires c = (next_lies c.args.metadata.now c.args.name.now c.loop-left.place c.loop-left.left c.loop-left.count c.loop-left.first.now c.loop-left-test.true c.loop-left.invariant).0

pub stream_at-first-requires-clause-header : goal.stream_at-first-requires-clause-header
stream_at-first-requires-clause-header c = (next_lies c.args.metadata.now c.args.name.now c.loop-left.place c.loop-left.left c.loop-left.count c.loop-left.first.now c.loop-left-test.true c.loop-left.invariant).0

pub stream_at-first-requires-clause-within : goal.stream_at-first-requires-clause-within
stream_at-first-requires-clause-within c = (next_lies c.args.metadata.now c.args.name.now c.loop-left.place c.loop-left.left c.loop-left.count c.loop-left.first.now c.loop-left-test.true c.loop-left.invariant).1.1.0

pub behind_header-place-requires : goal.behind_header-place-requires
behind_header-place-requires c = (next_lies c.args.metadata.now c.args.name.now c.loop-left.place c.loop-left.left c.loop-left.count c.loop-left.first.now c.loop-left-test.true c.loop-left.invariant).0

pub loop-left-preserved : goal.loop-left-preserved
loop-left-preserved c =
    let m = c.args.metadata.now in
    let name = c.args.name.now in
    let place = c.loop-left.place in
    let left = c.loop-left.left in
    let first = c.loop-left.first.now in
    let less = c.loop-left-test.true in
    let i = c.loop-left.invariant in
    let named = ap (λ bytes. bytes_eq bytes name) (sym c.name_of.ensures) in
    let goes = λ (n : ℕ) (at : List ℕ). AreCounted m name (behind_header m place) (left - 1) n at in
    subst (λ place. AreCounted m name place (left - 1) c.if-eq.count c.if-eq.first.now) (sym c.behind_header-place.ensures)
    (elim c.if-eq.branch [
      | then-eq w ↦ elim w.if-count-eq0.branch [
        | then-count-eq0 v ↦ subst (λ at. goes c.if-eq.count at) (sym (ap (λ b. b.now) (w.first-is ∙ v.first-is) ∙ v.stream_at-first.ensures))
            (subst (λ n. goes n (take (u32_at m (place + 4)) (drop (u32_at m place) m))) (sym w.count-is)
            (next_first m name place left c.loop-left.count first less i (named ∙ sym w.if-eq.ensures) v.if-count-eq0.true))
        | else-count-eq0 v ↦ subst (λ at. goes c.if-eq.count at) (sym (ap (λ b. b.now) (w.first-is ∙ v.first-is)))
            (subst (λ n. goes n first) (sym w.count-is)
            (next_further m name place left c.loop-left.count first less i (named ∙ sym w.if-eq.ensures) (let f = v.if-count-eq0.false in omega arith)))
      ]
      | else-eq w ↦ subst (λ at. goes c.if-eq.count at) (sym (ap (λ b. b.now) w.first-is))
          (subst (λ n. goes n first) (sym w.count-is) (next_passed_over m name place left c.loop-left.count first less i (named ∙ sym w.if-eq.ensures)))
    ])

pub returns-clause-bytes : goal.returns-clause-bytes
returns-clause-bytes c =
    let m = c.args.metadata.now in
    let name = c.args.name.now in
    let none : c.loop-left.left ≡ 0 = let t = c.loop-left-test.false in omega arith in
    (ended m name c.loop-left.place c.loop-left.count c.loop-left.first.now (subst (λ left. AreCounted m name c.loop-left.place left c.loop-left.count c.loop-left.first.now) none c.loop-left.invariant)).1
