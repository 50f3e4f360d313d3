use Rattle.std.proofs.Common.{◌≡◌, ap, subst, rules, ℕ, ◌+◌, ◌-◌, ◌<◌, ◌≤◌, List, [], ◌∷◌, arith}
use Rattle.std.specs.List.{flat_map, range_with_len}
use Rattle.image_members.specs.ConstantRows.{constants_at}
use Rattle.image_members.proofs.ByNumberLemmas.{next_number, no_number}
use Rattle.image_members.proofs.KindLemmas.{Pushing, begin, front, go_on, end}
use Rattle.image_members.proofs.ConstantLemmas.{constant_kind}
use Rattle.image_members.proofs.constant_rows.push_all_constants.Goals as goal

pub loop-place-init : goal.loop-place-init
loop-place-init c =
    let n = c.args.count in
    let at = constants_at c.args.tables.now in
    let same : n ≡ n - 0 = omega arith in
    subst (λ (m : ℕ). Pushing constant_kind c.args.refs.now c.args.refs.now c.args.rows.now c.args.rows.now (flat_map at (range_with_len 0 n)) (flat_map at (range_with_len 0 m))) same
    (begin constant_kind c.args.refs.now c.args.rows.now (flat_map at (range_with_len 0 n)) c.requires.can)

pub push_constants_at-requires-clause-can : goal.push_constants_at-requires-clause-can
push_constants_at-requires-clause-can c =
    let n = c.args.count in
    let k = c.loop-place.place in
    let at = constants_at c.args.tables.now in
    let low : k < n = search rules in
    front constant_kind c.args.refs.now c.loop-place.refs c.args.rows.now c.loop-place.rows (flat_map at (range_with_len 0 n)) (flat_map at (range_with_len k (n - k))) (at k) (flat_map at (range_with_len (k + 1) (n - (k + 1))))
    (ap (flat_map at) (next_number k n low)) c.loop-place.invariant

pub loop-place-preserved : goal.loop-place-preserved
loop-place-preserved c =
    let n = c.args.count in
    let k = c.loop-place.place in
    let at = constants_at c.args.tables.now in
    let low : k < n = search rules in
    go_on constant_kind c.args.refs.now c.loop-place.refs c.push_constants_at.new.refs c.args.rows.now c.loop-place.rows c.push_constants_at.new.rows (flat_map at (range_with_len 0 n)) (flat_map at (range_with_len k (n - k))) (at k)
    (flat_map at (range_with_len (k + 1) (n - (k + 1)))) (ap (flat_map at) (next_number k n low)) c.loop-place.invariant c.in_ok-push_constants_at.ensures

pub returns : goal.returns
returns c =
    let n = c.args.count in
    let k = c.loop-place.place in
    let at = constants_at c.args.tables.now in
    let past : n ≤ k = search rules in
    end constant_kind c.args.refs.now c.loop-place.refs c.args.rows.now c.loop-place.rows (flat_map at (range_with_len 0 n)) (flat_map at (range_with_len k (n - k))) (ap (flat_map at) (no_number k n past)) c.loop-place.invariant
