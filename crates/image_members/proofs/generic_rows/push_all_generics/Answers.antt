use Rattle.std.proofs.Common.{◌≡◌, ap, sym, subst, rules, ℕ, ◌+◌, ◌-◌, ◌<◌, ◌≤◌, List, [], ◌∷◌, arith}
use Rattle.std.specs.List.{flat_map, range_with_len}
use Rattle.image_members.specs.GenericRows.{generics_at, generic_bytes, IsGenericRow}
use Rattle.image_members.specs.Pushing.{Pushes}
use Rattle.image_members.proofs.ByNumberLemmas.{next_number, no_number}
use Rattle.image_members.proofs.EmptinessLemmas.{nothing_in_all}
use Rattle.image_members.proofs.KindLemmas.{Pushing, begin, front, go_on, end, none_pushed}
use Rattle.image_members.proofs.GenericLemmas.{generic_kind}
use Rattle.image_members.proofs.generic_rows.push_all_generics.Goals as goal

pub loop-place-init : goal.loop-place-init
loop-place-init c =
    let n = c.args.count in
    let at = generics_at c.args.tables.now in
    let same : n ≡ n - 0 = omega arith in
    subst (λ (m : ℕ). Pushing generic_kind c.args.refs.now c.args.refs.now c.args.rows.now c.args.rows.now (flat_map at (range_with_len 0 n)) (flat_map at (range_with_len 0 m))) same
    (begin generic_kind c.args.refs.now c.args.rows.now (flat_map at (range_with_len 0 n)) c.requires.can)

pub push_generics_at-requires-clause-can : goal.push_generics_at-requires-clause-can
push_generics_at-requires-clause-can c =
    let n = c.args.count in
    let k = c.loop-place.place in
    let at = generics_at c.args.tables.now in
    let low : k < n = search rules in
    front generic_kind c.args.refs.now c.loop-place.refs c.args.rows.now c.loop-place.rows (flat_map at (range_with_len 0 n)) (flat_map at (range_with_len k (n - k))) (at k) (flat_map at (range_with_len (k + 1) (n - (k + 1))))
    (ap (flat_map at) (next_number k n low)) c.loop-place.invariant

pub loop-place-preserved : goal.loop-place-preserved
loop-place-preserved c =
    let n = c.args.count in
    let k = c.loop-place.place in
    let at = generics_at c.args.tables.now in
    let low : k < n = search rules in
    go_on generic_kind c.args.refs.now c.loop-place.refs c.push_generics_at.new.refs c.args.rows.now c.loop-place.rows c.push_generics_at.new.rows (flat_map at (range_with_len 0 n)) (flat_map at (range_with_len k (n - k))) (at k)
    (flat_map at (range_with_len (k + 1) (n - (k + 1)))) (ap (flat_map at) (next_number k n low)) c.loop-place.invariant c.in_ok-push_generics_at.ensures

pub returns : goal.returns
returns c =
    let n = c.args.count in
    let k = c.loop-place.place in
    let at = generics_at c.args.tables.now in
    let past : n ≤ k = search rules in
    end generic_kind c.args.refs.now c.loop-place.refs c.args.rows.now c.loop-place.rows (flat_map at (range_with_len 0 n)) (flat_map at (range_with_len k (n - k))) (ap (flat_map at) (no_number k n past)) c.loop-place.invariant

pub returns-then-not-have_generics : goal.returns-then-not-have_generics
returns-then-not-have_generics c =
    let none = nothing_in_all (generics_at c.args.tables.now) (c.have_generics.ensures.none c.if-not-have_generics.true) (range_with_len 0 c.args.count) in
    subst (λ xs. Pushes 0x2A IsGenericRow generic_bytes xs c.args.refs.now c.args.refs.now c.args.rows.now c.args.rows.now) (sym none) (none_pushed generic_kind c.args.refs.now c.args.rows.now c.requires.can.known)
