use Rattle.std.proofs.Common.{◌≡◌, ◌∙◌, ap, sym, subst, rules, ℕ, ◌+◌, ◌-◌, ◌<◌, ◌≤◌, List, [], ◌∷◌, ◌++◌, map, arith}
use Rattle.std.specs.List.{flat_map, range_with_len}
use Rattle.std.proofs.lemmas.List.{map-append}
use Rattle.image_members.specs.GenericRows.{generic_of, generics_at}
use Rattle.image_members.specs.Places.{lent}
use Rattle.image_members.proofs.ByNumberLemmas.{next_number, no_number}
use Rattle.image_members.proofs.EmptinessLemmas.{nothing_in_all}
use Rattle.image_members.proofs.PlaceLemmas.{FilledTo, filled_begin, filled_on, filled_end}
use Rattle.image_rows.proofs.generic_order.generics_in_order.Goals as goal

pub loop-place-init : goal.loop-place-init
loop-place-init c =
    let n = c.args.count in
    let of = λ (ks : List ℕ). map generic_of (flat_map (generics_at c.args.tables.now) ks) in
    let same : n ≡ n - 0 = omega arith in
    subst (λ (m : ℕ). FilledTo (lent c.new-generics.result) (lent c.new-generics.result) (of (range_with_len 0 n)) (of (range_with_len 0 m))) same (filled_begin (lent c.new-generics.result) (of (range_with_len 0 n)))

pub loop-place-preserved : goal.loop-place-preserved
loop-place-preserved c =
    let n = c.args.count in
    let k = c.loop-place.place in
    let at = generics_at c.args.tables.now in
    let of = λ (ks : List ℕ). map generic_of (flat_map at ks) in
    let low : k < n = search rules in
    filled_on (lent c.new-generics.result) (lent c.loop-place.generics) (lent c.add_generics_at.new.all) (of (range_with_len 0 n)) (of (range_with_len k (n - k))) (map generic_of (at k)) (of (range_with_len (k + 1) (n - (k + 1))))
    (ap of (next_number k n low) ∙ map-append generic_of (at k) (flat_map at (range_with_len (k + 1) (n - (k + 1))))) c.loop-place.invariant c.in_ok-add_generics_at.ensures

pub returns : goal.returns
returns c =
    let n = c.args.count in
    let k = c.loop-place.place in
    let at = generics_at c.args.tables.now in
    let of = λ (ks : List ℕ). map generic_of (flat_map at ks) in
    let past : n ≤ k = search rules in
    filled_end (lent c.new-generics.result) (lent c.loop-place.generics) (of (range_with_len 0 n)) (of (range_with_len k (n - k))) (ap of (no_number k n past)) c.loop-place.invariant
    ∙ ap (λ gs. lent gs ++ of (range_with_len 0 n)) c.new-generics.ensures

pub returns-then-not-have_generics : goal.returns-then-not-have_generics
returns-then-not-have_generics c =
    let none = nothing_in_all (generics_at c.args.tables.now) (c.have_generics.ensures.none c.if-not-have_generics.true) (range_with_len 0 c.args.count) in
    ap lent c.new-generics.ensures ∙ sym (ap (map generic_of) none)
