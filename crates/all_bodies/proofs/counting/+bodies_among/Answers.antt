use Rattle.std.proofs.Common.{◌≡◌, ◌∙◌, ◌<◌, ◌+◌, sym, ap, length, take, rules, arith}
use Rattle.std.specs.List.{sum_by}
use Rattle.std.proofs.lemmas.List.{take_all}
use Rattle.std.proofs.lemmas.List.Sums.{sum_by-take-le}
use Rattle.assembly_tree.specs.Weight.{method_weight, typedef_weight}
use Rattle.all_bodies.specs.Counts.{bodies_in}
use Rattle.all_bodies.proofs.CountLemmas.{bodies_out, bodies_among_low, methods_in_weight, with_bodies}
use Rattle.all_bodies.proofs.PlaceLemmas.{sum_more, type_heavy, type_in}
use Rattle.all_bodies.proofs.counting.+bodies_among.Goals as goal

pub bodies_of-own-requires : goal.bodies_of-own-requires
bodies_of-own-requires t c =
    let ts = c.args.types.now in
    let of = c.of-item.result in
    let low : c.loop-of.of-index < length ts = search rules in
    let part = type_in ts c.loop-of.of-index of low c.of-item.is in
    let heavy = methods_in_weight of in
    let same = ap (sum_by method_weight) c.as_slice-methods.ensures in
    omega (arith, part, heavy, same)

pub bodies_among-inside-requires : goal.bodies_among-inside-requires
bodies_among-inside-requires t c =
    let ts = c.args.types.now in
    let of = c.of-item.result in
    let low : c.loop-of.of-index < length ts = search rules in
    let part = type_in ts c.loop-of.of-index of low c.of-item.is in
    let heavy = type_heavy of in
    let same = ap (sum_by typedef_weight) c.as_slice-nested.ensures in
    let down = c.decreases in
    (omega (arith, part, heavy, same), omega (arith, part, heavy, same))

pub overflow_add-count : goal.overflow_add-count
overflow_add-count t c =
    let ts = c.args.types.now in
    let k = c.loop-of.of-index in
    let of = c.of-item.result in
    let low : k < length ts = search rules in
    let more = sum_more bodies_in ts k of low c.of-item.is in
    let out = bodies_out of in
    let inside = c.bodies_among-inside.ensures ∙ ap (sum_by bodies_in) c.as_slice-nested.ensures in
    let own = c.bodies_of-own.ensures ∙ ap (sum_by with_bodies) c.as_slice-methods.ensures in
    let some = sum_by-take-le bodies_in ts (k + 1) in
    let all = bodies_among_low ts in
    omega (arith, more, out, inside, own, some, all)

pub loop-of-preserved : goal.loop-of-preserved
loop-of-preserved t c =
    let ts = c.args.types.now in
    let k = c.loop-of.of-index in
    let of = c.of-item.result in
    let low : k < length ts = search rules in
    let more = sum_more bodies_in ts k of low c.of-item.is in
    let out = bodies_out of in
    let inside = c.bodies_among-inside.ensures ∙ ap (sum_by bodies_in) c.as_slice-nested.ensures in
    let own = c.bodies_of-own.ensures ∙ ap (sum_by with_bodies) c.as_slice-methods.ensures in
    omega (arith, more, out, inside, own)

pub returns : goal.returns
returns t c = c.loop-of.invariant ∙ ap (sum_by bodies_in) (take_all c.loop-of.of-index c.args.types.now (omega arith))

pub overflow_add-count-in-loop-of : goal.overflow_add-count-in-loop-of
overflow_add-count-in-loop-of t c =
    let ts = c.args.types.now in
    let k = c.loop-of.of-index in
    let of = c.of-item.result in
    let low : k < length ts = search rules in
    let more = sum_more bodies_in ts k of low c.of-item.is in
    let out = bodies_out of in
    let inside = c.bodies_among-inside.ensures ∙ ap (sum_by bodies_in) c.as_slice-nested.ensures in
    let own = c.bodies_of-own.ensures ∙ ap (sum_by with_bodies) c.as_slice-methods.ensures in
    let some = sum_by-take-le bodies_in ts (k + 1) in
    let all = bodies_among_low ts in
    omega (arith, more, out, inside, own, some, all)
