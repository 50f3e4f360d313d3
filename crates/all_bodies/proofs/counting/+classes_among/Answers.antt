use Rattle.std.proofs.Common.{◌≡◌, ◌∙◌, ◌<◌, ◌+◌, sym, ap, length, take, rules, arith}
use Rattle.std.specs.List.{sum_by}
use Rattle.std.proofs.lemmas.List.{take_all}
use Rattle.std.proofs.lemmas.List.Sums.{sum_by-take-le}
use Rattle.assembly_tree.specs.Weight.{method_weight, typedef_weight}
use Rattle.assembly_tree.specs.Nesting.{types_in}
use Rattle.all_bodies.proofs.CountLemmas.{classes_out, classes_low}
use Rattle.all_bodies.proofs.PlaceLemmas.{sum_more, type_heavy, type_in}
use Rattle.all_bodies.proofs.counting.+classes_among.Goals as goal

pub classes_among-inside-requires : goal.classes_among-inside-requires
classes_among-inside-requires t c =
    let ts = c.args.types.now in
    let of = c.of-item.result in
    let low : c.loop-of.of-index < length ts = search rules in
    let part = type_in ts c.loop-of.of-index of low c.of-item.is in
    let heavy = type_heavy of in
    let same = ap (sum_by typedef_weight) c.as_slice-nested.ensures in
    let down = c.decreases in
    (omega (arith, part, heavy, same), omega (arith, part, heavy, same))

pub overflow_add-count : goal.overflow_add-count
overflow_add-count t c =
    let ts = c.args.types.now in
    let k = c.loop-of.of-index in
    let of = c.of-item.result in
    let low : k < length ts = search rules in
    let more = sum_more types_in ts k of low c.of-item.is in
    let out = classes_out of in
    let inside = c.classes_among-inside.ensures ∙ ap (sum_by types_in) c.as_slice-nested.ensures in
    let some = sum_by-take-le types_in ts (k + 1) in
    let all = classes_low ts in
    omega (arith, more, out, inside, some, all)

pub loop-of-preserved : goal.loop-of-preserved
loop-of-preserved t c =
    let ts = c.args.types.now in
    let k = c.loop-of.of-index in
    let of = c.of-item.result in
    let low : k < length ts = search rules in
    let more = sum_more types_in ts k of low c.of-item.is in
    let out = classes_out of in
    let inside = c.classes_among-inside.ensures ∙ ap (sum_by types_in) c.as_slice-nested.ensures in
    omega (arith, more, out, inside)

pub returns : goal.returns
returns t c = c.loop-of.invariant ∙ ap (sum_by types_in) (take_all c.loop-of.of-index c.args.types.now (omega arith))

pub overflow_add-count-in-loop-of : goal.overflow_add-count-in-loop-of
overflow_add-count-in-loop-of t c =
    let ts = c.args.types.now in
    let k = c.loop-of.of-index in
    let of = c.of-item.result in
    let low : k < length ts = search rules in
    let more = sum_more types_in ts k of low c.of-item.is in
    let out = classes_out of in
    let inside = c.classes_among-inside.ensures ∙ ap (sum_by types_in) c.as_slice-nested.ensures in
    let some = sum_by-take-le types_in ts (k + 1) in
    let all = classes_low ts in
    omega (arith, more, out, inside, some, all)
