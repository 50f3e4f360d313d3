use Rattle.std.proofs.Common.{◌≡◌, ◌∙◌, ◌<◌, ◌+◌, sym, ap, length, take, rules, arith}
use Rattle.std.specs.List.{sum_by}
use Rattle.std.proofs.lemmas.List.{take_all}
use Rattle.std.proofs.lemmas.List.Sums.{sum_by-take-le}
use Rattle.assembly_tree.specs.Weight.{method_weight}
use Rattle.all_bodies.proofs.CountLemmas.{with_code, code_low}
use Rattle.all_bodies.proofs.PlaceLemmas.{sum_more}
use Rattle.all_bodies.proofs.counting.instructions_of.Goals as goal

pub overflow_add-count : goal.overflow_add-count
overflow_add-count c =
    let ms = c.args.methods.now in
    let k = c.loop-method.method-index in
    let m = c.method-item.result in
    let low : k < length ms = search rules in
    let more = sum_more with_code ms k m low c.method-item.is in
    let own = c.code_length-own.ensures in
    let some = sum_by-take-le with_code ms (k + 1) in
    let all = code_low ms in
    omega (arith, more, own, some, all)

pub loop-method-preserved : goal.loop-method-preserved
loop-method-preserved c =
    let ms = c.args.methods.now in
    let k = c.loop-method.method-index in
    let m = c.method-item.result in
    let low : k < length ms = search rules in
    let more = sum_more with_code ms k m low c.method-item.is in
    let own = c.code_length-own.ensures in
    omega (arith, more, own)

pub returns : goal.returns
returns c = c.loop-method.invariant ∙ ap (sum_by with_code) (take_all c.loop-method.method-index c.args.methods.now (omega arith))
