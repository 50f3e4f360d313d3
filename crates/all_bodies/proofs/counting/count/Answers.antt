use Rattle.std.proofs.Common.{◌≡◌, ◌∙◌, ◌+◌, sym, ap, arith}
use Rattle.std.specs.List.{sum_by}
use Rattle.assembly_tree.specs.Nesting.{types_in}
use Rattle.assembly_tree.specs.Weight.{method_weight, typedef_weight}
use Rattle.all_bodies.specs.Counts.{bodies_in, instructions_in}
use Rattle.all_bodies.proofs.CountLemmas.{all_listed, bodies_among_low, bodies_low, code_low, instructions_low, parts_light, with_bodies, with_code}
use Rattle.all_bodies.proofs.counting.count.Goals as goal

pub classes_among-classes-requires : goal.classes_among-classes-requires
classes_among-classes-requires c = let light = parts_light c.args.a.now in let same = ap (sum_by typedef_weight) c.as_slice-types.ensures in omega (arith, light, same)

pub bodies_of-outside-requires : goal.bodies_of-outside-requires
bodies_of-outside-requires c = let light = parts_light c.args.a.now in let same = ap (sum_by method_weight) c.as_slice-methods.ensures in omega (arith, light, same)

pub bodies_among-inside-requires : goal.bodies_among-inside-requires
bodies_among-inside-requires c = let light = parts_light c.args.a.now in let same = ap (sum_by typedef_weight) c.as_slice-types.ensures in omega (arith, light, same)

pub instructions_of-instructions_outside-requires : goal.instructions_of-instructions_outside-requires
instructions_of-instructions_outside-requires c = let light = parts_light c.args.a.now in let same = ap (sum_by method_weight) c.as_slice-methods.ensures in omega (arith, light, same)

pub instructions_among-instructions_inside-requires : goal.instructions_among-instructions_inside-requires
instructions_among-instructions_inside-requires c = let light = parts_light c.args.a.now in let same = ap (sum_by typedef_weight) c.as_slice-types.ensures in omega (arith, light, same)

pub overflow_add-result : goal.overflow_add-result
overflow_add-result c =
    let a = c.args.a.now in
    let light = parts_light a in
    let own = bodies_low a.methods in
    let below = bodies_among_low a.types in
    let outside = c.bodies_of-outside.ensures ∙ ap (sum_by with_bodies) c.as_slice-methods.ensures in
    let inside = c.bodies_among-inside.ensures ∙ ap (sum_by bodies_in) c.as_slice-types.ensures in
    omega (arith, light, own, below, outside, inside)

pub overflow_add-result-2 : goal.overflow_add-result-2
overflow_add-result-2 c =
    let a = c.args.a.now in
    let light = parts_light a in
    let own = code_low a.methods in
    let below = instructions_low a.types in
    let outside = c.instructions_of-instructions_outside.ensures ∙ ap (sum_by with_code) c.as_slice-methods.ensures in
    let inside = c.instructions_among-instructions_inside.ensures ∙ ap (sum_by instructions_in) c.as_slice-types.ensures in
    omega (arith, light, own, below, outside, inside)

pub returns-clause-methods : goal.returns-clause-methods
returns-clause-methods c =
    let a = c.args.a.now in
    let outside = c.bodies_of-outside.ensures ∙ ap (sum_by with_bodies) c.as_slice-methods.ensures in
    let inside = c.bodies_among-inside.ensures ∙ ap (sum_by bodies_in) c.as_slice-types.ensures in
    let all = all_listed a in
    omega (arith, outside, inside, all)
