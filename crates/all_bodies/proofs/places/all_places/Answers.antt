use Rattle.std.proofs.Common.{◌≡◌, ◌∙◌, ◌++◌, [], sym, ap, List, length, arith}
use Rattle.std.specs.List.{sum_by}
use Rattle.assembly_tree.specs.declared.typedef.MethodPath.{MethodPath}
use Rattle.assembly_tree.specs.Weight.{typedef_weight}
use Rattle.code_flow.specs.Methods.{places_in}
use Rattle.all_bodies.specs.Places.{places_from}
use Rattle.all_bodies.proofs.PlaceLemmas.{all_out, methods_few, types_light}
use Rattle.all_bodies.proofs.places.all_places.Goals as goal

pub add_methods-requires : goal.add_methods-requires
add_methods-requires c = let few = methods_few c.args.a.now in let same = ap length c.as_slice-methods.ensures in omega (arith, few, same)

pub add_types-requires : goal.add_types-requires
add_types-requires c = let light = types_light c.args.a.now in let same = ap (sum_by typedef_weight) c.as_slice-types.ensures in omega (arith, light, same)

pub returns : goal.returns
returns c =
    let ms = c.as_slice-methods.result.now in
    let ts = c.as_slice-types.result.now in
    c.in_ok-add_types.ensures
    ∙ ap (λ (l : List MethodPath). l ++ places_from [] 0 ts) (c.in_ok-add_methods.ensures ∙ ap (λ (l : List MethodPath). l ++ places_in [] ms) c.new-into.ensures)
    ∙ (λ i. places_in [] (c.as_slice-methods.ensures i) ++ places_from [] 0 (c.as_slice-types.ensures i)) ∙ sym (all_out c.args.a.now)
