use Rattle.std.proofs.Common.{◌≡◌, ◌∙◌, ◌∷◌, ◌++◌, ◌<◌, [], sym, ap, ℕ, List, length, take, rules, arith}
use Rattle.std.specs.List.{sum_by}
use Rattle.std.proofs.lemmas.List.{append_assoc, append-nil, take_all}
use Rattle.assembly_tree.specs.declared.typedef.MethodPath.{MethodPath}
use Rattle.assembly_tree.specs.declared.typedef.TypeDef.{TypeDef}
use Rattle.assembly_tree.specs.declared.typedef.TypeDef.TheViews.{out-TypeDef}
use Rattle.assembly_tree.specs.Weight.{typedef_weight}
use Rattle.code_flow.specs.Methods.{places_in}
use Rattle.all_bodies.specs.Places.{places_from}
use Rattle.all_bodies.proofs.PlaceLemmas.{few_methods, few_types, type_heavy, type_in, types_more}
use Rattle.all_bodies.proofs.places.+add_types.Goals as goal

pub loop-k-init : goal.loop-k-init
loop-k-init t c = sym (append-nil c.args.into.now)

pub add_methods-requires : goal.add_methods-requires
add_methods-requires t c =
    let ts = c.args.types.now in
    let of = c.index-types-k.result in
    let low : c.loop-k.k < length ts = search rules in
    let part = type_in ts c.loop-k.k of low c.index-types-k.is in
    let few = few_methods of in
    let same = ap length c.as_slice-methods.ensures in
    omega (arith, part, few, same)

pub add_types-requires : goal.add_types-requires
add_types-requires t c =
    let ts = c.args.types.now in
    let of = c.index-types-k.result in
    let low : c.loop-k.k < length ts = search rules in
    let part = type_in ts c.loop-k.k of low c.index-types-k.is in
    let heavy = type_heavy of in
    let same = ap (sum_by typedef_weight) c.as_slice-nested.ensures in
    let down = c.decreases in
    (omega (arith, part, heavy, same), omega (arith, part, heavy, same))

pub loop-k-preserved : goal.loop-k-preserved
loop-k-preserved t c =
    let first = c.args.into.now in
    let outer = c.args.outer.now in
    let ts = c.args.types.now in
    let k = c.loop-k.k in
    let of = c.index-types-k.result in
    let now = c.loop-k.into in
    let place : List ℕ = outer ++ k ∷ [] in
    let low : k < length ts = search rules in
    let at : c.as_slice-place.result.now ≡ place = c.as_slice-place.ensures ∙ c.in_ok-places.ensures in
    let own : c.add_methods.new.into ≡ now ++ places_in place (out-TypeDef of).methods =
    c.in_ok-add_methods.ensures ∙ (λ i. now ++ places_in (at i) (c.as_slice-methods.ensures i)) in
    let inner : c.add_types.new.into ≡ c.add_methods.new.into ++ places_from place 0 (out-TypeDef of).nested =
    c.in_ok-add_types.ensures ∙ (λ i. c.add_methods.new.into ++ places_from (at i) 0 (c.as_slice-nested.ensures i)) in
    let those = places_in place (out-TypeDef of).methods in
    let below = places_from place 0 (out-TypeDef of).nested in
    inner ∙ ap (λ (l : List MethodPath). l ++ below) (own ∙ ap (λ (l : List MethodPath). l ++ those) c.loop-k.invariant)
    ∙ append_assoc (first ++ places_from outer 0 (take k ts)) those below
    ∙ append_assoc first (places_from outer 0 (take k ts)) (those ++ below)
    ∙ ap (λ (l : List MethodPath). first ++ l) (sym (types_more outer ts k of low c.index-types-k.is))

pub returns : goal.returns
returns t c =
    c.loop-k.invariant
    ∙ ap (λ (l : List TypeDef). c.args.into.now ++ places_from c.args.outer.now 0 l) (take_all c.loop-k.k c.args.types.now (omega arith))

pub overflow_cast-k : goal.overflow_cast-k
overflow_cast-k t c =
    let ts = c.args.types.now in
    let low : c.loop-k.k < length ts = search rules in
    let few = few_types ts in
    omega (arith, low, few)
