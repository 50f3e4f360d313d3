use Rattle.std.proofs.Common.{◌≡◌, ◌∙◌, ◌∷◌, ◌++◌, ◌<◌, [], sym, ap, List, length, take, rules, arith}
use Rattle.std.specs.List.{filter, sum_by}
use Rattle.std.specs.Option.{option_copied}
use Rattle.std.proofs.lemmas.List.{append-nil, take_all}
use Rattle.type_terms.specs.declared.name.TypeId.{TypeId}
use Rattle.assembly_tree.specs.declared.typedef.TypeDef.{TypeDef}
use Rattle.assembly_tree.specs.declared.typedef.TypeDef.TheViews.{out-TypeDef}
use Rattle.assembly_tree.specs.Weight.{typedef_weight}
use Rattle.class_model.specs.declared.row.Row.{Row}
use Rattle.class_model.specs.Classes.{is_class}
use Rattle.class_faces.specs.Paths.{classes_in, path_in, row_at}
use Rattle.class_faces.proofs.RowLemmas.{classes_more, joined}
use Rattle.class_faces.proofs.Weights.{generics_few, type_heavy, type_in}
use Rattle.class_faces.proofs.rows.+add_classes.Goals as goal

pub loop-of-init : goal.loop-of-init
loop-of-init t c = sym (append-nil c.args.rows.now)

pub add_class-requires : goal.add_class-requires
add_class-requires t c =
    let ts = c.args.types.now in
    let of = c.of-item.result in
    let low : c.loop-of.of-index < length ts = search rules in
    let part = type_in ts c.loop-of.of-index of low c.of-item.is in
    let few = generics_few of in
    omega (arith, part, few)

pub add_classes-requires : goal.add_classes-requires
add_classes-requires t c =
    let ts = c.args.types.now in
    let of = c.of-item.result in
    let low : c.loop-of.of-index < length ts = search rules in
    let part = type_in ts c.loop-of.of-index of low c.of-item.is in
    let heavy = type_heavy of in
    let same = ap (sum_by typedef_weight) c.as_slice-nested.ensures in
    let down = c.decreases in
    (omega (arith, part, heavy, same), omega (arith, part, heavy, same))

pub loop-of-preserved : goal.loop-of-preserved
loop-of-preserved t c =
    let ts = c.args.types.now in
    let k = c.loop-of.of-index in
    let of = c.of-item.result in
    let outer : List TypeId = path_in (option_copied c.args.outer) in
    let path : List TypeId = outer ++ (out-TypeDef of).id ∷ [] in
    let low : k < length ts = search rules in
    let own : c.add_class.new.rows ≡ c.loop-of.rows ++ filter is_class (row_at path of ∷ []) =
    c.in_ok-add_class.ensures ∙ (λ i. c.loop-of.rows ++ filter is_class (row_at (c.in_ok-path.ensures i) of ∷ [])) in
    let inner : c.add_classes.new.rows ≡ c.add_class.new.rows ++ classes_in path (out-TypeDef of).nested =
    c.in_ok-add_classes.ensures ∙ (λ i. c.add_class.new.rows ++ classes_in (c.in_ok-path.ensures i) (c.as_slice-nested.ensures i)) in
    joined c.args.rows.now (classes_in outer (take k ts)) (filter is_class (row_at path of ∷ [])) (classes_in path (out-TypeDef of).nested) c.add_class.new.rows c.loop-of.rows
    c.add_classes.new.rows c.loop-of.invariant own inner
    ∙ ap (λ (l : List Row). c.args.rows.now ++ l) (sym (classes_more outer ts k of low c.of-item.is))

pub returns : goal.returns
returns t c =
    c.loop-of.invariant
    ∙ ap (λ (l : List TypeDef). c.args.rows.now ++ classes_in (path_in (option_copied c.args.outer)) l) (take_all c.loop-of.of-index c.args.types.now (omega arith))
