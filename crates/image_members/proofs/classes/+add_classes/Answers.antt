use Rattle.std.proofs.Common.{◌≡◌, ◌∙◌, ap, refl, sym, subst, ℕ, ◌+◌, ◌<◌, ◌≤◌, List, ◌∷◌, drop, drop_of_length-le, length, arith}
use Rattle.std.specs.List.{sum_by}
use Rattle.std.proofs.lemmas.List.{drop_more}
use Rattle.assembly_tree.specs.Nesting.{types_in}
use Rattle.assembly_tree.specs.declared.typedef.TypeDef.{TypeDef}
use Rattle.assembly_tree.specs.declared.typedef.TypeDef.TheViews.{out-TypeDef}
use Rattle.image_members.specs.Classes.{AddsClasses}
use Rattle.image_members.specs.declared.classes.Class.{Class}
use Rattle.image_members.proofs.ClassLemmas.{adds_begin, adds_fit, adds_on, adds_end}
use Rattle.image_members.proofs.NestLemmas.{nested_fewer}
use Rattle.image_members.proofs.classes.+add_classes.Goals as goal

pub loop-of-init : goal.loop-of-init
loop-of-init t c = adds_begin c.args.encloser c.args.into.now c.args.types.now c.requires

pub add_classes-requires : goal.add_classes-requires
add_classes-requires t c =
    let xs = c.args.types.now in
    let i = c.loop-of.of-index in
    let x = c.of-item.result in
    let here : drop i xs ≡ x ∷ drop (i + 1) xs = drop_more xs i x (omega arith) ∙ ap (λ (y : TypeDef). y ∷ drop (i + 1) xs) (sym c.of-item.is) in
    let fits = adds_fit c.args.encloser c.args.into.now c.loop-of.into c.push.new.self xs (drop i xs) (drop (i + 1) xs) x _ here c.loop-of.invariant c.in_ok-push.ensures.ok in
    let lent = ap (sum_by types_in) c.as_slice.ensures in
    let fewer = nested_fewer xs c.as_slice.result.now i x (omega arith) c.of-item.is c.as_slice.ensures in
    let down = c.decreases in
    (omega arith, omega arith)

pub loop-of-preserved : goal.loop-of-preserved
loop-of-preserved t c =
    let xs = c.args.types.now in
    let i = c.loop-of.of-index in
    let x = c.of-item.result in
    let here : drop i xs ≡ x ∷ drop (i + 1) xs = drop_more xs i x (omega arith) ∙ ap (λ (y : TypeDef). y ∷ drop (i + 1) xs) (sym c.of-item.is) in
    let row : c.len.result + 2 ≡ length c.loop-of.into + 2 = omega arith in
    let inner : AddsClasses (length c.loop-of.into + 2) (out-TypeDef x).nested c.push.new.self c.add_classes.new.into =
    subst (λ (n : ℕ). AddsClasses n (out-TypeDef x).nested c.push.new.self c.add_classes.new.into) row
    (subst (λ (ts : List TypeDef). AddsClasses (c.len.result + 2) ts c.push.new.self c.add_classes.new.into) c.as_slice.ensures c.in_ok-add_classes.ensures) in
    adds_on c.args.encloser c.args.into.now c.loop-of.into c.push.new.self c.add_classes.new.into xs (drop i xs) (drop (i + 1) xs) x _ here c.loop-of.invariant refl refl c.in_ok-push.ensures.ok inner

pub returns : goal.returns
returns t c =
    let xs = c.args.types.now in
    let i = c.loop-of.of-index in
    adds_end c.args.encloser c.args.into.now c.loop-of.into xs (drop i xs) (drop_of_length-le xs {i = i} (omega arith)) c.loop-of.invariant
