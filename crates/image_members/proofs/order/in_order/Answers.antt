use Rattle.std.proofs.Common.{◌≡◌, ◌∙◌, ap, refl, sym, subst, ◌+◌, List, [], ◌∷◌, ◌++◌, drop, drop_of_length-le, arith}
use Rattle.std.proofs.lemmas.List.{append-nil, append_assoc, drop_more}
use Rattle.image_members.specs.Ordered.{IsOrdered}
use Rattle.image_members.specs.declared.classes.Class.{Class}
use Rattle.image_members.proofs.OrderedLemmas.{ordered_more}
use Rattle.image_members.proofs.order.in_order.Goals as goal

pub loop-class-init : goal.loop-class-init
loop-class-init c = ([], (refl, c.in_ok-ordered.ensures))

pub loop-class-preserved : goal.loop-class-preserved
loop-class-preserved c =
    let xs = c.args.classes.now in
    let i = c.loop-class.class-index in
    let x = c.class-item.result in
    let here : drop i xs ≡ x ∷ drop (i + 1) xs = drop_more xs i x (omega arith) ∙ ap (λ (y : Class). y ∷ drop (i + 1) xs) (sym c.class-item.is) in
    let was = c.loop-class.invariant in (
      was.0 ++ x ∷ [],
      (
        was.1.0 ∙ ap (λ (ys : List Class). was.0 ++ ys) here ∙ sym (append_assoc was.0 (x ∷ []) (drop (i + 1) xs)),
        ordered_more c.args.a.now was.0 x c.loop-class.ordered c.add_members.new.ordered was.1.1 c.in_ok-add_members.ensures,
      ),
    )

pub returns : goal.returns
returns c =
    let xs = c.args.classes.now in
    let i = c.loop-class.class-index in
    let was = c.loop-class.invariant in
    let all : xs ≡ was.0 = was.1.0 ∙ ap (λ (ys : List Class). was.0 ++ ys) (drop_of_length-le xs {i = i} (omega arith)) ∙ append-nil was.0 in
    subst (λ (cs : List Class). IsOrdered c.args.a.now cs c.loop-class.ordered) (sym all) was.1.1
