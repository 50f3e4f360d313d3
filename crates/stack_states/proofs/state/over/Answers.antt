use Rattle.std.proofs.Common.{◌∙◌, ◌++◌, ◌≡◌, ap, refl, arith, drop, length, subst, take, List}
use Rattle.std.proofs.lemmas.List.{length-drop, take_all}
use Rattle.type_hierarchy.specs.declared.stack_type.StackType.{StackType}
use Rattle.stack_rows.specs.RowMeanings.{stack_meant}
use Rattle.stack_states.proofs.Sharing.{means_over}
use Rattle.stack_states.proofs.state.over.Goals as goal

pub returns : goal.returns
returns c =
    let ns = c.args.pool.now in
    let k = c.same_count-same.result in
    let known = c.args.stack.now in
    let values = c.args.values.now in
    let same : stack_meant ns (take k known) ≡ stack_meant ns (take k values) =
    subst (λ (xs : List StackType). stack_meant ns (take k xs) ≡ stack_meant ns (take k values)) c.requires.known c.same_count-same.ensures.same in
    means_over ns known values c.in_ok-over.over c.push_each.new.self k (length values) c.requires.depth
    (omega (arith, c.same_count-same.ensures.most, ap length c.requires.known)) (refl) same c.requires.stack c.requires.values c.in_ok-over.ensures
    (c.in_ok-push_each.ensures ∙ ap (λ (ys : List StackType). c.in_ok-over.over ++ ys) (take_all _ (drop k values) (omega (arith, length-drop k values))))
