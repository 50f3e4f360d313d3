use Rattle.std.proofs.Common.{◌∙◌, ◌-◌, ap, subst, List, length, reverse, drop, ◌≡◌}
use Rattle.type_hierarchy.specs.declared.stack_type.StackType.{StackType}
use Rattle.stack_states.specs.Chains.{values_of}
use Rattle.stack_states.proofs.ChainLemmas.{back_reversed}
use Rattle.stack_states.proofs.stack.Stack.listed.Goals as goal

pub returns : goal.returns
returns c =
    let n = c.args.count in
    let P : List StackType → Type 0 = λ s. c.reverse.new.self.items ≡ drop (length s - n) s in
    subst P c.self.view_is (c.reverse.ensures.items ∙ ap reverse c.in_ok-values.ensures ∙ back_reversed n (values_of c.self.inside.top))
