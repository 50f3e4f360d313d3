use Rattle.std.proofs.Common.{◌∙◌, ◌-◌, ap, subst, List, length, reverse, take, ◌≡◌}
use Rattle.type_hierarchy.specs.declared.stack_type.StackType.{StackType}
use Rattle.stack_states.specs.Chains.{values_of}
use Rattle.stack_states.proofs.ChainLemmas.{front_reversed}
use Rattle.stack_states.proofs.stack.Stack.under.Goals as goal

pub returns : goal.returns
returns c =
    let n = c.args.count in
    let P : List StackType → Type 0 = λ s. reverse (values_of c.in_ok-top.top) ≡ take (length s - n) s in
    subst P c.self.view_is (ap reverse (c.in_ok-top.ensures ∙ c.below.ensures) ∙ front_reversed n (values_of c.self.inside.top))
