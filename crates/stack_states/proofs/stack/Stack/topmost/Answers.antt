use Rattle.std.proofs.Common.{◌∙◌, ◌-◌, subst, List, length, drop, ◌≡◌}
use Rattle.type_hierarchy.specs.declared.stack_type.StackType.{StackType}
use Rattle.stack_states.specs.Chains.{topmost_values, values_of}
use Rattle.stack_states.proofs.ChainLemmas.{back_reversed}
use Rattle.stack_states.proofs.stack.Stack.topmost.Goals as goal

pub returns-in-Some : goal.returns-in-Some
returns-in-Some c =
    let n = c.args.count in
    let P : List StackType → Type 0 = λ s. topmost_values c.in-Some.few ≡ drop (length s - n) s in
    subst P c.self.view_is (c.in-Some.ensures ∙ back_reversed n (values_of c.self.inside.top))
