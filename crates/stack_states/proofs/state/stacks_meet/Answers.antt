use Rattle.std.proofs.Common.{arith}
use Rattle.std.proofs.lemmas.List.{length-map}
use Rattle.type_hierarchy.specs.declared.stack_type.StackType.{StackType}
use Rattle.type_hierarchy.specs.World.{hierarchy}
use Rattle.type_hierarchy.specs.Stack.{Stack}
use Rattle.stack_rows.specs.RowMeanings.{stack_meant}
use Rattle.stack_states.proofs.StackLemmas.{stacks_clash}
use Rattle.stack_states.proofs.state.stacks_meet.Goals as goal

pub returns-then-len-clause-ok : goal.returns-then-len-clause-ok
returns-then-len-clause-ok c = (
  tt,
  stacks_clash (hierarchy c.args.w.now) (stack_meant c.args.w.now.nodes c.args.s.now) (stack_meant c.args.w.now.nodes c.args.t.now)
      (λ e. c.if-len.true (grind (arith, c.len.ensures, c.len-2.ensures, length-map {A = StackType} {B = Stack}, e))),
)
