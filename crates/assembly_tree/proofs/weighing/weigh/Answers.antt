use Rattle.std.proofs.Common.{◌∙◌, sym}
use Rattle.assembly_tree.proofs.TextLists.{none_at_false, some_at_true}
use Rattle.assembly_tree.specs.Room.{texts}
use Rattle.assembly_tree.proofs.weighing.weigh.Goals as goal

pub returns-clause-loads : goal.returns-clause-loads
returns-clause-loads c = λ none. none_at_false (texts c.args.a.now) (sym c.charge_assembly-left.ensures.loads ∙ none)

pub returns-clause-loads_some : goal.returns-clause-loads_some
returns-clause-loads_some c = λ some. some_at_true (texts c.args.a.now) (sym c.charge_assembly-left.ensures.loads ∙ some)
