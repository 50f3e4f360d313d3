use Rattle.std.proofs.Common.{◌↔◌, sym, subst, IsTrue, IfOk}
use Rattle.type_hierarchy.specs.Meaning.{meant}
use Rattle.type_hierarchy.specs.World.{hierarchy}
use Rattle.stack_rows.specs.declared.row.Demand.{Demand}
use Rattle.code_flow.specs.Demands.{FailsToAssign}
use Rattle.stack_rows.specs.RowMeanings.{demand_meant}
use Rattle.stack_states.proofs.meeting.fails_to_assign.Goals as goal

pub returns-in-To-clause-ok : goal.returns-in-To-clause-ok
returns-in-To-clause-ok c =
    let w = c.args.w.now in
    let P : Demand → Type 0 = λ d. IfOk c.is_unassignable.result (λ r. IsTrue r ↔ FailsToAssign (hierarchy w) (demand_meant w.nodes d) (meant w.nodes c.args.s.now)) in
    subst P (sym c.in-To.is) c.is_unassignable.ensures.ok
