use Rattle.std.proofs.Common.{◌↔◌, sym, subst, not, IsTrue, IfOk}
use Rattle.type_hierarchy.specs.Meaning.{meant}
use Rattle.type_hierarchy.specs.World.{hierarchy}
use Rattle.stack_rows.specs.declared.row.Demand.{Demand}
use Rattle.code_flow.specs.Demands.{HasWrongKind}
use Rattle.stack_rows.specs.RowMeanings.{demand_meant}
use Rattle.stack_states.proofs.Answering.{not_iff}
use Rattle.stack_states.proofs.meeting.is_wrong.Goals as goal

pub returns-in-OneOf-clause-ok : goal.returns-in-OneOf-clause-ok
returns-in-OneOf-clause-ok c =
    let w = c.args.w.now in
    let P : Demand → Type 0 = λ d. IsTrue (not c.is_one_of.result) ↔ HasWrongKind (hierarchy w) (demand_meant w.nodes d) (meant w.nodes c.args.s.now) in
    subst P (sym c.in-OneOf.is) (not_iff c.is_one_of.result (rw c.pool-in-OneOf.ensures at c.is_one_of.ensures))

pub returns-in-VectorOf-clause-ok : goal.returns-in-VectorOf-clause-ok
returns-in-VectorOf-clause-ok c =
    let w = c.args.w.now in
    let P : Demand → Type 0 = λ d. IfOk c.is_no_vector_of.result (λ r. IsTrue r ↔ HasWrongKind (hierarchy w) (demand_meant w.nodes d) (meant w.nodes c.args.s.now)) in
    subst P (sym c.in-VectorOf.is) c.is_no_vector_of.ensures.ok
