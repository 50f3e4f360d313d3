use Rattle.std.proofs.Common.{[], ◌∷◌, IfOk, refl, sym, subst}
use Rattle.type_hierarchy.specs.World.{hierarchy}
use Rattle.code_flow.specs.declared.operation.Operation.{Operation}
use Rattle.code_flow.specs.Demands as demands
use Rattle.stack_rows.specs.RowMeanings.{framed, type_option, MeansRow}
use Rattle.code_flow.specs.Rows.{row_by, number_type, pushes}
use Rattle.stack_rows.proofs.RowParts.{always_means}
use Rattle.body_verifier.proofs.rows.row_by_operation.Goals as goal

pub returns-in-LoadNumber-clause-ok : goal.returns-in-LoadNumber-clause-ok
returns-in-LoadNumber-clause-ok c = λ f.
    let ns = c.args.w.now.nodes in
    let P : Operation → Type 0 = λ (o : Operation). IfOk c.plain-in-LoadNumber.result (λ r. MeansRow ns r (row_by (framed (hierarchy c.args.w.now) ns c.args.frame.now f) (type_option ns c.args.constrained) c.args.ins.now o)) in
    subst P (sym c.in-LoadNumber.is)
    (c.plain-in-LoadNumber.ensures ns [] (pushes (number_type c.in-LoadNumber.number)) tt (always_means ns c.number_type.result (number_type c.in-LoadNumber.number) (record { within = c.number_type.ensures.within _; is = c.number_type.ensures.is ns }), tt))

pub returns-in-Convert-clause-ok : goal.returns-in-Convert-clause-ok
returns-in-Convert-clause-ok c = λ f.
    let ns = c.args.w.now.nodes in
    let P : Operation → Type 0 = λ (o : Operation). IfOk c.plain-in-Convert.result (λ r. MeansRow ns r (row_by (framed (hierarchy c.args.w.now) ns c.args.frame.now f) (type_option ns c.args.constrained) c.args.ins.now o)) in
    subst P (sym c.in-Convert.is)
    (c.plain-in-Convert.ensures ns (demands.number ∷ []) (pushes (number_type c.in-Convert.number)) (record { within = tt; is = refl }, tt) (always_means ns c.number_type-in-Convert.result (number_type c.in-Convert.number) (record { within = c.number_type-in-Convert.ensures.within _; is = c.number_type-in-Convert.ensures.is ns }), tt))

pub returns-in-Leave-clause-ok : goal.returns-in-Leave-clause-ok
returns-in-Leave-clause-ok c = λ f.
    let ns = c.args.w.now.nodes in
    let P : Operation → Type 0 = λ (o : Operation). MeansRow ns c.emptying.result (row_by (framed (hierarchy c.args.w.now) ns c.args.frame.now f) (type_option ns c.args.constrained) c.args.ins.now o) in
    subst P (sym c.in-Leave.is) (c.emptying.ensures ns)

pub returns-in-EndFinally-clause-ok : goal.returns-in-EndFinally-clause-ok
returns-in-EndFinally-clause-ok c = λ f.
    let ns = c.args.w.now.nodes in
    let P : Operation → Type 0 = λ (o : Operation). MeansRow ns c.emptying-in-EndFinally.result (row_by (framed (hierarchy c.args.w.now) ns c.args.frame.now f) (type_option ns c.args.constrained) c.args.ins.now o) in
    subst P (sym c.in-EndFinally.is) (c.emptying-in-EndFinally.ensures ns)

pub returns-in-Rethrow-clause-ok : goal.returns-in-Rethrow-clause-ok
returns-in-Rethrow-clause-ok c = λ f.
    let ns = c.args.w.now.nodes in
    let P : Operation → Type 0 = λ (o : Operation). MeansRow ns c.emptying-in-Rethrow.result (row_by (framed (hierarchy c.args.w.now) ns c.args.frame.now f) (type_option ns c.args.constrained) c.args.ins.now o) in
    subst P (sym c.in-Rethrow.is) (c.emptying-in-Rethrow.ensures ns)
