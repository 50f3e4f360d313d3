use Rattle.std.proofs.Common.{subst, Bool}
use Rattle.std.specs.Prelude.{◌↔◌, IsTrue}
use Rattle.std.proofs.lemmas.Result.{IfOk-weaker}
use Rattle.code_flow.specs.declared.operation.Operation.{Operation}
use Rattle.code_flow.specs.Operations.{operation}
use Rattle.code_flow.specs.Rules.{MisfitsMember}
use Rattle.body_verifier.specs.Judging.{Misfits}
use Rattle.body_verifier.proofs.MemberLemmas.{member_exact}
use Rattle.body_verifier.proofs.naming_rules.misfits.Goals as goal

pub returns : goal.returns
returns c = λ f k image types is.
    let ins = c.args.ins.now in
    let P : Operation → Bool → Type 0 = λ (o : Operation) (b : Bool). IsTrue b ↔ MisfitsMember f o ins.operand in
    let x = member_exact f k ins is in
    IfOk-weaker c.misfits_operand.result (P c.operation_of.result) (λ (b : Bool). IsTrue b ↔ Misfits f k) (λ b h.
    let y = subst (λ (o : Operation). P o b) c.operation_of.ensures h in
    (λ t. x.0 (y.0 t), λ m. y.1 (x.1 m))) (c.misfits_operand.ensures f image types)
