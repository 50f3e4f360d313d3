use Rattle.std.proofs.Common.{◌≡◌, ap, subst, sym, Bool}
use Rattle.std.specs.Prelude.{◌↔◌, IfOk, IsTrue}
use Rattle.type_terms.specs.declared.reference.FieldRef.{FieldRef}
use Rattle.assembly_tree.specs.declared.body.Operand.{Operand}
use Rattle.code_flow.specs.Rules.{MisfitsField, MisfitsMember}
use Rattle.body_verifier.proofs.naming_rules.misfits_operand.Goals as goal

pub returns-in-Field : goal.returns-in-Field
returns-in-Field c = λ f image types.
    let P : FieldRef → Type 0 = λ (r : FieldRef). IfOk c.misfits_declared.result (λ (b : Bool). IsTrue b ↔ MisfitsField f c.args.does r) in
    let Q : Operand → Type 0 = λ (x : Operand). IfOk c.misfits_declared.result (λ (b : Bool). IsTrue b ↔ MisfitsMember f c.args.does x) in
    subst Q (sym c.in-Field.is) (subst P c.get-in-Field.ensures (c.misfits_declared.ensures f image types))
