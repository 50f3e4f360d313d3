use Rattle.std.proofs.Common.{◌≡◌, ◌++◌, ◌∷◌, [], ap, sym, subst, ◌∙◌, arith, rules, SFits, w64}
use Rattle.std.specs.Prelude.{IfOk}
use Rattle.std.proofs.lemmas.Int.{to_z-of_z}
use Rattle.opcode_table.specs.declared.op.Op.{Op}
use Rattle.assembly_tree.specs.WellFormedBodies.{operand_kind}
use Rattle.assembly_tree.specs.declared.body.Operand.{Operand}
use Rattle.assembly_tree.specs.declared.body.Operand.TheVariants as operand
use Rattle.ilasm_grammar.specs.declared.productions.TheConstants.{INSTRUCTION_OP_NONE, INSTRUCTION_OP_NUM, INSTRUCTION_OP_REAL, INSTRUCTION_OP_VAR}
use Rattle.source_model.specs.Forest.{Forest, Part}
use Rattle.source_model.specs.Instructions.{op_of}
use Rattle.source_model.specs.Nodes.{Around}
use Rattle.source_model.specs.Operands.{instruction, number_in, operand_of}
use Rattle.source_model.specs.Source.{Source}
use Rattle.source_model.specs.Values.{int_at}
use Rattle.source_nodes.specs.Derived.{FitsBody}
use Rattle.source_flags.proofs.Gathered.{has_bodies}
use Rattle.lower_bodies.specs.Operands.{instruction_with, other_operand}
use Rattle.lower_bodies.proofs.FormLemmas.{is_form_at, is_form_else, kind_is, other_form}
use Rattle.lower_bodies.proofs.operands.push_instruction.Goals as goal

-- an instruction from its opcode and its operand
both : (s : Source) (a : Around) (f : Forest) (p : Part) (op : Op) (o : Operand) → op ≡ op_of s p → o ≡ operand_of s a f p → instruction_with op o ≡ instruction s a f p
both s a f p op o e h = ap (λ k. instruction_with k o) e ∙ ap (instruction_with (op_of s p)) h

pub returns-in-314 : goal.returns-in-314
returns-in-314 c s a f p x made e h =
    let form = sym c.in-314.is ∙ made in
    subst (λ i. IfOk c.push_plain.result (λ _. c.push_plain.new.all ≡ c.args.all.now ++ i ∷ []))
    (both s a f p c.op_of-op.result operand.Nothing (c.op_of-op.ensures s p x.at.reads e) (is_form_at s a f p INSTRUCTION_OP_NONE form))
    c.push_plain.ensures

pub returns-in_ok-number-in-315 : goal.returns-in_ok-number-in-315
returns-in_ok-number-in-315 c s a f p x made e h =
    let form = sym c.in-315.is ∙ made in
    let fits = subst (λ q. FitsBody s q p.below) (sym form) h.own.fits in
    subst (λ i. IfOk c.push_variable.result (λ _. c.push_variable.new.all ≡ c.args.all.now ++ i ∷ []))
    (both s a f p c.op_of-op.result (operand.Var c.in_ok-number-in-315.number) (c.op_of-op.ensures s p x.at.reads e)
    (ap (λ n. operand.Var n)
    (c.in_ok-number-in-315.ensures s a f p x (h.takes (sym form)) fits (has_bodies s p.below h.each) e (h.variable (sym form)))
    ∙ is_form_at s a f p INSTRUCTION_OP_VAR form))
    c.push_variable.ensures

pub returns-in-316 : goal.returns-in-316
returns-in-316 c s a f p x made e h =
    let form = sym c.in-316.is ∙ made in
    let op = c.op_of-op.ensures s p x.at.reads e in
    let kind = kind_is c.kind_of.result c.op_of-op.result (op_of s p) c.kind_of.ensures op in
    let signed : SFits w64 c.number-number.result = search rules in
    subst (λ i. IfOk c.push_number.result (λ _. c.push_number.new.all ≡ c.args.all.now ++ i ∷ []))
    (both s a f p c.op_of-op.result _ op
    (ap (λ n. operand.Int n)
    (to_z-of_z w64 c.number-number.result signed
    ∙ c.number-number.ensures s x.at.reads
    ∙ ap (λ k. number_in k (int_at s c.leaf_at.result)) kind
    ∙ ap (λ t. number_in (operand_kind (op_of s p)) (int_at s t)) (c.leaf_at.ensures p.below e))
    ∙ is_form_at s a f p INSTRUCTION_OP_NUM form))
    c.push_number.ensures

pub returns-in_ok-bits-in-317 : goal.returns-in_ok-bits-in-317
returns-in_ok-bits-in-317 c s a f p x made e h =
    let form = sym c.in-317.is ∙ made in
    let fits = subst (λ q. FitsBody s q p.below) (sym form) h.own.fits in
    subst (λ i. IfOk c.push_real.result (λ _. c.push_real.new.all ≡ c.args.all.now ++ i ∷ []))
    (both s a f p c.op_of-op.result (operand.Real c.in_ok-bits-in-317.bits) (c.op_of-op.ensures s p x.at.reads e)
    (ap (λ b. operand.Real b)
    (c.in_ok-bits-in-317.ensures s p x.at.reads fits (has_bodies s p.below h.each) e (h.real (sym form)))
    ∙ is_form_at s a f p INSTRUCTION_OP_REAL form))
    c.push_real.ensures

pub returns-in_default : goal.returns-in_default
returns-in_default c s a f p x made e h =
    let no_none : c.args.production ≡ INSTRUCTION_OP_NONE → ⊥ = λ is. omega (arith, is) in
    let no_variable : c.args.production ≡ INSTRUCTION_OP_VAR → ⊥ = λ is. omega (arith, is) in
    let no_number : c.args.production ≡ INSTRUCTION_OP_NUM → ⊥ = λ is. omega (arith, is) in
    let no_real : c.args.production ≡ INSTRUCTION_OP_REAL → ⊥ = λ is. omega (arith, is) in
    subst (λ i. IfOk c.push_other.result (λ _. c.push_other.new.all ≡ c.args.all.now ++ i ∷ []))
    (ap (λ k. instruction_with k (other_operand s a f p)) (c.op_of-op.ensures s p x.at.reads e)
    ∙ ap (instruction_with (op_of s p))
    (is_form_else s a f p (other_form INSTRUCTION_OP_NONE made no_none) (other_form INSTRUCTION_OP_VAR made no_variable) (other_form INSTRUCTION_OP_NUM made no_number)
    (other_form INSTRUCTION_OP_REAL made no_real)))
    (c.push_other.ensures s a f p x made e h)
