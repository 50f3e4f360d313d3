use Rattle.std.proofs.Common.{◌≡◌, ℕ, List, length, ap, sym, subst, ◌∙◌, arith}
use Rattle.std.proofs.lemmas.Result.{IfOk-weaker}
use Rattle.ilasm_grammar.specs.declared.productions.TheConstants.{ITEM_INSTRUCTION, PARAM_OF_BRACKET}
use Rattle.ilasm_grammar.specs.declared.tree.TreeNode.{TreeNode}
use Rattle.source_model.specs.Forest.{preorder, the}
use Rattle.source_model.specs.Shapes.{natural}
use Rattle.source_model.specs.Values.{int_at}
use Rattle.std.specs.Prelude.{min}
use Rattle.lower_members.specs.NumberedLines.{AllLines}
use Rattle.lower_members.proofs.NumberedLemmas.{appended_lines, instruction_numbers, with_other, with_own}
use Rattle.lower_members.proofs.numbered_lines.add_line.Goals as goal

pub returns-then-line-eq-ITEM_INSTRUCTION-clause-numbered : goal.returns-then-line-eq-ITEM_INSTRUCTION-clause-numbered
returns-then-line-eq-ITEM_INSTRUCTION-clause-numbered c s r p is item few =
    let made : c.args.line.head.production ≡ p.production = ap (λ (w : ℕ × List TreeNode). w.0) is in
    let own : p.production ≡ ITEM_INSTRUCTION = omega (arith, made, c.if-line-eq-ITEM_INSTRUCTION.true) in
    with_other s p c.args.line c.args.lines.now.items (instruction_numbers s p own item)

pub returns-then-has-clause-lines : goal.returns-then-has-clause-lines
returns-then-has-clause-lines c all =
    let n = length c.args.lines.now.items in
    IfOk-weaker c.append_to.result _ _ (λ u same. subst (AllLines c.args.nodes.now n) (sym same) (appended_lines c.args.nodes.now n c.args.lines.now.items c.natural-number.result c.args.line c.requires all))
    c.append_to.ensures

pub returns-then-has-clause-numbered : goal.returns-then-has-clause-numbered
returns-then-has-clause-numbered c s r p is item few =
    let below : preorder p.below ≡ c.nodes_of-below.result.now = ap (λ (w : ℕ × List TreeNode). w.1) (sym is) ∙ sym c.nodes_of-below.ensures in
    let token = c.leaf_at.ensures (the PARAM_OF_BRACKET p.below) (sym (c.the.ensures p.below below)) in
    let number = c.natural-number.ensures.number s r ∙ ap (λ k. min (natural (int_at s k)) 0x100000000) token in
    let some = sym (c.has.ensures p.below below) ∙ c.if-has.true in
    IfOk-weaker c.append_to.result _ _ (λ u same. with_own s p c.args.line c.args.lines.now.items c.append_to.new.lines.items c.natural-number.result some few number same)
    c.append_to.ensures

pub returns-else-has-clause-numbered : goal.returns-else-has-clause-numbered
returns-else-has-clause-numbered c s r p is item few =
    let below : preorder p.below ≡ c.nodes_of-below.result.now = ap (λ (w : ℕ × List TreeNode). w.1) (sym is) ∙ sym c.nodes_of-below.ensures in
    with_other s p c.args.line c.args.lines.now.items (sym (c.has.ensures p.below below) ∙ c.if-has.false)
