use Rattle.std.proofs.Common.{◌≡◌, ℕ, List, ap, sym, subst, ◌∙◌}
use Rattle.std.specs.Prelude.{take_while}
use Rattle.ilasm_grammar.specs.declared.productions.TheConstants.{FIELD}
use Rattle.ilasm_grammar.specs.declared.tree.TreeNode.{TreeNode}
use Rattle.source_model.specs.Forest.{preorder, the}
use Rattle.source_model.specs.Items.{is_custom}
use Rattle.source_nodes.specs.Pieces.{ArePieces}
use Rattle.lower_members.proofs.FieldLemmas.{field_in, run_customs, run_pieces}
use Rattle.lower_members.proofs.fields.field.Goals as goal

pub attributes-requires-clause-parts : goal.attributes-requires-clause-parts
attributes-requires-clause-parts c =
    let ps = c.requires.parts.0 in
    (take_while is_custom ps, subst (λ xs. ArePieces c.args.nodes.now xs (take_while is_custom ps)) (sym c.run_of.ensures) (run_pieces c.args.nodes.now c.args.more.now ps c.requires.parts.1))

pub field_from-requires : goal.field_from-requires
field_from-requires c =
    let f = c.requires.head in
    (the FIELD f.0, sym (c.the.ensures f.0 (f.1 ∙ sym c.nodes_of.ensures)))

pub returns : goal.returns
returns c s a x p ps is are e h each =
    let run : ArePieces c.args.nodes.now c.run_of.result.now (take_while is_custom ps) =
    subst (λ xs. ArePieces c.args.nodes.now xs (take_while is_custom ps)) (sym c.run_of.ensures) (run_pieces c.args.nodes.now c.args.more.now ps are) in
    let customs = c.in_ok-customs.ensures s a x.at (take_while is_custom ps) run (run_customs s ps each) in
    let below : preorder p.below ≡ c.nodes_of.result.now = ap (λ (w : ℕ × List TreeNode). w.1) (sym is) ∙ sym c.nodes_of.ensures in
    let own = field_in s p e h in
    c.field_from.ensures s a x (the FIELD p.below) (take_while is_custom ps) (sym (c.the.ensures p.below below)) own.0 own.1 customs
