use Rattle.std.proofs.Common.{◌≡◌, ℕ, List, ap, sym, subst, ◌∙◌}
use Rattle.std.specs.Prelude.{Bool, false, true, if◌then◌else◌, take_while}
use Rattle.std.proofs.lemmas.Result.{IfOk-equal}
use Rattle.ilasm_grammar.specs.declared.tree.TreeNode.{TreeNode}
use Rattle.source_model.specs.Forest.{preorder}
use Rattle.source_model.specs.Items.{is_custom}
use Rattle.source_model.specs.Manifests.{attributes}
use Rattle.source_model.specs.Parameters.{is_typar_line, typar_number}
use Rattle.source_nodes.specs.Pieces.{ArePieces}
use Rattle.lower_members.specs.ParamLines.{appended}
use Rattle.lower_members.proofs.FieldLemmas.{run_pieces}
use Rattle.lower_members.proofs.GivenLemmas.{capped_same}
use Rattle.lower_members.proofs.ItemEnds.{line_ranged, run_items}
use Rattle.lower_members.proofs.line_attributes.add_line.Goals as goal

pub attributes-requires-clause-parts : goal.attributes-requires-clause-parts
attributes-requires-clause-parts c =
    let ps = c.requires.parts.0 in
    (take_while is_custom ps, subst (λ xs. ArePieces c.args.nodes.now xs (take_while is_custom ps)) (sym c.run_of.ensures) (run_pieces c.args.nodes.now c.args.more.now ps c.requires.parts.1))

pub returns-in_ok-customs : goal.returns-in_ok-customs
returns-in_ok-customs c s a x p ps is are h each few small =
    let made = ap (λ (w : ℕ × List TreeNode). w.0) is in
    let below : preorder p.below ≡ c.nodes_of-below.result.now = ap (λ (w : ℕ × List TreeNode). w.1) (sym is) ∙ sym c.nodes_of-below.ensures in
    let some : is_typar_line p ≡ true = sym (c.is_typar_line.ensures p made below) ∙ c.if-is_typar_line.true in
    let number = c.in_ok-number.ensures s p x.reads below some (line_ranged s p some h) few in
    let run : ArePieces c.args.nodes.now c.run_of.result.now (take_while is_custom ps) =
    subst (λ xs. ArePieces c.args.nodes.now xs (take_while is_custom ps)) (sym c.run_of.ensures) (run_pieces c.args.nodes.now c.args.more.now ps are) in
    let customs = c.in_ok-customs.ensures s a x (take_while is_custom ps) run (run_items s ps each) in
    IfOk-equal c.append_to.result _ _ _ c.append_to.ensures
    (ap (appended c.args.given.now.items c.in_ok-number.number) customs
    ∙ capped_same c.args.given.now.items (typar_number s c.args.names.now p.below) c.in_ok-number.number (attributes s a (take_while is_custom ps)) small number
    ∙ ap (λ (b : Bool). if b then appended c.args.given.now.items (typar_number s c.args.names.now p.below) (attributes s a (take_while is_custom ps)) else c.args.given.now.items) (sym some))

pub returns-else-is_typar_line : goal.returns-else-is_typar_line
returns-else-is_typar_line c s a x p ps is are h each few small =
    let made = ap (λ (w : ℕ × List TreeNode). w.0) is in
    let below : preorder p.below ≡ c.nodes_of-below.result.now = ap (λ (w : ℕ × List TreeNode). w.1) (sym is) ∙ sym c.nodes_of-below.ensures in
    let none : is_typar_line p ≡ false = sym (c.is_typar_line.ensures p made below) ∙ c.if-is_typar_line.false in
    sym (ap (λ (b : Bool). if b then appended c.args.given.now.items (typar_number s c.args.names.now p.below) (attributes s a (take_while is_custom ps)) else c.args.given.now.items) none)
