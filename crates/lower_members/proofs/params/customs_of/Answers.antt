use Rattle.std.proofs.Common.{ap, sym, subst, ◌∙◌}
use Rattle.std.specs.Prelude.{take_while}
use Rattle.std.proofs.lemmas.Result.{IfOk-weaker}
use Rattle.source_model.specs.Items.{is_custom}
use Rattle.source_model.specs.Manifests.{attributes}
use Rattle.source_nodes.specs.Pieces.{ArePieces}
use Rattle.lower_members.proofs.FieldLemmas.{run_pieces}
use Rattle.lower_members.proofs.ItemEnds.{run_items}
use Rattle.lower_members.proofs.ParamRows.{body_ranged}
use Rattle.lower_members.proofs.params.customs_of.Goals as goal

pub attributes-requires-clause-parts : goal.attributes-requires-clause-parts
attributes-requires-clause-parts c =
    let ps = c.requires.line.1.0 in
    (take_while is_custom ps, subst (λ xs. ArePieces c.args.nodes.now xs (take_while is_custom ps)) (sym c.run_of.ensures) (run_pieces c.args.nodes.now c.args.line.more.now ps c.requires.line.1.1))

pub returns : goal.returns
returns c s a x r run =
    let ps = run.behind in
    let are : ArePieces c.args.nodes.now c.run_of.result.now (take_while is_custom ps) =
    subst (λ xs. ArePieces c.args.nodes.now xs (take_while is_custom ps)) (sym c.run_of.ensures) (run_pieces c.args.nodes.now c.args.line.more.now ps run.are) in
    IfOk-weaker c.attributes.result _ _ (λ all same. same ∙ ap (attributes s a) (sym run.customs))
    (c.attributes.ensures s a x (take_while is_custom ps) are (run_items s ps (body_ranged s ps run.each)))
