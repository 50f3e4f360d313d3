use Rattle.std.proofs.Common.{[], ◌∷◌, ◌++◌, ap, sym, subst, ◌∙◌}
use Rattle.std.specs.List.{flat_map}
use Rattle.ilasm_grammar.specs.declared.productions.TheConstants.{NAMES}
use Rattle.source_model.specs.Forest.{Part, parts}
use Rattle.source_model.specs.Instructions.{names_in}
use Rattle.source_nodes.specs.Pieces.{ArePieces}
use Rattle.source_nodes.proofs.PieceLemmas.{all_taken, collected_below, flat_next, part_read}
use Rattle.source_syntax.proofs.labels.push_switch_names.Goals as goal

pub push_names-requires : goal.push_names-requires
push_names-requires c =
    let found = c.as_slice-list-items.result.now in
    let ps = parts (NAMES ∷ []) c.requires.0 in
    let are : ArePieces c.args.below.now found ps =
    subst (λ xs. ArePieces c.args.below.now xs ps) (sym c.as_slice-list-items.ensures) (c.in_ok-lists.ensures c.requires.0 c.requires.1) in
    let m = part_read c.args.below.now found ps c.loop-list.list-index _ are c.loop-list-test.true in
    (m.of.below, m.below ∙ sym c.nodes_of.ensures)

pub loop-list-preserved : goal.loop-list-preserved
loop-list-preserved c ps are =
    let m = part_read c.args.below.now c.as_slice-list-items.result.now ps c.loop-list.list-index _ are c.loop-list-test.true in
    c.in_ok-push_names.ensures m.of.below (m.below ∙ sym c.nodes_of.ensures)
    ∙ flat_next (λ (p : Part). names_in p.below) ps c.loop-list.list-index m.of c.args.tokens.now c.loop-list.tokens m.at (c.loop-list.invariant ps are)

pub returns : goal.returns
returns c f e =
    let found = c.as_slice-list-items.result.now in
    let ps = parts (NAMES ∷ []) f in
    let are : ArePieces c.args.below.now found ps =
    subst (λ xs. ArePieces c.args.below.now xs ps) (sym c.as_slice-list-items.ensures) (c.in_ok-lists.ensures f e) in
    c.loop-list.invariant ps are
    ∙ ap (λ xs. c.args.tokens.now ++ flat_map (λ (p : Part). names_in p.below) xs) (all_taken c.args.below.now found ps c.loop-list.list-index are c.loop-list-test.false)
    ∙ ap (λ xs. c.args.tokens.now ++ xs) (collected_below names_in ps)
