use Rattle.std.proofs.Common.{◌≤◌, ap, sym, ◌∙◌, arith, length}
use Rattle.std.specs.List.{flat_map, list_all}
use Rattle.il_lexer.specs.declared.types.TokenKind.TheVariants.{Name}
use Rattle.source_model.specs.Instructions.{targets}
use Rattle.source_nodes.specs.Readers.{IsOf}
use Rattle.source_nodes.proofs.PieceLemmas.{all_taken, part_read}
use Rattle.check_bodies.specs.KnownNames.{is_label_of}
use Rattle.check_bodies.proofs.KnownLemmas.{all_next, part_all}
use Rattle.check_bodies.proofs.known_names.all_lead_to.Goals as goal

pub leads_to-requires : goal.leads_to-requires
leads_to-requires c =
    let m = part_read c.args.nodes.now c.args.code.now c.requires.0 c.loop-k.k _ c.requires.1 c.loop-k-test.true in
    (m.of.below, m.below ∙ sym c.nodes_of-below.ensures)

pub loop-k-preserved : goal.loop-k-preserved
loop-k-preserved c s ps r names are targeted =
    let m = part_read c.args.nodes.now c.args.code.now ps c.loop-k.k _ are c.loop-k-test.true in
    all_next (is_label_of s c.args.labels.now) targets ps c.loop-k.k m.of m.at (c.loop-k.invariant s ps r names are targeted)
    (c.leads_to.ensures s m.of r names (sym m.production) (m.below ∙ sym c.nodes_of-below.ensures)
    (part_all (IsOf s Name) targets ps c.loop-k.k m.of targeted m.at) c.if-not-leads_to.false)

pub returns : goal.returns
returns c s ps r names are targeted is =
    let over : length c.args.code.now ≤ c.loop-k.k = omega (arith, c.loop-k-test.false) in
    ap (λ qs. list_all (is_label_of s c.args.labels.now) (flat_map targets qs)) (sym (all_taken c.args.nodes.now c.args.code.now ps c.loop-k.k are over))
    ∙ c.loop-k.invariant s ps r names are targeted
