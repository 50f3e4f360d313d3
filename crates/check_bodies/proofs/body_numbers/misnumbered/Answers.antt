use Rattle.std.proofs.Common.{◌+◌, ◌≤◌, ◌∷◌, [], drop, length, ap, sym, ◌∙◌, arith}
use Rattle.std.specs.List.{enumerate_from, flat_map}
use Rattle.ilasm_grammar.specs.declared.productions.TheConstants.{BRACKETED_INT_OPT_SOME}
use Rattle.source_model.specs.BodyNumbers.{local_misnumbered}
use Rattle.source_model.specs.Forest.{below_each, child}
use Rattle.source_nodes.specs.Least.{least, sooner}
use Rattle.source_nodes.proofs.NestingLemmas.{below_length}
use Rattle.source_nodes.proofs.PieceLemmas.{as_many, part_read}
use Rattle.check_bodies.proofs.BodyNumberLemmas.{below_at}
use Rattle.check_bodies.proofs.CodeLemmas.{none_left, one_further}
use Rattle.check_bodies.proofs.body_numbers.misnumbered.Goals as goal

pub child-number-requires : goal.child-number-requires
child-number-requires c =
    let m = part_read c.args.nodes.now c.args.found.now c.requires.0 c.loop-k.k _ c.requires.1 c.loop-k-test.true in
    (m.of.below, m.below ∙ sym c.nodes_of-local.ensures)

pub loop-k-preserved : goal.loop-k-preserved
loop-k-preserved c s ps r are =
    let k = c.loop-k.k in
    let fs = below_each ps in
    let m = part_read c.args.nodes.now c.args.found.now ps k _ are c.loop-k-test.true in
    let number = sym (c.child-number.ensures m.of.below (m.below ∙ sym c.nodes_of-local.ensures)) in
    ap (λ o. sooner o (least (flat_map (local_misnumbered s) (enumerate_from (k + 1) (drop (k + 1) fs))))) c.sooner-first.ensures
    ∙ one_further (local_misnumbered s) fs k m.of.below c.loop-k.first c.beyond_in_each-here.result (below_at ps k m.of m.at)
    (c.beyond_in_each-here.ensures s (child (BRACKETED_INT_OPT_SOME ∷ []) m.of.below) r number)
    ∙ c.loop-k.invariant s ps r are

pub returns : goal.returns
returns c s ps r are =
    let many = as_many c.args.nodes.now c.args.found.now ps are in
    let over : length (below_each ps) ≤ c.loop-k.k = omega (arith, many, below_length ps, c.loop-k-test.false) in
    none_left (local_misnumbered s) (below_each ps) c.loop-k.k c.loop-k.first over ∙ c.loop-k.invariant s ps r are

pub beyond_in_each-here-requires : goal.beyond_in_each-here-requires
beyond_in_each-here-requires c =
    let m = part_read c.args.nodes.now c.args.found.now c.requires.0 c.loop-k.k _ c.requires.1 c.loop-k-test.true in
    (child (BRACKETED_INT_OPT_SOME ∷ []) m.of.below, sym (c.child-number.ensures m.of.below (m.below ∙ sym c.nodes_of-local.ensures)))
