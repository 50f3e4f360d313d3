use Rattle.std.proofs.Common.{◌+◌, ◌≤◌, drop, length, sym, ◌∙◌, ap, arith}
use Rattle.std.specs.List.{enumerate_from, flat_map}
use Rattle.source_model.specs.Instructions.{instruction_forms, instructions_of}
use Rattle.source_nodes.specs.Least.{least, sooner}
use Rattle.source_syntax.proofs.LabelTokens.{IsFit, parts_fit}
use Rattle.source_syntax.proofs.MethodLemmas.{all_at}
use Rattle.source_nodes.proofs.PieceLemmas.{as_many, part_read}
use Rattle.check_bodies.proofs.CodeLemmas.{none_left, one_further}
use Rattle.check_bodies.proofs.instruction_rules.first_in_code.Goals as goal

pub first-requires : goal.first-requires
first-requires g c =
    let m = part_read c.args.nodes.now c.args.code.now c.requires.0 c.loop-k.k _ c.requires.1 c.loop-k-test.true in
    (m.of.below, m.below ∙ sym c.nodes_of-below.ensures)

pub loop-k-preserved : goal.loop-k-preserved
loop-k-preserved g c s n r bodies knows are =
    let broken = g.R.InstructionRule.broken c.args.rule.now s n in
    let k = c.loop-k.k in
    let ps = instructions_of n.below in
    let m = part_read c.args.nodes.now c.args.code.now ps k _ are c.loop-k-test.true in
    let fit = all_at (IsFit s instruction_forms) ps k m.of (parts_fit s instruction_forms n.below bodies) m.at in
    ap (λ o. sooner o (least (flat_map broken (enumerate_from (k + 1) (drop (k + 1) ps))))) c.sooner-found.ensures
    ∙ one_further broken ps k m.of c.loop-k.found c.in_ok-here.here m.at
    (c.in_ok-here.ensures s n m.of r knows (record {
      at = m.at;
      production-is = sym m.production;
      below-is = m.below ∙ sym c.nodes_of-below.ensures;
      fits = fit.fits;
      bodies = fit.bodies;
    }))
    ∙ c.loop-k.invariant s n r bodies knows are

pub returns : goal.returns
returns g c s n r bodies knows are =
    let broken = g.R.InstructionRule.broken c.args.rule.now s n in
    let ps = instructions_of n.below in
    let many = as_many c.args.nodes.now c.args.code.now ps are in
    let over : length ps ≤ c.loop-k.k = omega (arith, many, c.loop-k-test.false) in
    none_left broken ps c.loop-k.k c.loop-k.found over ∙ c.loop-k.invariant s n r bodies knows are
