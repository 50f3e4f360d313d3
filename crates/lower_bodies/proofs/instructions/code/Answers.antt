use Rattle.std.proofs.Common.{◌≤◌, length, map, ap, sym, ◌∙◌, arith}
use Rattle.source_model.specs.Instructions.{instructions_of}
use Rattle.source_model.specs.Operands.{instruction}
use Rattle.source_nodes.proofs.PieceLemmas.{all_taken, map_next, part_read}
use Rattle.source_flags.proofs.Gathered.{few_below}
use Rattle.lower_bodies.proofs.InstructionLemmas.{code_is, one_in_range}
use Rattle.lower_bodies.proofs.instructions.code.Goals as goal

pub push_instruction-requires-clause-forest : goal.push_instruction-requires-clause-forest
push_instruction-requires-clause-forest c =
    let m = part_read c.args.nodes.now c.args.found.now c.requires.parts.0 c.loop-piece.piece-index _ c.requires.parts.1 c.loop-piece-test.true in
    (m.of.below, m.below ∙ sym c.nodes_of-below.ensures)

pub push_instruction-requires-clause-few : goal.push_instruction-requires-clause-few
push_instruction-requires-clause-few c = few_below c.args.nodes.now _ _ c.nodes_of-below.result.now c.nodes_of-below.ensures c.requires.few

pub loop-piece-preserved : goal.loop-piece-preserved
loop-piece-preserved c s a f x h are =
    let ps = instructions_of f in
    let i = c.loop-piece.piece-index in
    let m = part_read c.args.nodes.now c.args.found.now ps i _ are c.loop-piece-test.true in
    c.in_ok-push_instruction.ensures s a f m.of x m.production (m.below ∙ sym c.nodes_of-below.ensures) (one_in_range s f h i m.of m.at)
    ∙ map_next (instruction s a f) ps i m.of c.loop-piece.all m.at (c.loop-piece.invariant s a f x h are)

pub returns : goal.returns
returns c s a f x h are =
    let ps = instructions_of f in
    let over : length c.args.found.now ≤ c.loop-piece.piece-index = omega (arith, c.loop-piece-test.false) in
    c.loop-piece.invariant s a f x h are ∙ ap (map (instruction s a f)) (all_taken c.args.nodes.now c.args.found.now ps c.loop-piece.piece-index are over)
    ∙ code_is s a f
