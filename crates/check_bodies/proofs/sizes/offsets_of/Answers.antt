use Rattle.std.proofs.Common.{◌≡◌, ℕ, ◌+◌, ◌*◌, ◌≤◌, length, ap, sym, subst, ◌∙◌, arith}
use Rattle.assembly_tree.specs.WellFormedBodies.{size_of}
use Rattle.std.specs.Prelude.{min}
use Rattle.source_model.specs.Forest.{Part}
use Rattle.source_model.specs.Instructions.{instructions_of}
use Rattle.source_model.specs.Operands.{instruction}
use Rattle.source_nodes.proofs.PieceLemmas.{as_many, part_read}
use Rattle.check_bodies.specs.Sizes.{offsets_from}
use Rattle.check_bodies.proofs.OffsetLemmas.{after, after_next, code_sizes, last_offset, next_at, next_sum, one_offset}
use Rattle.check_bodies.proofs.SizeLemmas.{code_small}
use Rattle.check_bodies.proofs.sizes.offsets_of.Goals as goal

pub size_of-requires : goal.size_of-requires
size_of-requires c =
    let m = part_read c.args.nodes.now c.args.pieces.now c.requires.0 c.loop-piece.piece-index _ c.requires.1 c.loop-piece-test.true in
    (m.of.below, m.below ∙ sym c.nodes_of-below.ensures)

pub loop-piece-preserved : goal.loop-piece-preserved
loop-piece-preserved c s a f r e are =
    let ps = instructions_of f in
    let i = c.loop-piece.piece-index in
    let m = part_read c.args.nodes.now c.args.pieces.now ps i _ are c.loop-piece-test.true in
    let size : Part → ℕ = λ p. size_of (instruction s a f p) in
    let was = c.loop-piece.invariant s a f r e are in
    let one = c.in_ok-size.ensures s a f m.of r (sym m.production) (m.below ∙ sym c.nodes_of-below.ensures) in
    let next = after_next size ps i m.of m.at in
    let small = subst (λ n. after size ps 0 ≤ 14 * n) (ap length e) (code_small s a f) in
    let fits : c.past_most.result ≤ 18446744073709551615 = omega (arith, c.past_most.type_inv) in
    let sum : c.saturating_add-at.result ≡ c.loop-piece.at + size m.of =
    next_at c.loop-piece.at (size m.of) (after size ps (i + 1)) (after size ps 0) (length c.args.nodes.now) c.past_most.result 18446744073709551615 c.saturating_add-at.result
    (subst (λ n. c.saturating_add-at.result ≡ min (c.loop-piece.at + n) 18446744073709551615) one c.saturating_add-at.ensures)
    (ap (λ n. c.loop-piece.at + n) (sym next) ∙ was.1) small c.past_most.ensures fits in (
      one_offset size ps i c.loop-piece.at c.saturating_add-at.result m.of c.loop-piece.offsets c.push.new.self m.at c.in_ok-push.ensures.ok sum ∙ was.0,
      next_sum c.loop-piece.at (size m.of) (after size ps (i + 1)) (after size ps 0) c.saturating_add-at.result (after size ps i) sum next was.1,
    )

pub returns : goal.returns
returns c s a f r e are =
    let ps = instructions_of f in
    let i = c.loop-piece.piece-index in
    let size : Part → ℕ = λ p. size_of (instruction s a f p) in
    let many = as_many c.args.nodes.now c.args.pieces.now ps are in
    let over : length ps ≤ i = omega (arith, many, c.loop-piece-test.false) in
    let was = c.loop-piece.invariant s a f r e are in
    last_offset size ps i c.loop-piece.at c.loop-piece.offsets c.push-2.new.self over c.in_ok-push-2.ensures.ok
    ∙ was.0 ∙ ap (offsets_from 0) (sym (code_sizes s a f))
