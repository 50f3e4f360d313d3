use Rattle.std.proofs.Common.{sym, subst}
use Rattle.source_model.specs.Bodies.{code}
use Rattle.source_model.specs.Instructions.{instructions_of}
use Rattle.source_nodes.specs.Pieces.{ArePieces}
use Rattle.check_bodies.specs.Sizes.{AreOffsets}
use Rattle.check_bodies.proofs.short_branches.ShortBranchesMethodRule.first.Goals as goal

pub returns : goal.returns
returns c s n r m e =
    let f = n.below in
    let ps = instructions_of f in
    let pieces = c.in_ok-code.ensures f e in
    let once = subst (λ xs. ArePieces c.args.below.now xs ps) (sym c.as_slice.ensures) pieces in
    let again = subst (λ xs. ArePieces c.args.below.now xs ps) (sym c.as_slice-2.ensures) pieces in
    let last = subst (λ xs. ArePieces c.args.below.now xs ps) (sym c.as_slice-4.ensures) pieces in
    let offsets = subst (λ xs. AreOffsets xs (code s n.around f)) (sym c.as_slice-3.ensures) (c.in_ok-offsets.ensures s n.around f r e again) in
    c.in_ok-first.ensures s n r m.bodies (c.in_ok-labels.ensures s n r m e once, offsets) last
