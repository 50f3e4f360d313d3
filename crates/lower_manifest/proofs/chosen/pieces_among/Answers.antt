use Rattle.std.proofs.Common.{◌≤◌, length, subst, sym, arith}
use Rattle.lower_manifest.specs.Chosen.{are_of}
use Rattle.lower_manifest.proofs.Among.{all_chosen, chosen_are}
use Rattle.source_nodes.specs.Pieces.{ArePieces}
use Rattle.lower_manifest.proofs.chosen.pieces_among.Goals as goal

pub returns : goal.returns
returns c nodes ps e =
    let over : length c.args.found.now ≤ c.loop-piece.piece-index = omega (arith, c.loop-piece-test.false) in
    let is = all_chosen c.args.kind c.args.found.now c.loop-piece.piece-index c.loop-piece.some over c.loop-piece.invariant in
    subst (λ some. ArePieces nodes some (are_of c.args.kind ps)) (sym is) (chosen_are nodes c.args.kind c.args.found.now ps e)
