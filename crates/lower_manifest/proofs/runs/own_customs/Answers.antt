use Rattle.std.proofs.Common.{◌≤◌, length, subst, sym, arith}
use Rattle.std.specs.Prelude.{false}
use Rattle.source_model.specs.Items.{own_customs}
use Rattle.source_nodes.specs.Pieces.{ArePieces}
use Rattle.lower_manifest.proofs.RunLemmas.{all_taken, outside_is}
use Rattle.lower_manifest.proofs.runs.own_customs.Goals as goal

pub returns : goal.returns
returns c nodes ps e =
    let over : length c.args.found.now ≤ c.loop-piece.piece-index = omega (arith, c.loop-piece-test.false) in
    let is = all_taken c.args.found.now c.loop-piece.piece-index c.loop-piece.own c.loop-piece.in_run over c.loop-piece.invariant in
    subst (λ own. ArePieces nodes own (own_customs ps)) (sym is) (outside_is nodes false c.args.found.now ps e)
