use Rattle.std.proofs.Common.{IsTrue, Some, ap, ◌∙◌, arith}
use Rattle.run_endings.proofs.FrontLemmas.{front_grows}
use Rattle.run_endings.proofs.output.append_all.Goals as goal

pub loop-done-preserved : goal.loop-done-preserved
loop-done-preserved g c =
    let was = c.loop-done.invariant in
    let call = c.in_ok-count.ensures in
    record {
      within = omega (arith, call.within, c.split_at.ensures.back_len, was.within);
      told = λ tells. let now : IsTrue (g.S.Shelf.tells c.loop-done.shelf) = rw was.same_tells tells in
          call.told now ∙ ap Some (front_grows _ c.args.bytes.now _ c.loop-done.done c.in_ok-count.count (was.told tells) c.split_at.ensures.back);
      others = λ tells other differs. let now : IsTrue (g.S.Shelf.tells c.loop-done.shelf) = rw was.same_tells tells in
          call.others now other differs ∙ was.others tells other differs;
      same_tells = call.same_tells ∙ was.same_tells;
      writes_stay = omega (arith, call.writes_stay, was.writes_stay);
      same_reads = call.same_reads ∙ was.same_reads;
    }
