use Rattle.std.proofs.Common.{◌++◌, IsTrue, take, ap, sym, ◌∙◌, append_assoc, arith}
use Rattle.std.proofs.Math.Seq.{take-add}
use Rattle.run_endings.proofs.output.write_out.Goals as goal

pub loop-done-preserved : goal.loop-done-preserved
loop-done-preserved g c =
    let was = c.loop-done.invariant in
    let call = c.in_ok-count.ensures in
    let text = c.args.text.now in
    let done = c.loop-done.done in
    let count = c.in_ok-count.count in
    let before = g.C.Console.out_taken c.args.console.now in
    record {
      within = omega (arith, call.within, c.split_at.ensures.back_len, was.within);
      told = λ tells. let now : IsTrue (g.C.Console.tells c.loop-done.console) = rw was.same_tells tells in
          call.told now ∙ ap (λ taken. taken ++ take count c.split_at.result.1.now) (was.told tells)
          ∙ append_assoc before (take done text) (take count c.split_at.result.1.now)
          ∙ ap (λ rest. before ++ (take done text ++ take count rest)) c.split_at.ensures.back
          ∙ ap (λ front. before ++ front) (sym (take-add done count text));
      same_err = λ tells. let now : IsTrue (g.C.Console.tells c.loop-done.console) = rw was.same_tells tells in
          call.same_err now ∙ was.same_err tells;
      same_tells = call.same_tells ∙ was.same_tells;
      count_stays = omega (arith, call.count_stays, was.count_stays);
    }
