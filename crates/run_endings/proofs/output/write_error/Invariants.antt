use Rattle.std.proofs.Common.{length, ◌-◌, ◌≡◌, ◌≤◌, ◌++◌, take, IsTrue}
use Rattle.run_endings.proofs.output.write_error.Given as goal

abbrev pub invariant-loop-done : goal.invariant-loop-done
invariant-loop-done g l = record {
  within : l.done ≤ length l.text;
  told : IsTrue (g.C.Console.tells l.fn.console) → g.C.Console.err_taken l.console ≡ g.C.Console.err_taken l.fn.console ++ take l.done l.text;
  same_out : IsTrue (g.C.Console.tells l.fn.console) → g.C.Console.out_taken l.console ≡ g.C.Console.out_taken l.fn.console;
  same_tells : g.C.Console.tells l.console ≡ g.C.Console.tells l.fn.console;
  count_stays : g.C.Console.failed l.fn.console ≤ g.C.Console.failed l.console;
}

abbrev pub decreases-loop-done : goal.decreases-loop-done
decreases-loop-done g l = length l.text - l.done
