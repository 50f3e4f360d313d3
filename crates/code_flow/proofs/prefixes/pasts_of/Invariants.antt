use Rattle.std.proofs.Common.{◌≡◌, ℕ, ◌+◌, ◌<◌, length, Some}
use Rattle.std.specs.Prelude.{slice_get}
use Rattle.assembly_tree.specs.declared.body.Ins.{Ins}
use Rattle.code_flow.specs.Marks.{IsPast}
use Rattle.code_flow.proofs.prefixes.pasts_of.Given as goal

abbrev pub invariant-loop-k : goal.invariant-loop-k
invariant-loop-k l = record {
  count : length l.places ≡ l.k;
  each : (m : ℕ) (i : Ins) (j : ℕ) → m < l.k → slice_get l.code m ≡ Some i → slice_get l.places m ≡ Some j → IsPast l.code m j;
  known : (j : ℕ) → j + 1 ≡ l.k → IsPast l.code j l.known;
  first : l.k ≡ 0 → l.known ≡ 0;
}
