use Rattle.std.proofs.Common.{◌≡◌, ◌+◌, take, drop, []}
use Rattle.command_words.specs.Words.{misfit_behind}
use Rattle.command_words.proofs.FitLemmas.{AreFitting}
use Rattle.command_words.proofs.fitting.misfit.Given as goal

abbrev pub invariant-loop-k : goal.invariant-loop-k
invariant-loop-k l = record {
  number : l.number ≡ l.k + 2;
  fitting : AreFitting l.shape l.words l.k;
  goes : misfit_behind l.shape 2 [] l.words ≡ misfit_behind l.shape l.number (take l.k l.words) (drop l.k l.words);
}
