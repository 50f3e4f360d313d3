use Rattle.std.proofs.Common.{◌≡◌, ℕ, ◌≤◌, Some}
use Rattle.std.specs.Prelude.{slice_get}
use Rattle.assembly_tree.specs.declared.assembly.ExternAssembly.{ExternAssembly}
use Rattle.print_terms.specs.Chains.{HasHash}
use Rattle.print_terms.specs.Names.{name_hash, IsTwin}
use Rattle.print_terms.proofs.Chains.{ahead_of}
use Rattle.print_terms.proofs.repeats.is_repeated.Given as goal

abbrev pub invariant-loop-at : goal.invariant-loop-at
invariant-loop-at l = record {
  hashed : (m : ℕ) → l.at ≡ Some m → HasHash name_hash l.externs m (name_hash l.e);
  ahead : (j : ℕ) (c : ExternAssembly) → IsTwin l.externs l.number j l.e c → (m : ℕ) × (l.at ≡ Some m) × (j ≤ m);
}

abbrev pub decreases-loop-at : goal.decreases-loop-at
decreases-loop-at l = ahead_of l.at
