use Rattle.std.proofs.Common.{◌≡◌, ℕ, ◌≤◌, Some}
use Rattle.std.specs.Prelude.{slice_get}
use Rattle.source_nodes.specs.Chains.{HasHash}
use Rattle.source_nodes.specs.NameTexts.{id_with}
use Rattle.source_syntax.specs.ClassNumbers.{class_hash, class_of}
use Rattle.source_syntax.specs.ClassTexts.{classes_in}
use Rattle.source_nodes.proofs.ChainLemmas.{ahead_of}
use Rattle.source_syntax.proofs.class_paths.ClassPaths.child_named.Given as goal

abbrev pub invariant-loop-at : goal.invariant-loop-at
invariant-loop-at l = record {
  hashed : (m : ℕ) → l.at ≡ Some m → HasHash class_hash (classes_in l.self-inside.texts l.self-inside.classes) m (class_hash (class_of l.outer (id_with l.space l.name)));
  ahead : (k : ℕ) → slice_get (classes_in l.self-inside.texts l.self-inside.classes) k ≡ Some (class_of l.outer (id_with l.space l.name))
      → (m : ℕ) × (l.at ≡ Some m) × (k ≤ m);
}

abbrev pub decreases-loop-at : goal.decreases-loop-at
decreases-loop-at l = ahead_of l.at
