use Rattle.std.proofs.Common.{◌≡◌, ℕ, ◌≤◌, Some}
use Rattle.std.specs.Prelude.{slice_get}
use Rattle.source_nodes.specs.Chains.{HasHash}
use Rattle.source_nodes.specs.ChainedTexts.{texts_in}
use Rattle.source_nodes.specs.TextHash.{text_hash}
use Rattle.source_nodes.proofs.ChainLemmas.{ahead_of}
use Rattle.source_nodes.proofs.chained_names.ChainedNames.find.Given as goal

abbrev pub invariant-loop-at : goal.invariant-loop-at
invariant-loop-at l = record {
  hashed : (m : ℕ) → l.at ≡ Some m → HasHash text_hash (texts_in l.self-inside.texts l.self-inside.names) m (text_hash l.text);
  ahead : (k : ℕ) → slice_get (texts_in l.self-inside.texts l.self-inside.names) k ≡ Some l.text → (m : ℕ) × (l.at ≡ Some m) × (k ≤ m);
}

abbrev pub decreases-loop-at : goal.decreases-loop-at
decreases-loop-at l = ahead_of l.at
