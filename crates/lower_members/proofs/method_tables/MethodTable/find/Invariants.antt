use Rattle.std.proofs.Common.{◌≡◌, ℕ, ◌≤◌, Some, map, reverse}
use Rattle.std.specs.Prelude.{slice_get}
use Rattle.source_nodes.specs.Chains.{HasHash}
use Rattle.source_nodes.proofs.ChainLemmas.{ahead_of}
use Rattle.lower_members.specs.MethodHashes.{signed_hash}
use Rattle.lower_members.specs.SignedMethods.{Signed, signed}
use Rattle.lower_members.proofs.method_tables.MethodTable.find.Given as goal

abbrev pub invariant-loop-at : goal.invariant-loop-at
invariant-loop-at l =
    let sought : Signed = record { name = l.name; sig = l.sig } in
    record {
      hashed : (m : ℕ) → l.at ≡ Some m → HasHash signed_hash (reverse (map signed l.self-inside.methods.now)) m (signed_hash sought);
      ahead : (k : ℕ) → slice_get (reverse (map signed l.self-inside.methods.now)) k ≡ Some sought → (m : ℕ) × (l.at ≡ Some m) × (k ≤ m);
    }

abbrev pub decreases-loop-at : goal.decreases-loop-at
decreases-loop-at l = ahead_of l.at
