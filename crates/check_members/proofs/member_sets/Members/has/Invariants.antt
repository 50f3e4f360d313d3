use Rattle.std.proofs.Common.{◌≡◌, ℕ, ◌≤◌, Some}
use Rattle.std.specs.Prelude.{slice_get}
use Rattle.source_nodes.specs.Chains.{HasHash}
use Rattle.source_nodes.proofs.ChainLemmas.{ahead_of}
use Rattle.check_members.specs.MemberHashes.{member_hash}
use Rattle.check_members.proofs.member_sets.Members.has.Given as goal

abbrev pub invariant-loop-at : goal.invariant-loop-at
invariant-loop-at l = record {
  hashed : (m : ℕ) → l.at ≡ Some m → HasHash member_hash l.self-inside.members m (member_hash l.member);
  ahead : (k : ℕ) → slice_get l.self-inside.members k ≡ Some l.member → (m : ℕ) × (l.at ≡ Some m) × (k ≤ m);
}

abbrev pub decreases-loop-at : goal.decreases-loop-at
decreases-loop-at l = ahead_of l.at
