use Rattle.std.proofs.Common.{◌≡◌, ◌≤◌, ◌++◌, ℕ, List, [], ◌∷◌, length}
use Rattle.assembly_tree.specs.declared.body.Ins.{Ins}
use Rattle.body_codec.specs.Chains.{Drafts, FirstOf, IsDraft, IsLatest, count_to, from_on}
use Rattle.body_codec.specs.Encoding.{offset}
use Rattle.body_codec.proofs.encoding.draft.Draft.begin.Given as goal

abbrev pub invariant-loop-waiting : goal.invariant-loop-waiting
invariant-loop-waiting l = record {
  offsets : l.self.offsets ≡ l.fn.self.offsets ++ length l.fn.self.bytes ∷ [];
  latest : l.self.latest ≡ l.fn.self.latest;
  sites : l.self.sites ≡ l.fn.self.sites;
  count : length l.self.bytes ≡ length l.fn.self.bytes;
  waits : (n : ℕ) × (n ≤ length l.fn.self.sites) × IsLatest l.fn.self.sites (length l.fn.self.offsets) n l.waiting;
  draft : (code : List Ins) (want : List ℕ) → IsDraft (from_on (length l.fn.self.offsets)) code (length l.fn.self.offsets) want l.fn.self
      → length want ≡ offset code (length l.fn.self.offsets)
      → Drafts (FirstOf (length l.fn.self.offsets) (count_to l.waiting)) code (length l.fn.self.offsets) want l.self.bytes l.fn.self.sites l.self.offsets l.self.far (length l.fn.self.latest);
}

abbrev pub decreases-loop-waiting : goal.decreases-loop-waiting
decreases-loop-waiting l = count_to l.waiting
