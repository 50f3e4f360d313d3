use Rattle.std.proofs.Common.{◌≡◌, ◌+◌, ◌*◌, ◌++◌, ℕ, List, length, take}
use Rattle.assembly_tree.specs.declared.body.Ins.{Ins}
use Rattle.body_codec.specs.Chains.{IsDraft, IsKept, IsLinked, from_on, offsets_of}
use Rattle.body_codec.specs.Written.{number_bytes, target_bytes}
use Rattle.body_codec.proofs.encoding.draft.Draft.push_switch.Given as goal

abbrev pub invariant-loop-to : goal.invariant-loop-to
invariant-loop-to l = record {
  linked : IsLinked l.self;
  kept : IsKept l.fn.self l.self;
  count : length l.self.bytes ≡ length l.fn.self.bytes + 4 + 4 * l.to-index;
  draft : (code : List Ins) (done : ℕ) (want : List ℕ) → IsDraft (from_on (length l.fn.self.offsets)) code done want l.fn.self
      → IsDraft (from_on (length l.fn.self.offsets)) code done (want ++ (number_bytes 4 (length l.targets) ++ target_bytes (offsets_of code) l.end (take l.to-index l.targets))) l.self;
}
