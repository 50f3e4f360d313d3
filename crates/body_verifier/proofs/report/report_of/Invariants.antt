use Rattle.std.proofs.Common.{◌≡◌, ◌≤◌, length, map, take, drop}
use Rattle.assembly_tree.specs.declared.body.Body.{Body}
use Rattle.assembly_tree.specs.WellFormedBodies.{offset_of}
use Rattle.body_verifier.specs.Finding.{RisesWithin}
use Rattle.body_verifier.specs.Reports.{reported}
use Rattle.body_verifier.proofs.report.report_of.Given as goal

abbrev pub invariant-loop-next : goal.invariant-loop-next
invariant-loop-next l = record {
  known : l.known ≤ length l.code;
  offset : l.offset ≡ offset_of l.code l.known;
  rising : RisesWithin l.code l.known (drop l.next-index l.broken);
  whole : (b : Body) → b.code ≡ l.code → l.report ≡ map (reported l.at b) (take l.next-index l.broken);
}
