use Rattle.std.proofs.Common.{◌≡◌, drop}
use Rattle.code_flow.specs.Marks.{marked_code}
use Rattle.code_flow.proofs.marks.mark_targets.Given as goal

abbrev pub invariant-loop-ins : goal.invariant-loop-ins
invariant-loop-ins l = marked_code l.marks.items (drop l.ins-index l.code) ≡ marked_code l.initial.marks.items l.code
