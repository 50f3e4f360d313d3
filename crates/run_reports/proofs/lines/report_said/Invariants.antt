use Rattle.std.proofs.Common.{◌≡◌, take}
use Rattle.std.specs.List.{flat_map}
use Rattle.print_leaves.specs.Page.{added, blank}
use Rattle.run_reports.specs.Texts.{failure_text}
use Rattle.run_reports.proofs.lines.report_said.Given as goal

abbrev pub invariant-loop-failure : goal.invariant-loop-failure
invariant-loop-failure l = l.paper ≡ added blank (flat_map (failure_text l.a) (take l.failure-index l.report))
