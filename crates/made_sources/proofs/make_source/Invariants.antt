use Rattle.std.proofs.Common.{◌≡◌, ◌++◌}
use Rattle.made_sources.specs.Made.{heading, class_lines}
use Rattle.made_sources.proofs.make_source.Given as goal

abbrev pub invariant-loop-class : goal.invariant-loop-class
invariant-loop-class l = l.source ≡ heading ++ class_lines l.class
