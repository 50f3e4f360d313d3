use Rattle.std.proofs.Common.{drop}
use Rattle.image_rows.proofs.OverrideLemmas.{OverridesTo}
use Rattle.image_rows.proofs.override_rows.push_all_overrides.Given as goal

abbrev pub invariant-loop-method : goal.invariant-loop-method
invariant-loop-method l = OverridesTo l.initial.refs l.refs l.initial.rows l.rows l.place l.methods (drop l.method-index l.methods)
