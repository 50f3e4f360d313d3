use Rattle.std.proofs.Common.{drop}
use Rattle.image_rows.specs.OverrideRows.{overrides}
use Rattle.image_members.proofs.KindLemmas.{Pushing}
use Rattle.image_rows.proofs.OverrideLemmas.{override_kind}
use Rattle.image_rows.proofs.override_rows.push_overrides.Given as goal

abbrev pub invariant-loop-method : goal.invariant-loop-method
invariant-loop-method l = Pushing override_kind l.initial.refs l.refs l.initial.rows l.rows (overrides l.of l.body l.methods) (overrides l.of l.body (drop l.method-index l.methods))
