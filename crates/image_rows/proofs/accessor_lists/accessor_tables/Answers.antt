use Rattle.std.proofs.Common.{ap, ℕ, ◌+◌}
use Rattle.image_rows.proofs.AccessLemmas.{accessors_listed}
use Rattle.image_rows.proofs.OwnedLemmas.{next}
use Rattle.image_rows.proofs.accessor_lists.accessor_tables.Goals as goal

pub returns : goal.returns
returns c =
    accessors_listed c.args.a.now c.args.classes.now c.push-2.new.self c.in_ok-events.events c.in_ok-properties.properties (c.len.result + 1)
    (next _ (next _ c.new-tables.ensures c.in_ok-push.ensures.ok) c.in_ok-push-2.ensures.ok) (ap (λ (n : ℕ). n + 1) c.len.ensures) c.in_ok-events.ensures c.in_ok-properties.ensures
