use Rattle.std.proofs.Common.{subst, ℕ}
use Rattle.type_order.specs.Found.{Puts}
use Rattle.type_order.proofs.FoundLemmas.{noted_standing}
use Rattle.type_order.proofs.found.note_standing.Goals as goal

pub returns : goal.returns
returns c = λ w ns known standing.
    noted_standing w ns c.args.found.now c.put_at.new.list c.args.id c.args.standing known standing
    (subst (λ (p : ℕ). Puts c.args.found.now.standings c.put_at.new.list p c.args.standing) c.place.ensures c.put_at.ensures)
