use Rattle.std.proofs.Common.{subst, ℕ}
use Rattle.type_order.specs.Found.{Puts}
use Rattle.type_order.proofs.FoundLemmas.{noted_led}
use Rattle.type_order.proofs.found.note_led.Goals as goal

pub returns : goal.returns
returns c = λ w ns known led.
    noted_led w ns c.args.found.now c.put_at.new.list c.args.id c.args.led known led (subst (λ (p : ℕ). Puts c.args.found.now.led c.put_at.new.list p c.args.led) c.place.ensures c.put_at.ensures)
