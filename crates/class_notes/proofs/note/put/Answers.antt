use Rattle.std.proofs.Common.{◌≡◌, ◌∙◌, subst, ℕ, slice_get, Some, OnOk}
use Rattle.type_order.specs.Found.{Puts}
use Rattle.class_notes.proofs.note.put.Goals as goal

pub returns-clause-puts : goal.returns-clause-puts
returns-clause-puts c = subst (λ (p : ℕ). Puts c.args.notes.now c.put_at.new.list p c.args.note) (c.place.ensures ∙ c.id.ensures) c.put_at.ensures.puts

pub returns-clause-there : goal.returns-clause-there
returns-clause-there c =
    subst (λ (p : ℕ). OnOk c.put_at.result (slice_get c.put_at.new.list p ≡ Some (Some c.args.note))) (c.place.ensures ∙ c.id.ensures) c.put_at.ensures.there
