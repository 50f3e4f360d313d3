use Rattle.std.proofs.Common.{ℕ, ◌+◌, ◌∙◌, ap}
use Rattle.row_weights.specs.Rows.{known}
use Rattle.row_weights.proofs.Telling.{field_def}
use Rattle.row_weights.proofs.members.Members.field.Goals as goal

pub returns : goal.returns
returns g c =
    field_def (known c.args.self.now.image.now c.args.self.now.names.now.weights (g.O.Owners.facts c.args.self.now.signatures.now.owners.now)) c.requires.known c.args.row c.field_owner.result c.reference.result c.text_at-name.result c.field_type.result
    c.requires.there c.field_owner.ensures c.text_at-name.ensures c.field_type.ensures
    (c.reference.ensures ∙ ap (λ (o : ℕ). 64 + o + c.text_at-name.result + c.field_type.result) c.of_type-owner.ensures)
