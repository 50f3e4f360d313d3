use Rattle.std.proofs.Common.{ℕ, ◌+◌, ◌∙◌, ap}
use Rattle.row_weights.specs.Rows.{known}
use Rattle.row_weights.proofs.Telling.{method_def}
use Rattle.row_weights.proofs.members.Members.method.Goals as goal

pub returns : goal.returns
returns g c =
    method_def (known c.args.self.now.image.now c.args.self.now.names.now.weights (g.O.Owners.facts c.args.self.now.signatures.now.owners.now)) c.requires.known c.args.row c.method_owner.result c.reference.result c.text_at-name.result c.signature.result
    c.requires.there c.method_owner.ensures c.text_at-name.ensures c.signature.ensures
    (c.reference.ensures ∙ ap (λ (o : ℕ). 64 + o + c.text_at-name.result + c.signature.result) c.of_type-owner.ensures)
