use Rattle.std.proofs.Common.{inl, inr}
use Rattle.row_demands.proofs.Tables.{none_past}
use Rattle.signature_demands.proofs.Rows.{vacuous}
use Rattle.signature_demands.proofs.signatures.SignaturesDemand.others_meet.Goals as goal

pub returns : goal.returns
returns g c = λ table row past.
    let image = c.args.self.now.all.now.image.now in
    vacuous image (g.O.Owners.facts c.args.self.now.all.now.owners.now) row table (none_past image c.tables-tables.ensures.meets table row (elim past [ inl far ↦ inl far | inr p ↦ inr p.0 ]))
