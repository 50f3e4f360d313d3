use Rattle.std.proofs.Common.{◌≡◌, ℕ, Option, Some, sym, ap, ◌∙◌}
use Rattle.signature_demands.proofs.Rows.{names_member, names_defined, names_none}
use Rattle.signature_demands.proofs.named.names_method.Goals as goal

abbrev pair : ℕ → ℕ → Option (ℕ × ℕ)
pair table row = Some (table, row)

pub returns-in-None : goal.returns-in-None
returns-in-None g c = names_none c.args.all.now.image.now (g.O.Owners.facts c.args.all.now.owners.now) 0 c.args.value (sym c.in-None.ensures.value)

pub is_called-requires : goal.is_called-requires
is_called-requires g c = c.requires c.in-Some.row (sym c.in-Some.ensures.value ∙ ap (λ (t : ℕ). pair t c.in-Some.row) c.if-table-eq10.true)

pub returns-then-table-eq10 : goal.returns-then-table-eq10
returns-then-table-eq10 g c =
    names_member c.args.all.now.image.now (g.O.Owners.facts c.args.all.now.owners.now) 0 c.is_called.result c.args.value c.in-Some.table c.in-Some.row (sym c.in-Some.ensures.value) c.if-table-eq10.true c.is_called.ensures

pub returns-else-table-eq10 : goal.returns-else-table-eq10
returns-else-table-eq10 g c = names_defined c.args.all.now.image.now (g.O.Owners.facts c.args.all.now.owners.now) 0 c.args.value c.in-Some.table c.in-Some.row (sym c.in-Some.ensures.value) c.if-table-eq10.false
