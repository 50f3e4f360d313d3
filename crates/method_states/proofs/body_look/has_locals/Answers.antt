use Rattle.std.proofs.lemmas.Bool.{false≢true}
use Rattle.method_states.proofs.Looking.{locals_row, locals_other}
use Rattle.method_states.proofs.body_look.has_locals.Goals as goal

pub returns-then-table-eq17 : goal.returns-then-table-eq17
returns-then-table-eq17 c = locals_row c.args.image.now c.args.token c.has_row.result c.if-token-eq0.false c.if-table-eq17.true c.has_row.ensures

pub returns : goal.returns
returns c = (λ t. absurd (false≢true t), λ l. absurd (locals_other c.args.image.now c.args.token c.if-token-eq0.false c.if-table-eq17.false l))
