use Rattle.std.proofs.Common.{◌≡◌, length, get_or, set, sym, ap, ◌∙◌, arith}
use Rattle.std.proofs.lemmas.List.{length-set, length_push}
use Rattle.metadata_tables.specs.Encoding.{rows_of, AddsRow}
use Rattle.metadata_tables.proofs.AddedRows.{table_known, table_there, added_at, rows_at, rows_of-set, are_rows, alike}
use Rattle.metadata_tables.proofs.rows.Rows.push.Goals as goal
use Rattle.metadata_tables.proofs.rows.Rows.push.Goals.{In_ok-push, After-index-self-from}

pub listed : goal.listed
listed c =
    table_there c.self.inside.tables c.from.result c.args.table c.self.invariant c.from.ensures c.requires.cells.known

pub bounds-self-inside-from : goal.bounds-self-inside-from
bounds-self-inside-from c = let k = table_known c.args.table c.requires.cells.known in omega (arith, k)

-- the table's rows, as they were
rows_were : (c : After-index-self-from) → get_or c.self.inside.tables c.from.result c.index-self-from.result ≡ rows_of c.args.self.now c.args.table
rows_were c =
    rows_at c.self.inside.tables c.args.self.now c.from.result c.args.table c.index-self-from.result c.self.view_is c.from.ensures (table_there c.self.inside.tables c.from.result c.args.table c.self.invariant c.from.ensures c.requires.cells.known)

pub push-requires-clause-room : goal.push-requires-clause-room
push-requires-clause-room c = let e = ap length (rows_were (goal.at.push-requires-clause-room c).After-index-self-from) in omega (arith, e, c.requires.room)

pub push-requires-clause-alike : goal.push-requires-clause-alike
push-requires-clause-alike c =
    let e = rows_were (goal.at.push-requires-clause-alike c).After-index-self-from in
    rw e (alike c.args.self.now c.args.table (length c.args.cells.now) (rw (← c.self.view_is) c.self.invariant) c.requires.cells.cells_count)

adds : (c : In_ok-push) → AddsRow c.args.self.now (set c.self.inside.tables c.from.result c.push.new.self) c.args.table c.args.cells.now
adds c = added_at c.self.inside.tables c.args.self.now c.from.result c.args.table c.index-self-from.result c.push.new.self c.args.cells.now c.self.view_is c.from.ensures (table_there c.self.inside.tables c.from.result c.args.table c.self.invariant c.from.ensures c.requires.cells.known) c.in_ok-push.ensures.ok

pub returns-clause-added : goal.returns-clause-added
returns-clause-added c = adds (goal.at.returns-clause-added c).In_ok-push

pub overflow_cast-result : goal.overflow_cast-result
overflow_cast-result c =
    let e = ap length (rows_were (goal.at.overflow_cast-result c).After-index-self-from) in
    let more = ap length c.in_ok-push.ensures.ok in
    let pushed = length_push (get_or c.self.inside.tables c.from.result c.index-self-from.result) c.args.cells.now in
    omega (arith, c.len.ensures, more, pushed, e, c.requires.room)

pub invariant_of-self-2 : goal.invariant_of-self-2
invariant_of-self-2 c =
    are_rows c.args.self.now (set c.self.inside.tables c.from.result c.push.new.self) c.args.table c.args.cells.now (length-set c.self.inside.tables c.from.result c.push.new.self ∙ ap length c.self.view_is) (rw (← c.self.view_is) c.self.invariant) (adds (goal.at.invariant_of-self-2 c).In_ok-push) c.requires.room c.requires.cells

pub returns-clause-number : goal.returns-clause-number
returns-clause-number c =
    c.len.ensures ∙ sym (ap length (rows_of-set c.self.inside.tables c.from.result c.args.table c.push.new.self c.from.ensures (table_there c.self.inside.tables c.from.result c.args.table c.self.invariant c.from.ensures c.requires.cells.known)))
