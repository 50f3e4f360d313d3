use Rattle.std.specs.Option.{option_copied}
use Rattle.print_methods.proofs.Tables.{row_found, row_none}
use Rattle.print_methods.proofs.rows.row_at.Goals as goal

pub returns-in-Some : goal.returns-in-Some
returns-in-Some c =
    row_found c.args.rows.now c.args.places.now c.args.number c.in-Some.place c.at.result.now (option_copied c.row_in.result) c.requires.table c.at.ensures
    c.in-Some.is c.row_in.ensures

pub returns-in-None : goal.returns-in-None
returns-in-None c = row_none c.args.rows.now c.args.places.now c.args.number c.at.result.now c.requires.table c.at.ensures c.in-None.is
