use Rattle.name_numbers.specs.Table.{told}
use Rattle.name_numbers.proofs.Giving.{gives_new}
use Rattle.name_numbers.proofs.numbering.number_of.Goals as goal

pub returns-clause-gives : goal.returns-clause-gives
returns-clause-gives c =
    let a = c.in_ok-note.ensures.added in
    gives_new c.args.texts.now (told c.args.texts.now c.args.key) c.args.fresh c.args.table.now.entries c.note.new.self.entries c.in_default.ensures.none a.0 a.1 a.2 a.3
