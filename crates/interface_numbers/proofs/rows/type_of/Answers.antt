use Rattle.std.proofs.Common.{ap, sym, ◌∙◌}
use Rattle.metadata_tables.specs.CodedIndex.{unpacked}
use Rattle.metadata_tables.specs.declared.coded.Coded.TheVariants.{TypeDefOrRef}
use Rattle.interface_numbers.proofs.Placing.{named_is}
use Rattle.interface_numbers.proofs.rows.type_of.Goals as goal

pub returns-in-Some : goal.returns-in-Some
returns-in-Some c =
    named_is c.args.image.now c.args.row c.in-Some.table c.in-Some.of c.requires.types c.requires.there (ap (unpacked TypeDefOrRef) (sym c.cell_of.ensures) ∙ sym c.in-Some.ensures.value)

pub returns-in-None : goal.returns-in-None
returns-in-None c =
    let n = c.requires.types c.args.row c.requires.there in
    absurd (let e = sym n.2.names ∙ ap (unpacked TypeDefOrRef) (sym c.cell_of.ensures) ∙ sym c.in-None.ensures.value in cc)
