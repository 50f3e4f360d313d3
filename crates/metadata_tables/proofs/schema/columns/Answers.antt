use Rattle.std.proofs.Common.{◌≡◌, sym, arith}
use Rattle.metadata_tables.specs.Schema.{columns_of}
use Rattle.metadata_tables.proofs.Table.{part_is, starts_rise, columns_past, columns_few}
use Rattle.metadata_tables.proofs.schema.columns.Goals as goal

pub returns-then-table-ge-TABLES-clause-columns : goal.returns-then-table-ge-TABLES-clause-columns
returns-then-table-ge-TABLES-clause-columns c = sym (columns_past c.args.table c.if-table-ge-TABLES.true)

pub part-requires-clause-start : goal.part-requires-clause-start
part-requires-clause-start c =
    omega (arith, starts_rise c.from-table.result (omega arith))

pub part-requires-clause-end : goal.part-requires-clause-end
part-requires-clause-end c =
    omega (arith, starts_rise c.from-table.result (omega arith))

pub returns-clause-columns : goal.returns-clause-columns
returns-clause-columns c =
    let e = part_is c.from-table.result (omega arith) in cc

pub returns-clause-few : goal.returns-clause-few
returns-clause-few c =
    let e = part_is c.from-table.result (omega arith) in
    let all : c.part.result.now ≡ columns_of c.from-table.result = cc in
    rw all (columns_few c.from-table.result)
