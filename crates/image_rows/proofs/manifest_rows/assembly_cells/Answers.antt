use Rattle.std.proofs.Common.{rules}
use Rattle.image_members.proofs.ManifestLemmas.{assembly_row}
use Rattle.image_rows.proofs.manifest_rows.assembly_cells.Goals as goal

pub returns-clause-row : goal.returns-clause-row
returns-clause-row c =
    assembly_row c.row_of_columns.ensures c.args.hash c.from.result c.from-2.result c.from-3.result c.from-4.result c.args.flags c.args.key c.args.name c.args.culture
    (search rules) (search rules) (search rules) (search rules) (search rules) (search rules)
