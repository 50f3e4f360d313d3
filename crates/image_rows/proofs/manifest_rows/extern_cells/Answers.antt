use Rattle.std.proofs.Common.{rules}
use Rattle.image_members.proofs.ManifestLemmas.{extern_row}
use Rattle.image_rows.proofs.manifest_rows.extern_cells.Goals as goal

pub returns-clause-row : goal.returns-clause-row
returns-clause-row c =
    extern_row c.row_of_columns.ensures c.from.result c.from-2.result c.from-3.result c.from-4.result c.args.flags c.args.key c.args.name c.args.culture c.args.hash
    (search rules) (search rules) (search rules) (search rules) (search rules)
