use Rattle.std.proofs.Common.{length, sym, ap, ◌∙◌}
use Rattle.metadata_tables.proofs.Pieces.{length-pieces}
use Rattle.metadata_tables.proofs.table_rows.TableRows.len.Goals as goal

pub returns : goal.returns
returns c = sym (length-pieces c.self.inside.columns c.self.inside.len c.self.inside.cells) ∙ ap length c.self.view_is
