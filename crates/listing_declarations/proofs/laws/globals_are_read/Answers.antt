use Rattle.listing_declarations.proofs.Globals.{globals_are_read}
use Rattle.listing_declarations.proofs.laws.globals_are_read.Goals as goal

pub returns : goal.returns
returns c =
    globals_are_read c.runs_are_filtered.ensures c.field_rows_are_read.ensures c.method_rows_are_read.ensures c.declarations_are_read.ensures
