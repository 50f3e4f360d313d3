use Rattle.listing_groups.proofs.Methods.{method_rows_are_read}
use Rattle.listing_groups.proofs.laws.method_rows_are_read.Goals as goal

pub returns : goal.returns
returns c = method_rows_are_read c.heads_are_read.ensures c.methods_are_read.ensures
