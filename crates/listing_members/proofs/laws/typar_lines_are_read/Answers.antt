use Rattle.listing_members.proofs.Typars.{typar_lines_are_read}
use Rattle.listing_members.proofs.laws.typar_lines_are_read.Goals as goal

pub returns : goal.returns
returns c =
    typar_lines_are_read c.segments_are_read.ensures c.runs_are_filtered.ensures
