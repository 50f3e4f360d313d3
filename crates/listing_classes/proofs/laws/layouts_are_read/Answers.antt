use Rattle.listing_classes.proofs.Layouts.{layouts_are_read}
use Rattle.listing_classes.proofs.laws.layouts_are_read.Goals as goal

pub returns : goal.returns
returns c = layouts_are_read c.numbers_are_read.ensures
