use Rattle.held_images.proofs.Whole.{held}
use Rattle.held_images.proofs.laws.what_is_read_is_held.Goals as goal

pub returns : goal.returns
returns c image a bytes h = held image a h bytes
