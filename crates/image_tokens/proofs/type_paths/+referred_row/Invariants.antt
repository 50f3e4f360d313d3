use Rattle.std.proofs.Common.{length}
use Rattle.image_tokens.proofs.type_paths.+referred_row.Given as goal

abbrev pub decreases-referred_row : goal.decreases-referred_row
decreases-referred_row l = length l.path.now
