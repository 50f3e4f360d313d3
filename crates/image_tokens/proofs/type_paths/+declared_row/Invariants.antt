use Rattle.std.proofs.Common.{length}
use Rattle.image_tokens.proofs.type_paths.+declared_row.Given as goal

abbrev pub decreases-declared_row : goal.decreases-declared_row
decreases-declared_row l = length l.path.now
