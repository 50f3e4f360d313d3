use Rattle.row_signatures.proofs.Columns.{are_held}
use Rattle.row_signatures.proofs.laws.signatures_are_in_blobs.Goals as goal

pub returns : goal.returns
returns c = λ image table row token. are_held image row token table
