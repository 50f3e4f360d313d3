use Rattle.image_namings.proofs.Kept.{hang_on_tokens}
use Rattle.image_namings.proofs.laws.signatures_hang_on_tokens.Goals as goal

pub returns : goal.returns
returns c = hang_on_tokens
