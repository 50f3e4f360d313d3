use Rattle.image_namings.proofs.BodyTokens.{bodies_hang}
use Rattle.image_namings.proofs.laws.bodies_hang_on_tokens.Goals as goal

pub returns : goal.returns
returns c = bodies_hang
