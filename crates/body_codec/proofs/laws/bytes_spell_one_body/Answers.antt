use Rattle.body_codec.proofs.Decoded.{body_tells}
use Rattle.body_codec.proofs.laws.bytes_spell_one_body.Goals as goal

pub returns : goal.returns
returns c = body_tells
