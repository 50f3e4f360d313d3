use Rattle.body_outlines.proofs.Answered.{names_tokens}
use Rattle.body_outlines.proofs.laws.outlines_name_tokens.Goals as goal

pub returns : goal.returns
returns c = names_tokens
