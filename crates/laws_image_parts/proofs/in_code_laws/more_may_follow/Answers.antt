-- answers for src/laws.rt
use Rattle.laws_image_parts.proofs.in_code.BodyLemmas.{more_follows}
use Rattle.laws_image_parts.proofs.in_code_laws.more_may_follow.Goals as goal

pub returns : goal.returns
returns c = more_follows
