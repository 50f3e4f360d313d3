-- answers for src/laws.rt
use Rattle.laws_image_parts.proofs.in_code.GivenLemmas.{all_given}
use Rattle.laws_image_parts.proofs.in_code_laws.named_is_given.Goals as goal

pub returns : goal.returns
returns c = all_given c.more_may_follow.ensures
