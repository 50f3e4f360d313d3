-- answers for src/laws.rt
use Rattle.body_codec.specs.Names.{reading, writing}
use Rattle.laws_image_parts.proofs.in_code.BodyLemmas.{spells_longer}
use Rattle.laws_image_parts.proofs.in_code_laws.bodies_may_be_followed.Goals as goal

pub returns : goal.returns
returns c = record {
  written = λ numbers. spells_longer c.more_may_follow.ensures (writing numbers);
  read = λ names. spells_longer c.more_may_follow.ensures (reading names);
}
