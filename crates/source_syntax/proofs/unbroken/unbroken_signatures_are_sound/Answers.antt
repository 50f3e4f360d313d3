use Rattle.source_syntax.proofs.UnbrokenLemmas.{unbroken_is_sound}
use Rattle.source_syntax.proofs.unbroken.unbroken_signatures_are_sound.Goals as goal

pub returns : goal.returns
returns c = unbroken_is_sound
