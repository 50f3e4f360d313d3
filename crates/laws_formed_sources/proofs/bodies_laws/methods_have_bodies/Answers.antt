use Rattle.laws_formed_sources.proofs.bodies.Formed.{all_have}
use Rattle.laws_formed_sources.proofs.bodies_laws.methods_have_bodies.Goals as goal

pub returns : goal.returns
returns c s r n i is = all_have c.the_longest_spelling_is_taken.ensures c.tokens_are_spellings.ensures c.derivations_have_bodies.ensures s r n i is
