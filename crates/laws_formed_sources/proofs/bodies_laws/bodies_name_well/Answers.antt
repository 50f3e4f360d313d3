use Rattle.laws_formed_sources.proofs.bodies.Formed.{all_names}
use Rattle.laws_formed_sources.proofs.bodies_laws.bodies_name_well.Goals as goal

pub returns : goal.returns
returns c s r n i b e = all_names c.the_longest_spelling_is_taken.ensures c.tokens_are_spellings.ensures c.derivations_have_bodies.ensures s r n i b e
