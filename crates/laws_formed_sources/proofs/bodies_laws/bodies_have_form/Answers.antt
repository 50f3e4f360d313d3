use Rattle.laws_formed_sources.proofs.bodies.Formed.{all_forms}
use Rattle.laws_formed_sources.proofs.bodies_laws.bodies_have_form.Goals as goal

pub returns : goal.returns
returns c s r n i b e = all_forms c.the_longest_spelling_is_taken.ensures c.tokens_are_spellings.ensures c.derivations_have_bodies.ensures s r n i b e
