use Rattle.laws_formed_sources.proofs.sources.MembersFormed.{property_formed}
use Rattle.laws_formed_sources.proofs.sources_laws.properties_are_formed.Goals as goal

pub returns : goal.returns
returns c s r a few ms f own all = property_formed c.the_longest_spelling_is_taken.ensures c.tokens_are_spellings.ensures s r a few ms f own all
