use Rattle.laws_formed_sources.proofs.sources.MembersFormed.{event_formed}
use Rattle.laws_formed_sources.proofs.sources_laws.events_are_formed.Goals as goal

pub returns : goal.returns
returns c s r a few ms f own all = event_formed c.the_longest_spelling_is_taken.ensures c.tokens_are_spellings.ensures s r a few ms f own all
