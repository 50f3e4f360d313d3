use Rattle.laws_formed_sources.proofs.sources.MembersFormed.{method_formed}
use Rattle.laws_formed_sources.proofs.sources_laws.methods_are_formed.Goals as goal

pub returns : goal.returns
returns c s r a few f own all inside = method_formed c.the_longest_spelling_is_taken.ensures c.tokens_are_spellings.ensures s r a few f own all inside
