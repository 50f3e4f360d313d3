use Rattle.laws_formed_sources.proofs.sources.Right.{type_formed}
use Rattle.laws_formed_sources.proofs.sources_laws.types_are_formed.Goals as goal

pub returns : goal.returns
returns c s r a few f own each = type_formed c.the_longest_spelling_is_taken.ensures c.tokens_are_spellings.ensures s r a few f own each
