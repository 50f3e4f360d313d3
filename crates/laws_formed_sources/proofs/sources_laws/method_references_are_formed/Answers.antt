use Rattle.laws_formed_sources.proofs.sources.Right.{method_ref_formed}
use Rattle.laws_formed_sources.proofs.sources_laws.method_references_are_formed.Goals as goal

pub returns : goal.returns
returns c s r a few f own all = method_ref_formed c.the_longest_spelling_is_taken.ensures c.tokens_are_spellings.ensures s r a few f own all
