use Rattle.laws_formed_sources.proofs.sources.Right.{method_signature_formed, property_signature_formed}
use Rattle.laws_formed_sources.proofs.sources_laws.signatures_are_formed.Goals as goal

pub returns : goal.returns
returns c s r a few f all = (method_signature_formed c.the_longest_spelling_is_taken.ensures c.tokens_are_spellings.ensures s r a few f all, property_signature_formed c.the_longest_spelling_is_taken.ensures c.tokens_are_spellings.ensures s r a few f all)
