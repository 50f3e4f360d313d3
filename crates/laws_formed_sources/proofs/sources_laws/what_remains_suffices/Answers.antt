use Rattle.laws_formed_sources.proofs.sources.Unbroken.{all_faultless}
use Rattle.laws_formed_sources.proofs.sources.Whole.{whole_formed}
use Rattle.laws_formed_sources.proofs.sources_laws.what_remains_suffices.Goals as goal

pub returns : goal.returns
returns c s r left =
    whole_formed c.orders_are_total.ensures.terms c.orders_are_total.ensures.owners c.the_longest_spelling_is_taken.ensures c.tokens_are_spellings.ensures s r
    (all_faultless s (c.derivations_have_bodies.ensures s r.read.derived).1 r.faultless) (c.derivations_have_bodies.ensures s r.read.derived).0 left
