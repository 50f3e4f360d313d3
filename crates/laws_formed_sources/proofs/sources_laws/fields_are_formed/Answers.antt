use Rattle.laws_formed_sources.specs.sources.Productions.{IsFaultlessCustom}
use Rattle.laws_formed_sources.proofs.sources.Attributes.{IsAttribute}
use Rattle.laws_formed_sources.proofs.sources.MembersFormed.{field_formed}
use Rattle.laws_formed_sources.proofs.sources_laws.fields_are_formed.Goals as goal
use Rattle.source_flags.proofs.Gathered.{all_follow}

pub returns : goal.returns
returns c s r a few f own all customs h inside =
    field_formed c.the_longest_spelling_is_taken.ensures c.tokens_are_spellings.ensures s r a few f own all customs
    (all_follow (IsFaultlessCustom s) (IsAttribute s) customs (λ p x. (x.0, (x.1, x.2))) h) inside
