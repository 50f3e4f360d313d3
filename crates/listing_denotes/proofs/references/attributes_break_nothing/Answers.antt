use Rattle.listing_denotes.proofs.ReferencesAttributes.{attributes_break_nothing}
use Rattle.listing_denotes.proofs.references.attributes_break_nothing.Goals as goal

pub returns : goal.returns
returns c = attributes_break_nothing c.unasked_break_nothing.ensures c.numbers_alone.ensures c.references_break_nothing.ensures c.plain_references_have_none.ensures
