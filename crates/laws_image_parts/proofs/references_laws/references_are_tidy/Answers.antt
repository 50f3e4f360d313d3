-- answers for src/laws.rt
use Rattle.laws_image_parts.proofs.references.TidyLemmas.{references_tidy}
use Rattle.laws_image_parts.proofs.references_laws.references_are_tidy.Goals as goal

pub returns : goal.returns
returns c = references_tidy c.signatures_are_in_bounds.ensures
