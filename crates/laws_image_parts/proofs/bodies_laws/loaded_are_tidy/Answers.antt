-- answers for src/laws.rt
use Rattle.laws_image_parts.proofs.bodies.LoadedLemmas.{loads_tidily}
use Rattle.laws_image_parts.proofs.bodies_laws.loaded_are_tidy.Goals as goal

pub returns : goal.returns
returns c = λ a classes r tables code entry id kind image f l d.
    loads_tidily r f.known image (c.heaps_are_read.ensures r tables id image l.metadata)
    (c.tokens_are_given.ensures a classes r tables code entry id kind image f l) c.one_content_at_an_index.ensures.units c.written_is_read.ensures.units d
