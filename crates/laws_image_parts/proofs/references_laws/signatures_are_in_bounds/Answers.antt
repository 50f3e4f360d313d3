-- answers for src/laws.rt
use Rattle.laws_image_parts.proofs.references.BoundLemmas.{specs_bounds, specs_readable, in_bounds}
use Rattle.laws_image_parts.proofs.references_laws.signatures_are_in_bounds.Goals as goal

pub returns : goal.returns
returns c = λ a classes r tables code entry id kind image f l formed light.
    let w = c.laid_out_is_written.ensures a classes r tables code entry id kind image f l in
    let specs = specs_bounds r f.known (c.types_are_one.ensures a classes r tables code image w) in
    let o = c.owners_are_read.ensures a classes r tables code image w (specs_readable r f.known specs) in
    in_bounds r f.known c.one_content_at_an_index.ensures.blob c.no_type_begins_another.ensures o.owners o.back
    (λ tokens owners gives x bytes h. c.shortest_is_read.ensures.field owners x bytes (c.written_is_read.ensures.field tokens owners gives x bytes h))
    (λ tokens owners gives x bytes h. c.shortest_is_read.ensures.method owners x bytes (c.written_is_read.ensures.method tokens owners gives x bytes h))
    (λ tokens owners gives x bytes h. c.shortest_is_read.ensures.locals owners x bytes (c.written_is_read.ensures.locals tokens owners gives x bytes h))
    (λ tokens owners gives x bytes h. c.shortest_is_read.ensures.instantiation owners x bytes (c.written_is_read.ensures.instantiation tokens owners gives x bytes h))
    a classes f.declared (c.members_are_in_bounds.ensures a classes formed light f.classes_are) specs
