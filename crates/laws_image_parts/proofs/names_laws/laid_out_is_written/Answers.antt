-- answers for src/laws.rt
use Rattle.laws_image_parts.proofs.names_laws.laid_out_is_written.Goals as goal

pub returns : goal.returns
returns c = λ a classes r tables code entry id kind image f l. record {
  filled = f;
  reads = c.tables_are_read.ensures r tables id image l.metadata;
  heaps = c.heaps_are_read.ensures r tables id image l.metadata;
}
