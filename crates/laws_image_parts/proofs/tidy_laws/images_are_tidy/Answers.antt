-- answers for src/laws.rt
use Rattle.laws_image_parts.proofs.tidy.TidyLemmas.{images_tidy}
use Rattle.laws_image_parts.proofs.tidy_laws.images_are_tidy.Goals as goal

pub returns : goal.returns
returns c =
    images_tidy (record {
      written = c.laid_out_is_written.ensures;
      namings = c.namings_are_read.ensures;
      bodies = c.bodies_are_read.ensures;
      loaded = c.loaded_are_tidy.ensures;
      rows = c.rows_stand_once.ensures;
      contents = c.contents_stand_once.ensures;
      entries = c.entries_are_short.ensures;
      fields = c.fields_are_written.ensures;
      signatures = c.signatures_are_short.ensures;
    })
