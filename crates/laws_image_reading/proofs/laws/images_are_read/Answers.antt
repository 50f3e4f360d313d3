-- answers for src/laws.rt
use Rattle.std.proofs.Common.{refl}
use Rattle.image_rows.specs.Filled.{entry_token}
use Rattle.laws_image_reading.proofs.laws.images_are_read.Goals as goal

pub returns : goal.returns
returns c = λ a classes r tables code id kind image h ranges.
    let f = h.filled in
    let l = h.laid_out in
    let entry = entry_token a classes in
    let written = c.laid_out_is_written.ensures a classes r tables code entry id kind image f l in
    let n = c.namings_are_read.ensures a classes r tables code image written h.readable in
    record {
      tables = c.tables_open.ensures a classes r tables code id kind image f l h.formed;
      names = n.names;
      named = n.tells;
      rows = c.demands_hold.ensures a classes r tables code id kind image h n.names n.tells n.back;
      parts = c.assemblies_are_read.ensures a classes r tables code entry id kind image f l refl h.formed h.light ranges n.names n.tells n.back;
      weight = h.light;
    }
