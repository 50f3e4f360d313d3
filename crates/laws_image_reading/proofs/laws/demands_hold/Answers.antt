-- answers for src/laws.rt
use Rattle.image_rows.specs.Filled.{entry_token}
use Rattle.laws_image_reading.proofs.AllRules.{each_holds}
use Rattle.laws_image_reading.proofs.RowsInBounds.{bounded_rows, named_rows, short_names}
use Rattle.laws_image_reading.proofs.laws.demands_hold.Goals as goal

pub returns : goal.returns
returns c = λ a classes r tables code id kind image h names named back.
    let f = h.filled in
    let l = h.laid_out in
    let entry = entry_token a classes in
    let bounded = bounded_rows r f.known in
    let bodies = c.bodies_meet_demands.ensures a classes r tables code entry id kind image f l names named back in
    each_holds image names (record {
      indexes = c.indexes_hold.ensures a classes r tables code id kind image f l h.formed h.accessors h.externs names;
      entries = c.entries_hold.ensures a classes r tables code entry id kind image f l h.formed (named_rows r f.known) names;
      manifest = c.manifest_holds.ensures a classes r tables code entry id kind image f l names;
      runs = c.runs_hold.ensures a classes r tables code entry id kind image f l h.formed names;
      order = c.order_holds.ensures a classes r tables code entry id kind image f l names;
      scopes = c.scopes_hold.ensures a classes r tables code entry id kind image f l h.formed (short_names r f.known) names;
      signatures = c.signatures_hold.ensures a classes r tables code entry id kind image f l h.formed h.light h.readable bounded names named back;
      distinct = c.none_stands_twice.ensures a classes r tables code entry id kind image f l h.formed h.light names named back;
      values = c.values_hold.ensures a classes r tables code entry id kind image f l h.formed h.light h.readable bounded names named back;
      header = c.headers_are_known.ensures a classes r tables code entry id kind image f l h.formed h.light names named back;
      instructions = bodies.instructions_hold;
      clauses = bodies.clauses_hold;
      tokens = bodies.tokens_hold;
      attributes = c.attributes_are_known.ensures a classes r tables code entry id kind image f l h.formed h.light names named back;
      bases = c.bases_are_right.ensures a classes r tables code entry id kind image f l h.formed h.light names named back;
      accessors = c.accessors_are_own.ensures a classes r tables code entry id kind image f l h.formed h.light names named back;
    })
