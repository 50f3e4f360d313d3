-- answers for src/laws.rt
use Rattle.std.proofs.Common.{sym, subst, ℕ, ◌^◌, ◌<◌}
use Rattle.laws_image_reading.proofs.parts_laws.rows_are_known.Goals as goal

pub returns : goal.returns
returns c = λ a classes r tables code entry id kind image f l.
    let reads = c.tables_are_read.ensures r tables id image l.metadata in
    let rows = c.rows_are_read.ensures a classes r tables code image f reads in
    record {
      heaps = c.heaps_are_read.ensures r tables id image l.metadata;
      few = λ table. subst (λ (n : ℕ). n < 2 ^ 24) (sym (reads.counts table)) (f.few table);
      rows = rows;
      runs = c.runs_are_read.ensures a classes r code image rows;
      attributes = c.owned_are_read.ensures.attributes a classes r image rows.owned;
      constants = c.owned_are_read.ensures.constants a classes r image rows.owned;
      generics = c.owned_are_read.ensures.generics a classes r image rows.owned;
      accessors = c.owned_are_read.ensures.accessors a classes r image rows.properties;
      types = c.items_are_read.ensures.types a classes r image rows.types;
      fields = c.items_are_read.ensures.fields a classes r code image rows.fields;
      bounds = c.items_are_read.ensures.bounds a classes r image rows.owned;
      overrides = λ k m at. let over = c.items_are_read.ensures.overrides a classes r code image f.declared rows.methods k m at in (over.0, over.2);
      enclosed = c.enclosers_are_read.ensures a classes r image rows.types;
    }
