-- answers for src/laws.rt
use Rattle.std.proofs.Common.{sym, subst, ◌^◌, ◌<◌}
use Rattle.image_model.specs.Streams.{strings_of}
use Rattle.laws_image_parts.proofs.names.ParentLemmas.{parents_read}
use Rattle.laws_image_parts.proofs.names_laws.parents_are_read.Goals as goal

pub returns : goal.returns
returns c = λ a classes r tables code image w o.
    parents_read r image (c.one_content_at_an_index.ensures.text (strings_of image)) w.filled.known
    (c.rows_are_read.ensures a classes r tables code image w.filled w.reads).references.members
    (λ table. subst (λ n. n < 2 ^ 24) (sym (w.reads.counts table)) (w.filled.few table)) (c.members_are_owned.ensures a classes r tables code image w) o
