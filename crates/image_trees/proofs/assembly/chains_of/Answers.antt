use Rattle.std.proofs.Common.{ℕ, ◌≤◌, ◌∙◌, ap, subst, sym}
use Rattle.std.specs.Prelude.{slice_index}
use Rattle.metadata_tables.specs.Stream.{row_count}
use Rattle.image_trees.proofs.Finding.{bodies_within}
use Rattle.image_trees.proofs.assembly.chains_of.Goals as goal

pub new-requires-clause-within : goal.new-requires-clause-within
new-requires-clause-within c = λ row some less.
    subst (λ (most : ℕ). slice_index c.args.bodies.now row ≤ most) (sym (c.rows.ensures.rows ∙ ap (λ stream. row_count stream 0x06) c.tables-tables.ensures.tables))
    (bodies_within c.args.source.now.image.now c.args.bodies.now c.requires.ready.structure c.requires.ready.owned c.requires.overrides c.requires.bodies row some less)
