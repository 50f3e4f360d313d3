use Rattle.std.proofs.Common.{ℕ, ◌≤◌, ◌∙◌, ap, subst, sym}
use Rattle.std.specs.Prelude.{slice_index}
use Rattle.metadata_tables.specs.Stream.{row_count}
use Rattle.image_lightness.proofs.Lighting.{bodies_within}
use Rattle.image_lightness.proofs.maps.chains_of.Goals as goal

pub new-requires-clause-within : goal.new-requires-clause-within
new-requires-clause-within c = λ row some less.
    subst (λ (most : ℕ). slice_index c.args.bodies.now row ≤ most) (sym (c.rows.ensures.rows ∙ ap (λ stream. row_count stream 0x06) c.tables-tables.ensures.tables))
    (bodies_within c.args.image.now c.requires.meets c.args.bodies.now c.requires.bodies row some less)
