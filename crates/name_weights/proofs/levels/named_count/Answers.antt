use Rattle.std.proofs.Common.{◌≡◌, List, ℕ, ◌∙◌, ap, arith}
use Rattle.metadata_tables.specs.Stream.{row_count}
use Rattle.image_model.specs.Rows.{count_of}
use Rattle.name_weights.proofs.Made.{count_small}
use Rattle.name_weights.proofs.levels.named_count.Goals as goal

pub returns-clause-small : goal.returns-clause-small
returns-clause-small c =
    let image : List ℕ = c.given.inside.image.now in
    let types : c.rows.result ≡ count_of image 0x02 = c.rows.ensures.rows ∙ ap (λ (s : List ℕ). row_count s 0x02) c.tables-tables.ensures.tables in
    let references : c.rows-2.result ≡ count_of image 0x01 = c.rows-2.ensures.rows ∙ ap (λ (s : List ℕ). row_count s 0x01) c.tables-tables.ensures.tables in
    let small = count_small image c.tables-tables.ensures.meets c.given.invariant.4 in
    omega arith
