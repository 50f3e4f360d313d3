use Rattle.std.proofs.Common.{◌≡◌, ◌<◌, ◌∙◌, ap, subst, arith}
use Rattle.metadata_tables.specs.Stream.{row_count}
use Rattle.image_model.specs.Rows.{count_of}
use Rattle.body_tokens.proofs.Searching.{state_at}
use Rattle.body_tokens.proofs.search.first_unknown.Goals as goal

pub is_met-requires-clause-state : goal.is_met-requires-clause-state
is_met-requires-clause-state c =
    let e : c.rows-count.result ≡ count_of c.args.image.now 0x06 = c.rows-count.ensures.rows ∙ ap (λ s. row_count s 0x06) c.tables.ensures.tables in
    state_at c.args.image.now c.args.states.now c.loop-row.row _ c.requires.states (subst (λ n. c.loop-row.row < n) e c.loop-row-test.true)
