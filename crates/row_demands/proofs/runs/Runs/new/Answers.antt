use Rattle.std.proofs.Common.{◌≡◌, ℕ, ◌<◌, ◌≤◌, arith, ap, ◌∙◌, subst, sym}
use Rattle.metadata_tables.specs.Stream.{row_count, cell}
use Rattle.image_model.specs.Streams.{tables_of}
use Rattle.row_demands.specs.Members.{AreFirsts}
use Rattle.image_model.specs.Rows.{count_of}
use Rattle.row_demands.proofs.Indexed.{columns_of_methods, columns_of_event_maps, columns_of_property_maps, params_within, params_begin, event_parents_within, property_parents_within}
use Rattle.row_demands.proofs.runs.Runs.new.Goals as goal

pub begins-requires-clause-column : goal.begins-requires-clause-column
begins-requires-clause-column c = let l = columns_of_methods in omega arith

pub begins-requires-clause-within : goal.begins-requires-clause-within
begins-requires-clause-within c = params_within c.args.image.now c.requires

pub firsts_of-requires-clause-column : goal.firsts_of-requires-clause-column
firsts_of-requires-clause-column c = let l = columns_of_event_maps in omega arith

pub firsts_of-requires-clause-within : goal.firsts_of-requires-clause-within
firsts_of-requires-clause-within c row there =
    let types : c.rows-types.result ≡ count_of c.args.image.now 0x02 = c.rows-types.ensures.rows ∙ ap (λ stream. row_count stream 0x02) c.tables.ensures.tables in
    let w = event_parents_within c.args.image.now c.requires row there in
    omega arith

pub firsts_of-requires-2-clause-column : goal.firsts_of-requires-2-clause-column
firsts_of-requires-2-clause-column c = let l = columns_of_property_maps in omega arith

pub firsts_of-requires-2-clause-within : goal.firsts_of-requires-2-clause-within
firsts_of-requires-2-clause-within c row there =
    let types : c.rows-types.result ≡ count_of c.args.image.now 0x02 = c.rows-types.ensures.rows ∙ ap (λ stream. row_count stream 0x02) c.tables.ensures.tables in
    let w = property_parents_within c.args.image.now c.requires row there in
    omega arith

pub invariant_of-result : goal.invariant_of-result
invariant_of-result c =
    let types : c.rows-types.result ≡ count_of c.args.image.now 0x02 = c.rows-types.ensures.rows ∙ ap (λ stream. row_count stream 0x02) c.tables.ensures.tables in
    (params_begin c.args.image.now c.requires, (c.in_ok-begins.ensures, (subst (λ most. AreFirsts c.args.image.now 0x12 most c.in_ok-event_maps.event_maps.items) types c.in_ok-event_maps.ensures, subst (λ most. AreFirsts c.args.image.now 0x15 most c.in_ok-property_maps.property_maps.items) types c.in_ok-property_maps.ensures)))
