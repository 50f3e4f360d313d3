use Rattle.std.proofs.Common.{◌≡◌, ap, ◌∙◌, arith}
use Rattle.metadata_tables.specs.Stream.{row_count}
use Rattle.image_model.specs.Rows.{count_of}
use Rattle.type_names.proofs.Leading.{ref_small, assembly_small}
use Rattle.type_names.proofs.nodes.led_to.Goals as goal

pub overflow_add-result : goal.overflow_add-result
overflow_add-result c =
    let types : c.rows-types.result ≡ count_of c.args.image.now 0x02 = c.rows-types.ensures.rows ∙ ap (λ stream. row_count stream 0x02) c.tables-tables.ensures.tables in
    let small = ref_small c.args.image.now c.tables-tables.ensures.meets c.requires.small c.args.table c.args.row c.if-table-eq1.true c.requires.there in
    omega arith

pub overflow_add-result-then-table-eq35 : goal.overflow_add-result-then-table-eq35
overflow_add-result-then-table-eq35 c =
    let types : c.rows-types.result ≡ count_of c.args.image.now 0x02 = c.rows-types.ensures.rows ∙ ap (λ stream. row_count stream 0x02) c.tables-tables.ensures.tables in
    let refs : c.rows.result ≡ count_of c.args.image.now 0x01 = c.rows.ensures.rows ∙ ap (λ stream. row_count stream 0x01) c.tables-tables.ensures.tables in
    let small = (assembly_small c.args.image.now c.tables-tables.ensures.meets c.requires.small c.args.table c.args.row c.if-table-eq35.true c.requires.there).0 in
    omega arith

pub overflow_add-result-then-table-eq35-2 : goal.overflow_add-result-then-table-eq35-2
overflow_add-result-then-table-eq35-2 c =
    let types : c.rows-types.result ≡ count_of c.args.image.now 0x02 = c.rows-types.ensures.rows ∙ ap (λ stream. row_count stream 0x02) c.tables-tables.ensures.tables in
    let refs : c.rows.result ≡ count_of c.args.image.now 0x01 = c.rows.ensures.rows ∙ ap (λ stream. row_count stream 0x01) c.tables-tables.ensures.tables in
    let small = (assembly_small c.args.image.now c.tables-tables.ensures.meets c.requires.small c.args.table c.args.row c.if-table-eq35.true c.requires.there).1 in
    omega arith
