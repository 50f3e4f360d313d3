use Rattle.std.proofs.Common.{◌≡◌, ◌+◌, sym, ap, ◌∙◌, subst, arith}
use Rattle.metadata_tables.specs.Stream.{row_count, cell}
use Rattle.image_model.specs.Columns.{type_ref_scope}
use Rattle.image_model.specs.Rows.{count_of, HasRow}
use Rattle.type_names.specs.Forest.{IsScope}
use Rattle.type_names.proofs.nodes.fill_refs.Goals as goal

pub scope_node-requires-clause-there : goal.scope_node-requires-clause-there
scope_node-requires-clause-there c =
    let end : c.rows-row-end.result ≡ count_of c.args.image.now 0x01 = c.rows-row-end.ensures.rows ∙ ap (λ stream. row_count stream 0x01) c.tables-tables.ensures.tables in
    let there : HasRow c.args.image.now 0x01 (c.loop-row.row + 1) = (omega arith, let t = c.loop-row-test.true in omega arith) in
    let is : c.cell-scope.result ≡ type_ref_scope c.args.image.now (c.loop-row.row + 1) = c.cell-scope.ensures ∙ ap (λ stream. cell stream 0x01 (c.loop-row.row + 1) 0) c.tables-tables.ensures.tables in
    subst (IsScope c.args.image.now) (sym is) (c.requires.scopes (c.loop-row.row + 1) there)
