use Rattle.std.proofs.Common.{◌≡◌, ℕ, List, None, Some, sym, ◌∙◌, ap, subst, arith}
use Rattle.metadata_tables.specs.Stream.{cell}
use Rattle.assembly_tree.specs.declared.typedef.Layout.{Layout}
use Rattle.image_model.specs.Columns.{layout_parent, layout_size}
use Rattle.image_model.specs.Members.{layouts_of}
use Rattle.image_model.specs.Reading.{IsGiven, IsLayout}
use Rattle.image_model.specs.Rows.{rows_with}
use Rattle.row_parts.proofs.Orders.{layouts_ascend}
use Rattle.row_parts.proofs.OwnedRows.{few_owned}
use Rattle.row_parts.proofs.Zips.{given_row, given_none}
use Rattle.image_types.proofs.types.layout.Goals as goal

pub owned_rows-rows-requires-clause-order : goal.owned_rows-rows-requires-clause-order
owned_rows-rows-requires-clause-order c = layouts_ascend c.args.source.now.image.now c.requires.ready.structure

pub returns-then-rows-eq0 : goal.returns-then-rows-eq0
returns-then-rows-eq0 c =
    let image = c.args.source.now.image.now in
    let rows = c.owned_rows-rows.result in
    subst (λ (all : List ℕ). IsGiven (IsLayout image) all None) (sym (ap (rows_with image 0x0F layout_parent) (sym c.from.ensures) ∙ c.owned_rows-rows.ensures.rows))
    (given_none (IsLayout image) rows.first rows.count c.if-rows-eq0.true)

pub returns : goal.returns
returns c =
    let image = c.args.source.now.image.now in
    let rows = c.owned_rows-rows.result in
    let are = ap (rows_with image 0x0F layout_parent) (sym c.from.ensures) ∙ c.owned_rows-rows.ensures.rows in
    let one : rows.count ≡ 1 = (let most = few_owned (layouts_of image c.args.row) rows.first rows.count are (c.requires.ready.owned.layouts c.args.row c.requires.there) in let some = c.if-rows-eq0.false in omega arith) in
    let size : c.cell.result ≡ layout_size image rows.first = c.cell.ensures ∙ ap (λ stream. cell stream 0x0F rows.first 1) c.tables.ensures.tables in
    let it : Layout = record { pack = c.number_of.result; size = c.cell.result } in
    subst (λ (all : List ℕ). IsGiven (IsLayout image) all (Some it)) (sym are) (given_row (IsLayout image) rows.first rows.count it one (record { pack = c.number_of.ensures; size = size }))
