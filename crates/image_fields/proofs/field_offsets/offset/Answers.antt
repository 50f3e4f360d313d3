use Rattle.std.proofs.Common.{◌≡◌, ℕ, List, None, Some, sym, ◌∙◌, ap, subst, arith}
use Rattle.metadata_tables.specs.Stream.{cell}
use Rattle.image_model.specs.Columns.{offset_of_row}
use Rattle.image_model.specs.Members.{offsets_of}
use Rattle.image_model.specs.Reading.{IsGiven}
use Rattle.row_parts.proofs.Orders.{offsets_ascend}
use Rattle.row_parts.proofs.OwnedRows.{few_owned}
use Rattle.row_parts.proofs.Zips.{given_row, given_none}
use Rattle.image_fields.proofs.RowsOfFields.{offset_rows}
use Rattle.image_fields.proofs.field_offsets.offset.Goals as goal

pub owned_rows-rows-requires-clause-order : goal.owned_rows-rows-requires-clause-order
owned_rows-rows-requires-clause-order c = offsets_ascend c.args.image.now c.requires.meets

pub returns-then-rows-eq0 : goal.returns-then-rows-eq0
returns-then-rows-eq0 c =
    let image = c.args.image.now in
    let rows = c.owned_rows-rows.result in
    subst (λ (all : List ℕ). IsGiven (λ k offset. offset ≡ offset_of_row image k) all None) (sym (offset_rows image c.args.row c.from.result rows.first rows.count c.from.ensures c.owned_rows-rows.ensures.rows))
    (given_none (λ k offset. offset ≡ offset_of_row image k) rows.first rows.count c.if-rows-eq0.true)

pub returns : goal.returns
returns c =
    let image = c.args.image.now in
    let rows = c.owned_rows-rows.result in
    let are = offset_rows image c.args.row c.from.result rows.first rows.count c.from.ensures c.owned_rows-rows.ensures.rows in
    let one : rows.count ≡ 1 = (let most = few_owned (offsets_of image c.args.row) rows.first rows.count are c.requires.one in let some = c.if-rows-eq0.false in omega arith) in
    let is : c.cell.result ≡ offset_of_row image rows.first = c.cell.ensures ∙ ap (λ stream. cell stream 0x10 rows.first 0) c.tables.ensures.tables in
    subst (λ (all : List ℕ). IsGiven (λ k offset. offset ≡ offset_of_row image k) all (Some c.cell.result)) (sym are)
    (given_row (λ k offset. offset ≡ offset_of_row image k) rows.first rows.count c.cell.result one is)
