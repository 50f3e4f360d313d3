use Rattle.std.proofs.Common.{◌≡◌, ℕ, List, None, Some, take, sym, ◌∙◌, ap, subst, arith}
use Rattle.metadata_tables.specs.Stream.{cell}
use Rattle.image_model.specs.Columns.{data_rva}
use Rattle.image_model.specs.Members.{data_of}
use Rattle.image_model.specs.Reading.{IsGiven, IsContent}
use Rattle.image_model.specs.Streams.{blobs_of}
use Rattle.row_parts.proofs.Orders.{data_ascend}
use Rattle.row_parts.proofs.OwnedRows.{few_owned}
use Rattle.row_parts.proofs.Zips.{given_row, given_none}
use Rattle.image_fields.proofs.StoredData.{content_fits, content_is}
use Rattle.image_fields.proofs.RowsOfFields.{data_rows}
use Rattle.image_fields.proofs.field_contents.content.Goals as goal

pub owned_rows-rows-requires-clause-order : goal.owned_rows-rows-requires-clause-order
owned_rows-rows-requires-clause-order c = data_ascend c.args.source.now.image.now c.requires.ready.structure

pub returns-then-rows-eq0 : goal.returns-then-rows-eq0
returns-then-rows-eq0 c = λ of has.
    let image = c.args.source.now.image.now in
    let rows = c.owned_rows-rows.result in
    subst (λ (all : List ℕ). IsGiven (IsContent image of) all None) (sym (data_rows image c.args.row c.from.result rows.first rows.count c.from.ensures c.owned_rows-rows.ensures.rows))
    (given_none (IsContent image of) rows.first rows.count c.if-rows-eq0.true)

pub first_of-requires : goal.first_of-requires
first_of-requires c =
    let image = c.args.source.now.image.now in
    let rows = c.owned_rows-rows.result in
    let are = data_rows image c.args.row c.from.result rows.first rows.count c.from.ensures c.owned_rows-rows.ensures.rows in
    let one : rows.count ≡ 1 = (let most = few_owned (data_of image c.args.row) rows.first rows.count are (c.requires.ready.owned.one_data c.args.row c.requires.there) in let some = c.if-rows-eq0.false in omega arith) in
    let rva : c.cell-rva.result ≡ data_rva image rows.first = c.cell-rva.ensures ∙ ap (λ stream. cell stream 0x1D rows.first 0) c.tables.ensures.tables in
    content_fits image c.args.source.now.kept.now c.args.source.now.sizes.now c.requires.ready.sizes_are c.args.row c.from.result rows.first rows.count c.from.ensures c.owned_rows-rows.ensures.rows one
    c.size_at-size.result c.cell-rva.result c.bytes_at-bytes.result.now c.size_at-size.ensures rva c.bytes_at-bytes.ensures

pub returns : goal.returns
returns c = λ of has.
    let image = c.args.source.now.image.now in
    let rows = c.owned_rows-rows.result in
    let are = data_rows image c.args.row c.from.result rows.first rows.count c.from.ensures c.owned_rows-rows.ensures.rows in
    let one : rows.count ≡ 1 = (let most = few_owned (data_of image c.args.row) rows.first rows.count are (c.requires.ready.owned.one_data c.args.row c.requires.there) in let some = c.if-rows-eq0.false in omega arith) in
    let rva : c.cell-rva.result ≡ data_rva image rows.first = c.cell-rva.ensures ∙ ap (λ stream. cell stream 0x1D rows.first 0) c.tables.ensures.tables in
    let is = content_is image c.args.source.now.kept.now c.args.source.now.sizes.now c.requires.ready.sizes_are c.args.row c.from.result rows.first rows.count c.from.ensures c.owned_rows-rows.ensures.rows one
    (c.one_content_at_an_index.ensures.blob (blobs_of image)) c.bytes_spell_one_signature.ensures.field c.size_at-size.result c.cell-rva.result c.bytes_at-bytes.result.now c.size_at-size.ensures rva c.bytes_at-bytes.ensures of has in
    let content : c.in_ok-content.content ≡ take c.size_at-size.result c.bytes_at-bytes.result.now = c.in_ok-content.ensures ∙ c.first_of.ensures in
    subst (λ (all : List ℕ). IsGiven (IsContent image of) all (Some c.in_ok-content.content)) (sym are)
    (given_row (IsContent image of) rows.first rows.count c.in_ok-content.content one (subst (λ (b : List ℕ). IsContent image of rows.first b) (sym content) is))
