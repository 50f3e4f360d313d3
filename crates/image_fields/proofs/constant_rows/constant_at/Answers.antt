use Rattle.std.proofs.Common.{◌≡◌, ℕ, sym, ◌∙◌, ap}
use Rattle.std.proofs.lemmas.Option.{none-some}
use Rattle.metadata_tables.specs.Stream.{cell}
use Rattle.image_model.specs.Columns.{constant_type, constant_value}
use Rattle.image_model.specs.Constants.{constant_of}
use Rattle.image_model.specs.Streams.{blobs_of}
use Rattle.image_fields.proofs.constant_rows.constant_at.Goals as goal

pub unreachable-requires : goal.unreachable-requires
unreachable-requires c =
    let image = c.args.image.now in
    let h = c.requires.is in
    let element : c.cell-element.result ≡ constant_type image c.args.row = c.cell-element.ensures ∙ ap (λ stream. cell stream 0x0B c.args.row 0) c.tables.ensures.tables in
    let value = c.one_content_at_an_index.ensures.blob (blobs_of image) (constant_value image c.args.row) h.1.0 c.blob_at-value.result.now h.1.1 c.blob_at-value.ensures in
    none-some h.0 (sym c.in-None.is ∙ c.in_ok-found.ensures ∙ ap (λ (e : ℕ). constant_of e c.blob_at-value.result.now) element ∙ ap (constant_of (constant_type image c.args.row)) (sym value) ∙ h.1.2)

pub returns : goal.returns
returns c =
    let image = c.args.image.now in
    let element : c.cell-element.result ≡ constant_type image c.args.row = c.cell-element.ensures ∙ ap (λ stream. cell stream 0x0B c.args.row 0) c.tables.ensures.tables in
    (c.blob_at-value.result.now, c.blob_at-value.ensures, ap (λ (e : ℕ). constant_of e c.blob_at-value.result.now) (sym element) ∙ sym c.in_ok-found.ensures ∙ c.in-Some.is)
