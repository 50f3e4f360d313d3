use Rattle.std.proofs.Common.{◌≡◌, length, refl, sym, ◌∙◌, ap}
use Rattle.metadata_tables.specs.Stream.{cell}
use Rattle.pe_layout.specs.FileMap.{readable}
use Rattle.image_model.specs.Columns.{data_rva}
use Rattle.data_demands.proofs.fields.readable.Goals as goal

pub returns-in-Some : goal.returns-in-Some
returns-in-Some c =
    let rva : c.cell-rva.result ≡ data_rva c.args.image.now c.args.place = c.cell-rva.ensures ∙ ap (λ stream. cell stream 0x1D c.args.place 0) c.tables.ensures.tables in
    ap length (c.in-Some.ensures.bytes ∙ ap (λ i. readable i c.cell-rva.result) c.pe.ensures) ∙ ap (λ r. length (readable c.args.image.now r)) rva

pub returns-in-None : goal.returns-in-None
returns-in-None c =
    let rva : c.cell-rva.result ≡ data_rva c.args.image.now c.args.place = c.cell-rva.ensures ∙ ap (λ stream. cell stream 0x1D c.args.place 0) c.tables.ensures.tables in
    let none = c.in-None.ensures.none.0 refl in
    sym (ap length (ap (λ r. readable c.args.image.now r) (sym rva) ∙ ap (λ i. readable i c.cell-rva.result) (sym c.pe.ensures) ∙ none))
