use Rattle.std.proofs.Common.{◌≡◌, ℕ, List, sym, ◌∙◌, ap, subst}
use Rattle.metadata_tables.specs.Stream.{cell}
use Rattle.pe_layout.specs.FileMap.{readable}
use Rattle.image_model.specs.Bodies.{IsBody}
use Rattle.image_model.specs.Columns.{method_rva}
use Rattle.image_source.specs.Names.{names_of}
use Rattle.image_source.proofs.bodies.body.Goals as goal

pub returns-then-rva-eq0 : goal.returns-then-rva-eq0
returns-then-rva-eq0 c =
    let is : c.cell-rva.result ≡ method_rva c.args.source.now.image.now c.args.row = c.cell-rva.ensures ∙ ap (λ stream. cell stream 0x06 c.args.row 0) c.tables.ensures.tables in
    sym is ∙ c.if-rva-eq0.true

pub body_in-requires : goal.body_in-requires
body_in-requires c =
    let image = c.args.source.now.image.now in
    let is : c.cell-rva.result ≡ method_rva image c.args.row = c.cell-rva.ensures ∙ ap (λ stream. cell stream 0x06 c.args.row 0) c.tables.ensures.tables in
    let b = c.requires.ready.named.bodies c.args.row c.requires.there (λ z. c.if-rva-eq0.false (is ∙ z)) in
    (b.0, subst (λ (bytes : List ℕ). IsBody (names_of c.args.source.now.kept.now) bytes b.0) (sym (c.bytes_at.ensures ∙ ap (readable image) is)) b.1)

pub returns : goal.returns
returns c =
    let image = c.args.source.now.image.now in
    let is : c.cell-rva.result ≡ method_rva image c.args.row = c.cell-rva.ensures ∙ ap (λ stream. cell stream 0x06 c.args.row 0) c.tables.ensures.tables in
    (λ z. c.if-rva-eq0.false (is ∙ z), subst (λ (bytes : List ℕ). IsBody (names_of c.args.source.now.kept.now) bytes c.in_ok-body.body) (c.bytes_at.ensures ∙ ap (readable image) is) c.in_ok-body.ensures)
