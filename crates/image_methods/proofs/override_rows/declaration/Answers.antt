use Rattle.std.proofs.Common.{◌≡◌, ℕ, sym, ◌∙◌, ap, subst, IfOk}
use Rattle.metadata_tables.specs.Stream.{cell}
use Rattle.metadata_tables.specs.declared.coded.Coded.TheVariants.{MethodDefOrRef}
use Rattle.image_model.specs.Columns.{override_declaration}
use Rattle.image_model.specs.Reading.{MethodIs}
use Rattle.image_source.specs.Names.{names_of}
use Rattle.image_source.specs.Ready.{HasKeptMethod}
use Rattle.image_methods.proofs.override_rows.declaration.Goals as goal

pub method-requires : goal.method-requires
method-requires c =
    let image = c.args.source.now.image.now in
    let is : c.cell-value.result ≡ override_declaration image c.args.row = c.cell-value.ensures ∙ ap (λ stream. cell stream 0x19 c.args.row 2) c.tables.ensures.tables in
    subst (HasKeptMethod c.args.source.now.kept.now MethodDefOrRef) (sym is) (c.requires.ready.named.declarations c.args.row c.requires.there)

pub returns : goal.returns
returns c =
    let image = c.args.source.now.image.now in
    let is : c.cell-value.result ≡ override_declaration image c.args.row = c.cell-value.ensures ∙ ap (λ stream. cell stream 0x19 c.args.row 2) c.tables.ensures.tables in
    subst (λ (value : ℕ). IfOk c.method.result (MethodIs (names_of c.args.source.now.kept.now) value)) is c.method.ensures
