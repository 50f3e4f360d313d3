use Rattle.std.proofs.Common.{◌≡◌, Some, sym, ◌∙◌, ap}
use Rattle.std.proofs.lemmas.Option.{none-some}
use Rattle.metadata_tables.specs.CodedIndex.{unpacked}
use Rattle.metadata_tables.specs.Stream.{cell}
use Rattle.metadata_tables.specs.declared.coded.Coded.TheVariants.{MethodDefOrRef}
use Rattle.image_model.specs.Columns.{override_body}
use Rattle.image_methods.proofs.Bodies.{own_body}
use Rattle.image_methods.proofs.override_rows.overrider.Goals as goal

pub unreachable-requires : goal.unreachable-requires
unreachable-requires c =
    let is : c.cell.result ≡ override_body c.args.image.now c.args.row = c.cell.ensures ∙ ap (λ stream. cell stream 0x19 c.args.row 1) c.tables.ensures.tables in
    none-some _ (c.in-None.ensures.value ∙ ap (unpacked MethodDefOrRef) is ∙ c.requires.own.1)

pub returns : goal.returns
returns c =
    let image = c.args.image.now in
    let is : c.cell.result ≡ override_body image c.args.row = c.cell.ensures ∙ ap (λ stream. cell stream 0x19 c.args.row 1) c.tables.ensures.tables in
    own_body (override_body image c.args.row) c.requires.own.0 c.in-Some.at.0 c.in-Some.at.1 c.requires.own.1 (ap (unpacked MethodDefOrRef) (sym is) ∙ sym c.in-Some.ensures.value) (c.in-Some.ensures.back ∙ ap Some is)
