use Rattle.std.proofs.Common.{◌≡◌, ℕ, sym, ◌∙◌, ap, subst}
use Rattle.metadata_tables.specs.Stream.{cell}
use Rattle.metadata_tables.specs.declared.coded.Coded.TheVariants.{CustomAttributeType}
use Rattle.image_model.specs.Columns.{attribute_type, attribute_value}
use Rattle.image_model.specs.Reading.{BlobIs}
use Rattle.image_model.specs.Rows.{Names}
use Rattle.image_source.specs.Ready.{HasKeptMethod, KeepsMethod}
use Rattle.row_parts.proofs.Zips.{ok_has}
use Rattle.image_attributes.proofs.attribute_rows.attribute.Goals as goal

pub method-requires : goal.method-requires
method-requires c =
    let image = c.args.source.now.image.now in
    let is : c.cell-of.result ≡ attribute_type image c.args.row = c.cell-of.ensures ∙ ap (λ stream. cell stream 0x0C c.args.row 1) c.tables.ensures.tables in
    subst (HasKeptMethod c.args.source.now.kept.now CustomAttributeType) (sym is) (c.requires.ready.named.constructors c.args.row c.requires.there)

pub returns : goal.returns
returns c =
    let image = c.args.source.now.image.now in
    let is : c.cell-of.result ≡ attribute_type image c.args.row = c.cell-of.ensures ∙ ap (λ stream. cell stream 0x0C c.args.row 1) c.tables.ensures.tables in
    let it = c.in_ok-constructor in
    let k = ok_has (KeepsMethod c.args.source.now.kept.now CustomAttributeType c.cell-of.result) c.method.result it.constructor c.in_ok-constructor.ensures.0 c.method.ensures in
    record {
      table = k.0;
      constructor_row = k.1;
      coded = subst (λ (value : ℕ). Names CustomAttributeType value k.0 k.1) is k.2;
      constructor = k.3;
      value = ok_has (BlobIs image (attribute_value image c.args.row)) c.blob_of.result it.value c.in_ok-constructor.ensures.1 c.blob_of.ensures;
    }

pub blob_of-requires-clause-meets : goal.blob_of-requires-clause-meets
blob_of-requires-clause-meets c = c.requires.ready.structure
