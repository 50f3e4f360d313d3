use Rattle.std.proofs.Common.{◌≡◌, ℕ, sym, ◌∙◌, ap, subst}
use Rattle.metadata_tables.specs.Stream.{cell}
use Rattle.image_model.specs.Columns.{interface_type}
use Rattle.image_model.specs.Reading.{OwnerIs}
use Rattle.image_source.specs.Names.{names_of}
use Rattle.image_source.specs.Ready.{HasKeptOwner, KeepsOwner}
use Rattle.image_source.proofs.Keeping.{owner_named}
use Rattle.row_parts.proofs.Zips.{if_ok}
use Rattle.image_types.proofs.interface_rows.interface.Goals as goal

pub owner-requires : goal.owner-requires
owner-requires c =
    let image = c.args.source.now.image.now in
    let is : c.cell-of.result ≡ interface_type image c.args.row = c.cell-of.ensures ∙ ap (λ stream. cell stream 0x09 c.args.row 1) c.tables.ensures.tables in
    subst (HasKeptOwner image c.args.source.now.kept.now) (sym is) (c.requires.ready.named.interfaces c.args.row c.requires.there)

pub returns : goal.returns
returns c =
    let image = c.args.source.now.image.now in
    let kept = c.args.source.now.kept.now in
    let is : c.cell-of.result ≡ interface_type image c.args.row = c.cell-of.ensures ∙ ap (λ stream. cell stream 0x09 c.args.row 1) c.tables.ensures.tables in
    if_ok (KeepsOwner image kept c.cell-of.result) (OwnerIs image (names_of kept) (interface_type image c.args.row)) c.owner.result
    (λ o k. subst (λ (value : ℕ). OwnerIs image (names_of kept) value o) is (owner_named image kept c.cell-of.result o k)) c.owner.ensures
