use Rattle.std.proofs.Common.{◌≡◌, ℕ, sym, ◌∙◌, ap, subst}
use Rattle.metadata_tables.specs.Stream.{cell}
use Rattle.image_model.specs.Columns.{type_extends}
use Rattle.image_model.specs.Reading.{OwnerIs}
use Rattle.image_source.specs.Names.{names_of}
use Rattle.image_source.specs.Ready.{HasKeptOwner}
use Rattle.image_source.proofs.Keeping.{owner_named}
use Rattle.image_types.proofs.types.extends.Goals as goal

pub returns-then-value-eq0 : goal.returns-then-value-eq0
returns-then-value-eq0 c =
    let is : c.cell-value.result ≡ type_extends c.args.source.now.image.now c.args.row = c.cell-value.ensures ∙ ap (λ stream. cell stream 0x02 c.args.row 3) c.tables.ensures.tables in
    sym is ∙ c.if-value-eq0.true

pub owner-requires : goal.owner-requires
owner-requires c =
    let image = c.args.source.now.image.now in
    let is : c.cell-value.result ≡ type_extends image c.args.row = c.cell-value.ensures ∙ ap (λ stream. cell stream 0x02 c.args.row 3) c.tables.ensures.tables in
    subst (HasKeptOwner image c.args.source.now.kept.now) (sym is) (c.requires.ready.named.bases c.args.row c.requires.there (λ z. c.if-value-eq0.false (is ∙ z)))

pub returns : goal.returns
returns c =
    let image = c.args.source.now.image.now in
    let kept = c.args.source.now.kept.now in
    let is : c.cell-value.result ≡ type_extends image c.args.row = c.cell-value.ensures ∙ ap (λ stream. cell stream 0x02 c.args.row 3) c.tables.ensures.tables in
    (λ z. c.if-value-eq0.false (is ∙ z), subst (λ (value : ℕ). OwnerIs image (names_of kept) value c.in_ok-of.of) is (owner_named image kept c.cell-value.result c.in_ok-of.of c.in_ok-of.ensures))
