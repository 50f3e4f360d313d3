use Rattle.std.proofs.Common.{sym, ◌∙◌}
use Rattle.std.proofs.lemmas.Option.{none-some}
use Rattle.image_source.specs.Ready.{KeepsOwner}
use Rattle.image_source.proofs.Keeping.{owner_kept, owner_is}
use Rattle.row_parts.proofs.Zips.{ok_as}
use Rattle.image_source.proofs.references.owner.Goals as goal

pub row_of-at-requires : goal.row_of-at-requires
row_of-at-requires c = (c.requires.1.0, c.requires.1.1, c.requires.1.2)

pub unreachable-requires : goal.unreachable-requires
unreachable-requires c =
    let at = c.row_of-at.result in
    let k = owner_kept c.args.source.now.image.now c.args.source.now.kept.now c.args.value at.0 at.1 c.row_of-at.ensures c.requires in
    none-some k.0 (c.in-None.ensures ∙ k.1)

pub returns : goal.returns
returns c =
    let at = c.row_of-at.result in
    ok_as (KeepsOwner c.args.source.now.image.now c.args.source.now.kept.now c.args.value) c.copy.result c.in-Some.owner.now c.copy.ensures
    (owner_is c.args.source.now.image.now c.args.source.now.kept.now c.args.value at.0 at.1 c.in-Some.owner.now c.row_of-at.ensures c.requires (sym c.in-Some.ensures))
