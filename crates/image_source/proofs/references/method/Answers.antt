use Rattle.std.proofs.Common.{sym, ◌∙◌, ap}
use Rattle.std.proofs.lemmas.Option.{none-some}
use Rattle.image_source.specs.Names.{names_of}
use Rattle.image_source.specs.Ready.{KeepsMethod}
use Rattle.image_source.proofs.Keeping.{method_kept}
use Rattle.row_parts.proofs.Zips.{ok_as}
use Rattle.image_source.proofs.references.method.Goals as goal

pub row_of-at-requires : goal.row_of-at-requires
row_of-at-requires c = (c.requires.1.0, c.requires.1.1, c.requires.1.2)

pub unreachable-requires : goal.unreachable-requires
unreachable-requires c =
    let at = c.row_of-at.result in
    let k = method_kept c.args.source.now.kept.now c.args.kind c.args.value at.0 at.1 c.row_of-at.ensures c.requires in
    none-some k.0 (c.in-None.ensures ∙ ap (names_of c.args.source.now.kept.now).methods c.token_of.ensures ∙ k.1)

pub returns : goal.returns
returns c =
    let at = c.row_of-at.result in
    ok_as (KeepsMethod c.args.source.now.kept.now c.args.kind c.args.value) c.copy.result c.in-Some.method.now c.copy.ensures
    (at.0, at.1, c.row_of-at.ensures, ap (names_of c.args.source.now.kept.now).methods (sym c.token_of.ensures) ∙ sym c.in-Some.ensures)
