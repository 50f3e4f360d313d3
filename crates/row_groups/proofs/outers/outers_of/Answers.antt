use Rattle.std.proofs.Common.{◌≡◌, ap, subst, ◌∙◌, arith}
use Rattle.metadata_tables.specs.Stream.{row_count}
use Rattle.image_model.specs.Rows.{count_of}
use Rattle.row_groups.proofs.Encloses.{AreSoFar, all_outers}
use Rattle.row_groups.proofs.outers.outers_of.Goals as goal

pub returns : goal.returns
returns c =
    let end : c.rows-row-end.result ≡ count_of c.args.image.now 0x29 = c.rows-row-end.ensures.rows ∙ ap (λ stream. row_count stream 0x29) c.tables-tables.ensures.tables in
    let all : c.loop-row.row ≡ count_of c.args.image.now 0x29 = let t = c.loop-row-test.false in let a = c.loop-row.auto.row-end in omega arith in
    all_outers c.args.image.now c.loop-row.outers.items (subst (λ upto. AreSoFar c.args.image.now upto c.loop-row.outers.items) all c.loop-row.invariant)
