use Rattle.std.proofs.Common.{◌≡◌, ◌+◌, sym, ◌∙◌, ap, subst, below_more}
use Rattle.std.specs.Prelude.{Contains}
use Rattle.metadata_tables.specs.Stream.{cell}
use Rattle.image_model.specs.Columns.{semantics_kind}
use Rattle.member_demands.proofs.kinds.have_kinds.Goals as goal

pub returns-then-not-is_among : goal.returns-then-not-is_among
returns-then-not-is_among c =
    let is : c.cell-kind.result ≡ semantics_kind c.args.image.now (c.args.rows.first + c.loop-k.k)
    = c.cell-kind.ensures ∙ ap (λ stream. cell stream 0x18 (c.args.rows.first + c.loop-k.k) 0) c.tables-tables.ensures.tables in (
      λ never. cc,
      λ all.
          let yes = c.is_among.ensures.1 (subst (Contains c.args.kinds.now) (sym is) (all c.loop-k.k c.loop-k-test.true)) in
          let no = c.if-not-is_among.true in cc,
    )

pub loop-k-preserved : goal.loop-k-preserved
loop-k-preserved c =
    let is : c.cell-kind.result ≡ semantics_kind c.args.image.now (c.args.rows.first + c.loop-k.k)
    = c.cell-kind.ensures ∙ ap (λ stream. cell stream 0x18 (c.args.rows.first + c.loop-k.k) 0) c.tables-tables.ensures.tables in
    below_more (λ j. Contains c.args.kinds.now (semantics_kind c.args.image.now (c.args.rows.first + j))) c.loop-k.k c.loop-k.invariant
    (subst (Contains c.args.kinds.now) is (c.is_among.ensures.0 c.if-not-is_among.false))
