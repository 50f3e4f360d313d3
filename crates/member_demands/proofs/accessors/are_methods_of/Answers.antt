use Rattle.std.proofs.Common.{◌≡◌, ◌+◌, sym, ◌∙◌, ap, subst, below_more}
use Rattle.std.specs.Prelude.{Contains}
use Rattle.metadata_tables.specs.Stream.{cell}
use Rattle.image_model.specs.Columns.{semantics_method}
use Rattle.image_model.specs.Rows.{methods_of}
use Rattle.member_demands.proofs.accessors.are_methods_of.Goals as goal

pub returns-then-not-is_method_of : goal.returns-then-not-is_method_of
returns-then-not-is_method_of c =
    let is : c.cell-method.result ≡ semantics_method c.args.image.now (c.args.rows.first + c.loop-k.k)
    = c.cell-method.ensures ∙ ap (λ stream. cell stream 0x18 (c.args.rows.first + c.loop-k.k) 1) c.tables-tables.ensures.tables in (
      λ never. cc,
      λ all.
          let yes = c.is_method_of.ensures.1 (subst (Contains (methods_of c.args.image.now c.args.type_row)) (sym is) (all c.loop-k.k c.loop-k-test.true)) in
          let no = c.if-not-is_method_of.true in cc,
    )

pub loop-k-preserved : goal.loop-k-preserved
loop-k-preserved c =
    let is : c.cell-method.result ≡ semantics_method c.args.image.now (c.args.rows.first + c.loop-k.k)
    = c.cell-method.ensures ∙ ap (λ stream. cell stream 0x18 (c.args.rows.first + c.loop-k.k) 1) c.tables-tables.ensures.tables in
    below_more (λ j. Contains (methods_of c.args.image.now c.args.type_row) (semantics_method c.args.image.now (c.args.rows.first + j))) c.loop-k.k c.loop-k.invariant
    (subst (Contains (methods_of c.args.image.now c.args.type_row)) is (c.is_method_of.ensures.0 c.if-not-is_method_of.false))
