use Rattle.std.proofs.Common.{sym, subst, ℕ, ◌∙◌}
use Rattle.std.proofs.lemmas.Bool.{false≢true}
use Rattle.image_model.specs.Used.{IsReference}
use Rattle.image_used.specs.Going.{OthersOf, RowsOf}
use Rattle.image_used.proofs.Spreading.{on_ok}
use Rattle.image_used.proofs.Going.{passed_none, passed_as}
use Rattle.image_used.proofs.spread.Spread.mark_by_table.Goals as goal

pub returns-then-is_reference : goal.returns-then-is_reference
returns-then-is_reference c =
    passed_none c.args.image.now c.args.self.now.marks c.args.self.now.todo c.args.self.now.seen (OthersOf c.args.image.now c.args.table) c.requires
    (λ t r n. n.1 (subst IsReference (sym n.0) (c.is_reference.ensures.0 c.if-is_reference.true)))

pub mark_by_rows-requires-clause-other : goal.mark_by_rows-requires-clause-other
mark_by_rows-requires-clause-other c = λ ref. false≢true (sym c.if-is_reference.false ∙ c.is_reference.ensures.1 ref)

pub returns : goal.returns
returns c =
    on_ok c.mark_by_rows.result c.mark_by_rows.ensures
    (passed_as c.args.image.now c.args.self.now.marks c.mark_by_rows.new.self.marks c.mark_by_rows.new.self.todo c.mark_by_rows.new.self.seen (RowsOf c.args.image.now c.args.table) (OthersOf c.args.image.now c.args.table) (λ t r n. (n.0, n.2)))
