use Rattle.std.proofs.Common.{length, sym, ap, ◌∙◌, arith}
use Rattle.std.proofs.lemmas.Bool.{ltb-false}
use Rattle.metadata_tables.specs.Stream.{row_count}
use Rattle.metadata_tables.proofs.Places.{rows_past, known}
use Rattle.metadata_tables.proofs.view.TableView.rows.Goals as goal

pub returns-in-None-clause-rows : goal.returns-in-None-clause-rows
returns-in-None-clause-rows c =
    let past = ltb-false c.from.result (length c.self.inside.indexes) (sym c.in-None.ensures.lookup.0) in
    let none = rows_past c.self.inside.stream.now (known c.self.inside.stream.now c.self.invariant.whole) c.from.result (omega (arith, past, c.self.invariant.there)) in
    sym none ∙ ap (λ s. row_count s c.from.result) c.self.view_is ∙ ap (row_count c.args.self.now) c.from.ensures
