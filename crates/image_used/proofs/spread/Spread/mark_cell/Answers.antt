use Rattle.std.proofs.Common.{sym, ◌∙◌}
use Rattle.image_model.specs.Rows.{Names}
use Rattle.image_used.specs.Spreading.{ColumnNames}
use Rattle.image_used.proofs.Spreading.{on_ok, spreads_none, spreads_as}
use Rattle.image_used.proofs.Telling.{column_names, names_column}
use Rattle.image_used.proofs.spread.Spread.mark_cell.Goals as goal

pub returns-in-Tagged-clause-marked : goal.returns-in-Tagged-clause-marked
returns-in-Tagged-clause-marked c =
    on_ok c.mark_coded.result c.mark_coded.ensures.marked
    (spreads_as c.args.self.now.marks c.mark_coded.new.self.marks c.args.self.now.todo c.mark_coded.new.self.todo _ (ColumnNames c.args.column.now c.args.value) (column_names c.in-Tagged.is) (names_column c.in-Tagged.is))

pub returns-in-Number-clause-marked : goal.returns-in-Number-clause-marked
returns-in-Number-clause-marked c =
    spreads_none c.args.self.now.marks c.args.self.now.todo (ColumnNames c.args.column.now c.args.value) (λ t r n p. absurd (let f = sym c.in-Number.is ∙ n.coded in cc))

pub returns-in-Strings-clause-marked : goal.returns-in-Strings-clause-marked
returns-in-Strings-clause-marked c =
    spreads_none c.args.self.now.marks c.args.self.now.todo (ColumnNames c.args.column.now c.args.value) (λ t r n p. absurd (let f = sym c.in-Strings.is ∙ n.coded in cc))

pub returns-in-Guids-clause-marked : goal.returns-in-Guids-clause-marked
returns-in-Guids-clause-marked c =
    spreads_none c.args.self.now.marks c.args.self.now.todo (ColumnNames c.args.column.now c.args.value) (λ t r n p. absurd (let f = sym c.in-Guids.is ∙ n.coded in cc))

pub returns-in-Blobs-clause-marked : goal.returns-in-Blobs-clause-marked
returns-in-Blobs-clause-marked c =
    spreads_none c.args.self.now.marks c.args.self.now.todo (ColumnNames c.args.column.now c.args.value) (λ t r n p. absurd (let f = sym c.in-Blobs.is ∙ n.coded in cc))

pub returns-in-Row-clause-marked : goal.returns-in-Row-clause-marked
returns-in-Row-clause-marked c =
    spreads_none c.args.self.now.marks c.args.self.now.todo (ColumnNames c.args.column.now c.args.value) (λ t r n p. absurd (let f = sym c.in-Row.is ∙ n.coded in cc))

pub returns-in-Run-clause-marked : goal.returns-in-Run-clause-marked
returns-in-Run-clause-marked c =
    spreads_none c.args.self.now.marks c.args.self.now.todo (ColumnNames c.args.column.now c.args.value) (λ t r n p. absurd (let f = sym c.in-Run.is ∙ n.coded in cc))
