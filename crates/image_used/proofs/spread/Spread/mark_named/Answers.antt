use Rattle.image_model.specs.Used.{CellNames, RowNames}
use Rattle.image_used.specs.Spreading.{SignatureLeads}
use Rattle.image_used.proofs.Spreading.{on_ok, spreads_both}
use Rattle.image_used.proofs.Telling.{row_names, names_row, ready_kept}
use Rattle.image_used.proofs.spread.Spread.mark_named.Goals as goal

pub mark_signature-requires-clause-ready : goal.mark_signature-requires-clause-ready
mark_signature-requires-clause-ready c =
    ready_kept c.args.image.now c.args.self.now.marks c.mark_cells.new.self.marks c.args.self.now.todo c.mark_cells.new.self.todo c.args.self.now.seen c.mark_cells.new.self.seen (CellNames c.args.image.now c.args.table c.args.row) c.requires.ready
    c.in_ok-mark_cells.ensures.marked c.mark_cells.ensures.seen

pub returns-clause-marked : goal.returns-clause-marked
returns-clause-marked c =
    on_ok c.mark_signature.result c.mark_signature.ensures.marked
    (spreads_both c.args.self.now.marks c.mark_cells.new.self.marks c.mark_signature.new.self.marks c.args.self.now.todo c.mark_cells.new.self.todo c.mark_signature.new.self.todo (CellNames c.args.image.now c.args.table c.args.row)
    (SignatureLeads c.args.image.now c.args.table c.args.row) (RowNames c.args.image.now c.args.table c.args.row) (row_names c.args.image.now c.args.table c.args.row) (names_row c.args.image.now c.args.table c.args.row) c.in_ok-mark_cells.ensures.marked)
