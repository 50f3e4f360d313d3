use Rattle.std.proofs.Common.{sym, subst, ℕ}
use Rattle.metadata_tables.specs.Encoding.{FitsWidths}
use Rattle.image_layout.proofs.IndexLemmas.{fits_widths}
use Rattle.image_layout.proofs.layout.encode_rows.Goals as goal

pub encode-requires : goal.encode-requires
encode-requires c =
    subst (λ (w : ℕ). FitsWidths c.args.rows.now w) (sym c.heap_flags.ensures)
    (fits_widths c.indexes_fit.ensures c.args.refs.now c.args.rows.now c.requires.indexes c.requires.small)
