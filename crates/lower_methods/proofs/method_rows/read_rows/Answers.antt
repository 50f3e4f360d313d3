use Rattle.std.proofs.Common.{sym, ◌∙◌}
use Rattle.source_flags.proofs.Gathered.{has_bodies}
use Rattle.lower_bodies.specs.HeldItems.{line_forms}
use Rattle.lower_bodies.proofs.HeldLemmas.{not_held}
use Rattle.lower_bodies.proofs.PastLemmas.{lines_unpassed}
use Rattle.lower_methods.proofs.method_rows.read_rows.Goals as goal

pub returns-else-held : goal.returns-else-held
returns-else-held c s a x f in_it e each held =
    let none = not_held line_forms lines_unpassed s f (has_bodies s f each) (sym held.lines ∙ c.if-held.false) in
    c.rows_without_lines.ensures s a x f in_it e each held none
