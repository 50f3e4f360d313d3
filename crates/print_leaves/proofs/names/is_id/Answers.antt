use Rattle.std.proofs.Common.{sym, ◌∙◌}
use Rattle.print_leaves.proofs.Ids.{id_true}
use Rattle.print_leaves.proofs.names.is_id.Goals as goal

pub returns-then-is_id_start : goal.returns-then-is_id_start
returns-then-is_id_start c =
    c.are_parts.ensures ∙ id_true c.args.text.now c.in-len1-up.len_at_least (sym c.is_id_start.ensures ∙ c.if-is_id_start.true)
