use Rattle.std.proofs.Common.{ap, length, sym, ◌∙◌}
use Rattle.std.specs.Prelude.{◌==◌, not}
use Rattle.lower_members.proofs.ParamFlags.{has_flag}
use Rattle.lower_members.proofs.params.has_flags.Goals as goal

pub returns : goal.returns
returns c s f e ranged =
    ap not c.is_empty.ensures ∙ ap (λ ns. not (length ns == 0)) (c.child.ensures f e) ∙ sym (has_flag s f ranged)
