use Rattle.std.proofs.Common.{sym, ◌∙◌}
use Rattle.std.specs.List.{flat_map}
use Rattle.source_model.specs.Nodes.{nodes}
use Rattle.source_model.specs.OutOfRange.{class_too_deep}
use Rattle.source_model.specs.TypeRules.{path_too_long}
use Rattle.source_syntax.proofs.LeastLemmas.{least_append, least_of_both}
use Rattle.check_names.proofs.nestings.nesting_too_deep.Goals as goal

pub returns : goal.returns
returns c s r =
    c.in_ok-first.ensures s r ∙ least_of_both class_too_deep path_too_long (nodes s)
    ∙ sym (least_append (flat_map class_too_deep (nodes s)) (flat_map path_too_long (nodes s)))
