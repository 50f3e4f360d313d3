use Rattle.std.proofs.Common.{sym, ◌∙◌}
use Rattle.std.specs.List.{flat_map}
use Rattle.source_model.specs.Nodes.{nodes}
use Rattle.source_model.specs.TypeRules.{typar_undeclared}
use Rattle.source_model.specs.Undeclared.{param_type_undeclared}
use Rattle.source_syntax.proofs.LeastLemmas.{least_append, least_of_both}
use Rattle.check_names.proofs.undeclared.typar_undeclared.Goals as goal

pub returns : goal.returns
returns c s r =
    c.in_ok-first.ensures s r ∙ least_of_both (typar_undeclared s) (param_type_undeclared s) (nodes s)
    ∙ sym (least_append (flat_map (typar_undeclared s) (nodes s)) (flat_map (param_type_undeclared s) (nodes s)))
