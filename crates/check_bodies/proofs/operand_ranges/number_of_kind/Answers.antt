use Rattle.std.proofs.Common.{ap, sym, ◌∙◌}
use Rattle.source_model.specs.TypeRules.{unless}
use Rattle.source_nodes.specs.Least.{least}
use Rattle.check_bodies.proofs.OperandLemmas.{fits_otherwise}
use Rattle.check_bodies.proofs.operand_ranges.number_of_kind.Goals as goal

pub returns-in_default : goal.returns-in_default
returns-in_default c s r =
    c.outside.ensures s r
    ∙ ap (λ f. least (unless f s c.args.token)) (sym (fits_otherwise c.args.kind c.in_default.not-Num8 c.in_default.not-Num32 c.in_default.not-Num64))
