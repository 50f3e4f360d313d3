use Rattle.std.proofs.Common.{◌≡◌, drop}
use Rattle.std.specs.Prelude.{filter}
use Rattle.source_model.specs.Forest.{Forest}
use Rattle.source_model.specs.Source.{Source}
use Rattle.source_syntax.specs.Labels.{ends_at, number_declared, AreLabels}
use Rattle.source_nodes.specs.Least.{least, sooner}
use Rattle.source_syntax.specs.Methods.{AreNames}
use Rattle.source_nodes.specs.Readers.{Reads}
use Rattle.check_bodies.proofs.branch_rules.first_at.Given as goal

abbrev pub invariant-loop-token : goal.invariant-loop-token
invariant-loop-token l = (s : Source) (f : Forest) → Reads l.reader s → AreLabels l.labels s f → AreNames s l.tokens
    → sooner l.found (least (filter (λ t. ends_at l.number (number_declared s f t)) (drop l.token-index l.tokens)))
    ≡ least (filter (λ t. ends_at l.number (number_declared s f t)) l.tokens)
