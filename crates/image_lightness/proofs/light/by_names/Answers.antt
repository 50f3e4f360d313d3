use Rattle.std.proofs.Common.{List, ℕ, subst, sym}
use Rattle.image_model.specs.Naming.{TellsOwners}
use Rattle.name_weights.specs.Weights.{weighing, names_weighed}
use Rattle.image_lightness.proofs.Lighting.{weighed}
use Rattle.image_lightness.proofs.light.by_names.Goals as goal

pub by_facts-requires-clause-facts : goal.by_facts-requires-clause-facts
by_facts-requires-clause-facts c = λ n are.
    c.in_ok-specs.ensures weighing n.owners (subst (λ (i : List ℕ). TellsOwners i n.owners) (sym c.image.ensures) are.owners)
    (weighed c.args.survey.now c.requires.meets c.args.names.now.image (names_weighed c.args.names.now.image c.args.names.now.weights) c.requires.names c.tell_weights.ensures.tokens n are)
