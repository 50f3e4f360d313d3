use Rattle.std.proofs.Common.{List, ℕ, subst, sym, ap, ◌∙◌}
use Rattle.image_model.specs.Streams.{strings_of}
use Rattle.name_weights.specs.Weights.{AreWeights}
use Rattle.image_lightness.proofs.Lighting.{known_along}
use Rattle.image_lightness.proofs.light.by_signatures.Goals as goal

pub new-members-requires-clause-names : goal.new-members-requires-clause-names
new-members-requires-clause-names g c = c.requires.names ∙ sym c.image.ensures

pub new-members-requires-clause-lengths : goal.new-members-requires-clause-lengths
new-members-requires-clause-lengths g c = c.requires.lengths ∙ sym (ap strings_of c.image.ensures)

pub new-members-requires-clause-signatures : goal.new-members-requires-clause-signatures
new-members-requires-clause-signatures g c = c.requires.image ∙ sym c.image.ensures

pub new-requires : goal.new-requires
new-requires g c =
    rw (c.new-members.ensures.names, c.new-members.ensures.signatures)
    (known_along c.args.survey.now c.requires.meets c.new-members.result.image.now c.args.names.now.weights (g.O.Owners.facts c.args.signatures.now.owners.now) (c.new-members.ensures.image ∙ c.image.ensures)
    (subst (λ (i : List ℕ). AreWeights i c.args.names.now.weights) c.requires.names c.tell_weights.ensures.weights) c.requires.facts)

pub by_weights-requires-clause-weights : goal.by_weights-requires-clause-weights
by_weights-requires-clause-weights g c = rw (c.new-members.ensures.image, c.image.ensures) at c.in_ok-weights.ensures
