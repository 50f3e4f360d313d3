use Rattle.std.proofs.Common.{ap, ◌∙◌}
use Rattle.image_model.specs.Streams.{strings_of}
use Rattle.image_lightness.proofs.light.by_survey.Goals as goal

pub by_lengths-requires-clause-lengths : goal.by_lengths-requires-clause-lengths
by_lengths-requires-clause-lengths c = c.in_ok-lengths.ensures ∙ c.strings.ensures ∙ ap strings_of c.image.ensures
