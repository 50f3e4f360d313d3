use Rattle.std.proofs.Common.{ap, ◌∙◌}
use Rattle.source_model.specs.Constants.{wrapped}
use Rattle.source_model.specs.Values.{integer}
use Rattle.source_nodes.proofs.reader.Reader.wrapped_integer.Goals as goal

pub returns : goal.returns
returns c = λ s r. c.wrapped_integer.ensures ∙ ap (λ w. wrapped 64 (integer w)) (c.spelling.ensures.value s r)
