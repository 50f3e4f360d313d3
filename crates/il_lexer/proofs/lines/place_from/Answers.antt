use Rattle.std.proofs.Common.{ap, ◌∙◌}
use Rattle.il_lexer.specs.Lexing.{place_of}
use Rattle.il_lexer.proofs.PlaceLemmas.{place-within}
use Rattle.il_lexer.proofs.lines.place_from.Goals as goal

pub returns-clause-value : goal.returns-clause-value
returns-clause-value c =
    c.place_on.ensures.value ∙ ap (place_of c.args.source.now) c.min-within.ensures ∙ place-within c.args.source.now c.args.to
