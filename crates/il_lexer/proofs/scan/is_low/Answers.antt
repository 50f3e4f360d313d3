use Rattle.std.proofs.Common.{sym, ◌∙◌}
use Rattle.std.proofs.lemmas.Bool.{eqb-true}
use Rattle.il_lexer.proofs.SearchLemmas.{low}
use Rattle.il_lexer.proofs.scan.is_low.Goals as goal

pub returns : goal.returns
returns c = λ h. low c.args.source.now (sym c.before-2.ensures.value ∙ eqb-true _ _ h)
