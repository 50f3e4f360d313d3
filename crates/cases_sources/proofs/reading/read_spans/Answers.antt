use Rattle.std.proofs.Common.{List, subst}
use Rattle.il_lexer.specs.declared.types.Token.{Token}
use Rattle.ilasm_grammar.specs.Parsing.{IsTreeOf}
use Rattle.cases_sources.proofs.reading.read_spans.Goals as goal

-- a source has one list of tokens
pub elaborate-requires-clause-derives : goal.elaborate-requires-clause-derives
elaborate-requires-clause-derives c =
    subst (λ (ts : List Token). IsTreeOf ts c.in-Ok.tree)
    (c.lexes_in_one_way.ensures.tokens c.args.source.now _ _ c.requires.accepted.lexes c.in-Ok-tokens.ensures.lexes) c.in-Ok.ensures.tree
