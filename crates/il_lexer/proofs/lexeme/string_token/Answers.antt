use Rattle.std.proofs.Common.{drop, Err, ap, ◌∙◌}
use Rattle.il_lexer.specs.declared.types.TokenKind.TheVariants.{QString}
use Rattle.il_lexer.specs.Quotes.{quoted_length, quote_fault}
use Rattle.il_lexer.specs.Tokens.{token_or, string_token}
use Rattle.il_lexer.proofs.lexeme.string_token.Goals as goal

pub returns-in-None-clause-value : goal.returns-in-None-clause-value
unfolding string_token
returns-in-None-clause-value c =
    ap Err (c.quote_fault.ensures ∙ ap (quote_fault 34) c.behind-text.ensures.value)
    ∙ ap (λ o. token_or o QString 1 (Err (quote_fault 34 (drop 1 c.args.rest.now))))
    (c.in-None.ensures.value ∙ ap (quoted_length 34) c.behind-text.ensures.value)
