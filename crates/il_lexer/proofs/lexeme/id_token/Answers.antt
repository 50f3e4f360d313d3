use Rattle.std.proofs.Common.{◌≡◌, false, drop, Some, Ok, Err, sym, ap, ◌∙◌}
use Rattle.il_lexer.specs.Classes.{first_is}
use Rattle.il_lexer.specs.Spellings.{name_length}
use Rattle.il_lexer.specs.Tokens.{id_token, named_or}
use Rattle.il_lexer.proofs.PlainNames.{name-alone}
use Rattle.il_lexer.proofs.lexeme.id_token.Goals as goal

pub returns-then-not-stands_at-clause-value : goal.returns-then-not-stands_at-clause-value
unfolding id_token
returns-then-not-stands_at-clause-value c =
    let bs = c.args.rest.now in
    let n = c.first_id-first.result.length in
    let p = c.stands_at.ensures in
    let t = c.if-not-stands_at.ensures in
    let apart : first_is 46 (drop n bs) ≡ false = cc in
    let name : name_length bs ≡ Some n = name-alone bs n c.requires c.first_id-first.ensures.long apart in
    ap (λ l. Ok l) c.plain_token.ensures.value ∙ sym (ap (λ o. named_or bs o (Err 5)) name)
