use Rattle.std.proofs.Common.{◌≡◌, ℕ, ◌+◌, ◌&&◌, false, Some, drop, ap, ◌∙◌}
use Rattle.il_lexer.specs.Classes.{first_is}
use Rattle.il_lexer.proofs.PlainNames.{name-whole}
use Rattle.il_lexer.proofs.names.keyed_name.Goals as goal

pub returns-then-not-quote_follows-clause-name : goal.returns-then-not-quote_follows-clause-name
returns-then-not-quote_follows-clause-name c =
    let bs = c.args.rest.now in
    let n = c.dotted_ids-name.result.length in
    let p = c.quote_follows.ensures in
    let t = c.if-not-quote_follows.ensures in
    let q : (first_is 46 (drop n bs) && first_is 39 (drop (n + 1) bs)) ≡ false = cc in
    c.dotted_ids-name.ensures.name ∙ ap (λ (k : ℕ). Some k) (name-whole bs n c.dotted_ids-name.ensures.ends q)
