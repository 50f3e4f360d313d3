use Rattle.std.proofs.Common.{◌≡◌, ℕ, suc, ◌+◌, take, get_or, sym, ap, ◌∙◌, arith}
use Rattle.il_lexer.specs.WordKeys.{key_more, key_from}
use Rattle.il_lexer.proofs.KeyLemmas.{key-more}
use Rattle.il_lexer.proofs.names.longer.Goals as goal

pub returns-clause-key : goal.returns-clause-key
returns-clause-key c =
    let bs = c.args.rest.now in
    let n = c.args.start.length in
    let one : suc n ≡ n + 1 = omega arith in
    c.key_more.ensures ∙ ap (λ (k : ℕ). key_more k (get_or bs n 0)) c.requires.key ∙
    sym (key-more 0 bs n c.requires.within) ∙ ap (λ (m : ℕ). key_from 0 (take m bs)) one
