use Rattle.std.proofs.Common.{ℕ, ◌≤◌, ◌^◌, min, ap, sym, ◌∙◌, arith}
use Rattle.source_model.specs.Shapes.{natural}
use Rattle.source_model.specs.Values.{integer}
use Rattle.param_lines.proofs.CappedLemmas.{beyond_negative, beyond_positive}
use Rattle.param_lines.proofs.capped.beyond_all.Goals as goal

pub returns-then-is_negative-clause-number : goal.returns-then-is_negative-clause-number
returns-then-is_negative-clause-number c far =
    sym (ap (λ (n : ℕ). min n 0x100000000) (beyond_negative c.args.spelling.now (sym c.is_negative.ensures ∙ c.if-is_negative.true)))

pub returns-else-is_negative-clause-number : goal.returns-else-is_negative-clause-number
returns-else-is_negative-clause-number c far =
    let large : 2 ^ 64 ≤ natural (integer c.args.spelling.now) = beyond_positive c.args.spelling.now (sym c.is_negative.ensures ∙ c.if-is_negative.false) far in
    omega (arith, large)
