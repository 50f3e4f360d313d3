use Rattle.std.proofs.Common.{inl, inr, ◌-◌, arith}
use Rattle.std.proofs.lemmas.Bool.{cases_lt}
use Rattle.code_flow.proofs.Prefixed.{past_kept}
use Rattle.code_flow.proofs.prefixes.past_from.Goals as goal

pub returns-then-known-k : goal.returns-then-known-k
returns-then-known-k c =
    let less = c.if-known-k.true in
    elim (cases_lt 0 c.args.k) [
      | inl e ↦ past_kept c.args.code.now (c.args.k - 1) c.args.k c.args.known (omega arith) (omega (arith, less)) (c.requires.known (c.args.k - 1) (omega arith))
      | inr e ↦ absurd (omega (arith, less, c.requires.first (omega arith)))
    ]
