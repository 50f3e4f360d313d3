use Rattle.std.proofs.Common.{inl, inr, arith, length}
use Rattle.std.proofs.lemmas.Bool.{cases_lt, eq-eqb}
use Rattle.stack_states.proofs.Sharing.{same_all}
use Rattle.stack_states.proofs.alike.same_stack.Goals as goal

pub returns : goal.returns
returns c =
    let n = c.same_count.result in
    let s = c.args.s.now in (
      λ yes. same_all c.args.pool.now s c.args.t.now n c.requires.depth (grind arith) c.same_count.ensures.same,
      λ e. elim (cases_lt n (length s)) [
        | inl below ↦ absurd (c.same_count.ensures.differ below e)
        | inr all ↦ eq-eqb n (length s) (omega (arith, c.same_count.ensures.most))
      ],
    )
