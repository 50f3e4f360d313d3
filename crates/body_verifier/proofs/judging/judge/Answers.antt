use Rattle.std.proofs.Common.{sym, subst, ℕ}
use Rattle.type_hierarchy.specs.Hierarchy.{Hierarchy}
use Rattle.type_hierarchy.specs.World.{hierarchy}
use Rattle.code_flow.specs.Rows.{Row, row_of}
use Rattle.stack_rows.specs.RowMeanings.{stack_meant}
use Rattle.body_verifier.specs.Verdicts.{AreStackBreaks}
use Rattle.body_verifier.proofs.VerdictLemmas.{judged}
use Rattle.body_verifier.proofs.judging.judge.Goals as goal

pub returns-clause-ok : goal.returns-clause-ok
returns-clause-ok c = λ f typing k i types bound here acts row is code.
    let b = c.in_ok-stack.stack in
    let s = stack_meant c.args.w.now.nodes c.args.stack.now in
    let P : Row → Type 0 = λ (x : Row). AreStackBreaks (hierarchy c.args.w.now) c.args.bound x s b in
    let Q : Hierarchy → Type 0 = λ (x : Hierarchy). AreStackBreaks x c.args.bound (row_of f k i) s b in
    let R : ℕ → Type 0 = λ (n : ℕ). AreStackBreaks f.types n (row_of f k i) s b in
    judged f typing k i s c.args.does b c.args.code.now here acts is (subst R (sym bound) (subst Q (sym types) (subst P row c.in_ok-stack.ensures.ok))) code c.first_rule.result c.first_rule.ensures
