use Rattle.std.proofs.Common.{◌≡◌, ◌∙◌, sym, ap, [], ◌∷◌, ◌++◌, drop, take, reverse}
use Rattle.std.proofs.Math.Seq.{take-add}
use Rattle.stack_states.specs.Chains.{values_of}
use Rattle.stack_states.proofs.stack.few.Goals as goal

pub returns-then-count-eq1 : goal.returns-then-count-eq1
returns-then-count-eq1 c = sym (ap reverse (ap (λ n. take n (values_of c.args.link.now)) c.if-count-eq1.true ∙ c.in-Some.ensures))

pub returns-then-count-eq2 : goal.returns-then-count-eq2
returns-then-count-eq2 c =
    let vs = values_of c.args.link.now in
    let first : take 1 vs ≡ c.in-Some.top ∷ [] = c.in-Some.ensures in
    let second : take 1 (drop 1 vs) ≡ c.in-Some-first.under ∷ [] = ap (take 1) (sym c.next.ensures) ∙ c.in-Some-first.ensures in
    sym (ap reverse (ap (λ n. take n vs) c.if-count-eq2.true ∙ take-add 1 1 vs ∙ (λ i. first i ++ second i)))
