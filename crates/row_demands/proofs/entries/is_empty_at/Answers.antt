use Rattle.std.proofs.Common.{◌≡◌, ℕ, IsTrue, true, nat_eq, refl, get_or}
use Rattle.std.specs.Prelude.{◌↔◌}
use Rattle.std.proofs.lemmas.Bool.{eqb-true}
use Rattle.row_demands.proofs.Texts.{empty_at}
use Rattle.row_demands.proofs.entries.is_empty_at.Goals as goal

is_zero : (a : ℕ) → IsTrue (nat_eq a 0) ↔ (a ≡ 0)
is_zero a = (λ yes. eqb-true a 0 yes, λ e. rw e refl)

pub returns-then-at-heap : goal.returns-then-at-heap
returns-then-at-heap c text h =
    let byte = get_or c.args.heap.now c.args.at 0 in
    let e = empty_at c.args.heap.now c.args.at c.if-at-eq0.false text h in
    let z = is_zero byte in
    (λ yes. e.1 (z.0 yes), λ none. z.1 (e.0 none))
