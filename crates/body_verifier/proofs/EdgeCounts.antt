-- The joins that the edges of a body can take, by the pairs of instructions that have an edge.
use Rattle.std.proofs.Common.{◌≡◌, inl, inr, refl, sym, ◌∙◌, ap, ℕ, zero, suc, ◌+◌, ◌*◌, ◌^◌, ◌<◌, ◌≤◌, arith, Bool, true, false, List, [], ◌∷◌, length, get_or}
use Rattle.std.specs.Prelude.{nat_eq}
use Rattle.std.specs.List.{Contains, sum_by}
use Rattle.std.proofs.lemmas.Bool.{cases_eq}
use Rattle.std.proofs.lemmas.List.Elements.{Contains-get_or}
use Rattle.std.proofs.Math.Nat.{mul-le-mul_left, mul-le-mul_right, mul_comm}
use Rattle.code_flow.specs.declared.goings.Going.{Going}
use Rattle.code_flow.specs.Frames.{Frame}
use Rattle.code_flow.specs.Goings.{carries_of, AreGoings, IsGoings}
use Rattle.body_verifier.specs.Potential.{total}
use Rattle.body_verifier.specs.StepBound.{AreEdges, step_bound}
use Rattle.body_verifier.specs.Ways.{Setup, charge_of, charge, step_budget}
use Rattle.body_verifier.proofs.SolveLemmas.{cost_of, cost_total}
use Rattle.body_verifier.proofs.Totals.{total_at_most, total_times}
use Rattle.body_verifier.proofs.EdgeWeights.{pick, weigh, weigh_low, row_sum, charges_are, charges_low, row_low, counts_low}

-- the joins of each edge, where all are looked at once
pub charges_by_edges : (f : Frame) (all : List (List Going)) (pairs : List (ℕ × ℕ)) → IsGoings f all → AreEdges f pairs
    → sum_by (charge (length f.code)) all ≤ (length f.code + 1) * length pairs
charges_by_edges f all pairs h edges =
    let n = length f.code in
    let cost = cost_total n all h.count in
    let each = total_at_most (cost_of n all) (λ k. (n + 1) * row_sum (λ t. 1) k pairs) n (λ k below.
    let gs = get_or all k [] in
    let go = h.are k below in
    let are = charges_are n gs in
    let low = charges_low n k pairs gs (λ j d inside.
    let g = get_or gs j d in
    let e = go.each g (Contains-get_or gs j d inside) in
    edges.all (k, g.to) (record { from = below; to = e.0; carries = carries_of f g.carries; edge = e.1 })) in
    let row = row_low (λ t. weigh (charge_of n) t gs) (n + 1) k pairs (λ t. weigh_low f n k t gs go) in
    omega arith) in
    let times = total_times (λ k. row_sum (λ t. 1) k pairs) (n + 1) n in
    let counts = mul-le-mul_left (n + 1) (counts_low n pairs) in
    omega arith

pub times_bound : (a c d e : ℕ) → c ≤ d * e → a * c ≤ e * d * a
times_bound a c d e h =
    let p : a * c ≤ a * (d * e) = mul-le-mul_left a h in
    let q : a * (d * e) ≡ e * d * a = mul_comm a (d * e) ∙ ap (λ (x : ℕ). x * a) (mul_comm d e) in
    omega arith

pub budget_bound : (at : Setup) (all : List (List Going)) (pairs : List (ℕ × ℕ)) → IsGoings at.frame all → AreEdges at.frame pairs
    → step_budget at all ≤ step_bound (length pairs) (length at.frame.code + 1) at.top
budget_bound at all pairs h edges =
    let n = length at.frame.code in
    times_bound (2 + (n + 1) * at.top) (sum_by (charge n) all) (n + 1) (length pairs) (charges_by_edges at.frame all pairs h edges)

-- ---- without pairs

-- the pairs of `k` with each number below `n`
columns : ℕ → ℕ → List (ℕ × ℕ)
columns k zero = []
columns k (suc n) = (k, n) ∷ columns k n

columns_long : (k n : ℕ) → length (columns k n) ≡ n
unfolding columns
columns_long k zero = refl
columns_long k (suc n) = let more = columns_long k n in omega arith

columns_hold : (k n t : ℕ) → t < n → Contains (columns k n) (k, t)
unfolding columns
columns_hold k zero t below = absurd (omega arith)
columns_hold k (suc n) t below = elim (cases_eq t n) [
  | inl is ↦ (0, omega arith, ap (λ (m : ℕ). let p : ℕ × ℕ = (k, m) in p) (sym is))
  | inr ne ↦ let r = columns_hold k n t (omega arith) in (suc r.0, omega (arith, r.1), r.2)
]

row_count_by : (b : Bool) (n r : ℕ) → r ≤ n → pick b 1 + r ≤ suc n
unfolding pick
row_count_by true n r h = omega arith
row_count_by false n r h = omega arith

row_count : (k n m : ℕ) → row_sum (λ t. 1) k (columns m n) ≤ n
unfolding row_sum columns pick
row_count k zero m = omega arith
row_count k (suc n) m = let more = row_count k n m in row_count_by (nat_eq m k) n (row_sum (λ t. 1) k (columns m n)) more

charge_low : (f : Frame) (k : ℕ) (gs : List Going) → AreGoings f k gs → charge (length f.code) gs ≤ (length f.code + 1) * length f.code
charge_low f k gs go =
    let n = length f.code in
    let es = columns k n in
    let are = charges_are n gs in
    let low = charges_low n k es gs (λ j d inside.
    let g = get_or gs j d in
    columns_hold k n g.to (go.each g (Contains-get_or gs j d inside)).0) in
    let row = row_low (λ t. weigh (charge_of n) t gs) (n + 1) k es (λ t. weigh_low f n k t gs go) in
    let count = mul-le-mul_left (n + 1) (row_count k n k) in
    omega arith

total_of : (c n : ℕ) → total (λ k. c) n ≡ n * c
unfolding total
total_of c zero = omega arith
total_of c (suc n) = let more = total_of c n in omega arith

products : (a b c d : ℕ) → a ≤ b → c ≤ d → a * c ≤ b * d
products a b c d h i = let p = mul-le-mul_right c h in let q = mul-le-mul_left b i in omega arith

-- the joins of a body that isn't too long
pub room_low : (at : Setup) (all : List (List Going)) → IsGoings at.frame all → length at.frame.code ≤ 2 ^ 22 → at.top ≤ 2 ^ 24 → step_budget at all ≤ 2 ^ 126
room_low at all h short low =
    let n = length at.frame.code in
    let sum = cost_total n all h.count in
    let each = total_at_most (cost_of n all) (λ k. (n + 1) * n) n (λ k below. charge_low at.frame k (get_or all k []) (h.are k below)) in
    let flat = total_of ((n + 1) * n) n in
    let one = products (n + 1) (2 ^ 23) n (2 ^ 22) (omega arith) short in
    let whole = products n (2 ^ 22) ((n + 1) * n) (2 ^ 23 * 2 ^ 22) short one in
    let tall = products (n + 1) (2 ^ 23) at.top (2 ^ 24) (omega arith) low in
    let budget = products (2 + (n + 1) * at.top) (2 + 2 ^ 23 * 2 ^ 24) (sum_by (charge n) all) (2 ^ 22 * (2 ^ 23 * 2 ^ 22)) (omega arith) (omega arith) in
    omega arith
