-- The joins that the edges of a body can take where stacks are no deeper than a bound.
use Rattle.std.proofs.Common.{◌≡◌, ◌⊎◌, inl, inr, refl, sym, ap, subst, ℕ, suc, ◌+◌, ◌*◌, ◌<◌, ◌≤◌, arith, List, [], ◌∷◌, length, get_or}
use Rattle.std.specs.Prelude.{nat_eq, slice_get, Result, Ok, Err, IfOk}
use Rattle.std.specs.List.{Contains, sum_by}
use Rattle.std.proofs.lemmas.Bool.{eq-eqb}
use Rattle.std.proofs.lemmas.List.Elements.{at_from_Contains, Contains-get_or}
use Rattle.std.proofs.lemmas.List.Sums.{sum_by-append}
use Rattle.std.proofs.Math.Nat.{mul-le-mul_left}
use Rattle.code_flow.specs.declared.goings.Carried.{Carried}
use Rattle.code_flow.specs.declared.goings.Carried.TheVariants.{Flowing, Nothing, Object, Caught}
use Rattle.code_flow.specs.declared.goings.Going.{Going}
use Rattle.type_hierarchy.specs.Hierarchy.{Hierarchy}
use Rattle.type_hierarchy.specs.Stack as stacks
use Rattle.code_flow.specs.Edges.{Carries, stated, any_object, Edge}
use Rattle.code_flow.specs.Frames.{Frame}
use Rattle.code_flow.specs.Goings.{FlowTogether, BringTogether, BringsObject, any_comes, caught_comes, carries_of, found_in, AreGoings, IsGoings}
use Rattle.body_verifier.specs.Potential.{total}
use Rattle.body_verifier.specs.StepBound.{AreEdges, step_bound}
use Rattle.code_flow.specs.Typings.{State, unreached, stack, clash, Typing, AtMost, IsLeast}
use Rattle.body_verifier.specs.Ways.{Setup, IsCost, IsUnderAll, FlowsApart, depth_charge, depth_charges}
use Rattle.body_verifier.proofs.Totals.{total_at_most, total_times}
use Rattle.body_verifier.proofs.EdgeCounts.{times_bound}
use Rattle.body_verifier.proofs.EdgeWeights.{pick, weigh, weigh_once, row_sum, row_more, row_one, picked, row_low, counts_low}

charges_by : (Carried → ℕ) → List Going → ℕ
charges_by w [] = 0
charges_by w (g ∷ gs) = w g.carries + charges_by w gs

sums_are : (w : Carried → ℕ) (gs : List Going) → sum_by (λ (g : Going). w g.carries) gs ≡ charges_by w gs
unfolding charges_by
sums_are w [] = refl
sums_are w (g ∷ gs) = let more = sums_are w gs in let e = sum_by-append (λ (h : Going). w h.carries) (g ∷ []) gs in omega arith

by_rows : (w : Carried → ℕ) (k : ℕ) (es : List (ℕ × ℕ)) (gs : List Going) → ((j : ℕ) (d : Going) → j < length gs → Contains es (k, (get_or gs j d).to))
    → charges_by w gs ≤ row_sum (λ t. weigh w t gs) k es
unfolding charges_by weigh
by_rows w k es [] h = omega arith
by_rows w k es (g ∷ gs) h =
    let more = by_rows w k es gs (λ j d below. h (suc j) d (omega arith)) in
    let u : ℕ → ℕ = λ (t : ℕ). pick (nat_eq g.to t) (w g.carries) in
    let v : ℕ → ℕ = λ (t : ℕ). weigh w t gs in
    let sum = row_more u v (λ (t : ℕ). weigh w t (g ∷ gs)) k es (λ t. refl) in
    let r = at_from_Contains es (k, g.to) (h 0 g (omega arith)) in
    let one = row_one u k g.to es r.0 r.1 (r.2 (k, g.to)) in
    let e : u g.to ≡ w g.carries = picked (nat_eq g.to g.to) (w g.carries) (eq-eqb g.to g.to refl) in
    omega arith

abbrev Brings : Carried → Type 0
Brings c = (c ≡ Flowing) ⊎ BringsObject c

depth_low : (d : ℕ) (c : Carried) → depth_charge d c ≤ d
depth_low d Flowing = omega arith
depth_low d Nothing = omega arith
depth_low d Object = omega arith
depth_low d (Caught k) = omega arith

depth_some : (d : ℕ) (c : Carried) → Brings c ⊎ (depth_charge d c ≡ 0)
depth_some d Flowing = inl (inl refl)
depth_some d Nothing = inr refl
depth_some d Object = inl (inr (any_comes refl))
depth_some d (Caught k) = inl (inr (caught_comes refl))

-- what an edge states that brings an object
brings_stated : (f : Frame) (c : Carried) → BringsObject c → (xs : List stacks.Stack) × (carries_of f c ≡ stated xs)
brings_stated f Flowing (any_comes e) = absurd (let x : ⊥ = cc in x)
brings_stated f Flowing (caught_comes e) = absurd (let x : ⊥ = cc in x)
brings_stated f Nothing h = ([], refl)
brings_stated f Object h = (any_object, refl)
brings_stated f (Caught k) h = (found_in f (slice_get f.clauses k), refl)

mixed : (f : Frame) (typing : Typing) (k : ℕ) (g h : Going) → FlowsApart f → IsUnderAll f typing → k < length f.code → (typing k ≡ unreached → ⊥)
    → (g.to < length f.code) × Edge f k g.to (carries_of f g.carries) → (h.to < length f.code) × Edge f k h.to (carries_of f h.carries) → g.to ≡ h.to
    → g.carries ≡ Flowing → BringsObject h.carries → ⊥
mixed f typing k g h apart under below reached e i same flows brings =
    let s = brings_stated f h.carries brings in
    let P : Carries → Type 0 = λ (c : Carries). Edge f k g.to c in
    let Q : Carries → Type 0 = λ (c : Carries). Edge f k h.to c in
    let R : ℕ → Type 0 = λ (t : ℕ). Edge f k t (stated s.0) in
    apart typing k g.to s.0 below e.0 under reached (subst P (ap (carries_of f) flows) e.1) (subst R (sym same) (subst Q s.1 i.1))

apart_pair : (f : Frame) (typing : Typing) (k : ℕ) (g h : Going) → FlowsApart f → IsUnderAll f typing → k < length f.code → (typing k ≡ unreached → ⊥)
    → (g.to < length f.code) × Edge f k g.to (carries_of f g.carries) → (h.to < length f.code) × Edge f k h.to (carries_of f h.carries)
    → (FlowTogether g h → ⊥) → (BringTogether g h → ⊥) → g.to ≡ h.to → Brings g.carries → Brings h.carries → ⊥
apart_pair f typing k g h apart under below reached e i flow bring same (inl p) (inl q) = flow (record { to = same; first = p; second = q })
apart_pair f typing k g h apart under below reached e i flow bring same (inl p) (inr q) = mixed f typing k g h apart under below reached e i same p q
apart_pair f typing k g h apart under below reached e i flow bring same (inr p) (inl q) = mixed f typing k h g apart under below reached i e (sym same) q p
apart_pair f typing k g h apart under below reached e i flow bring same (inr p) (inr q) = bring (record { to = same; first = p; second = q })

weigh_apart : (f : Frame) (typing : Typing) (d k t : ℕ) (gs : List Going) → FlowsApart f → IsUnderAll f typing → k < length f.code → (typing k ≡ unreached → ⊥) → AreGoings f k gs
    → weigh (depth_charge d) t gs ≤ d
weigh_apart f typing d k t gs apart under below reached go =
    weigh_once (depth_charge d) d Brings (depth_low d) (depth_some d) t gs (λ i j e before inside to p q.
    let g = get_or gs i e in
    let h = get_or gs j e in
    apart_pair f typing k g h apart under below reached (go.each g (Contains-get_or gs i e (omega arith))) (go.each h (Contains-get_or gs j e inside))
    (go.flow_once i j e before inside) (go.bring_once i j e before inside) to p q)

-- the cost of an instruction, if it is reached
cost_if : State → ℕ → ℕ
cost_if unreached n = 0
cost_if (stack s) n = n
cost_if clash n = n

cost_reached : (x : State) (n : ℕ) → (x ≡ unreached → ⊥) → cost_if x n ≡ n
unfolding cost_if
cost_reached unreached n ne = absurd (ne refl)
cost_reached (stack s) n ne = refl
cost_reached clash n ne = refl

cost_at : ℕ → List (List Going) → Typing → ℕ → ℕ
cost_at d all typing k = cost_if (typing k) (depth_charges d (get_or all k []))

under_reached : (w : Hierarchy) (x y : State) → AtMost w x y → (x ≡ unreached → ⊥) → y ≡ unreached → ⊥
under_reached w unreached y a ne e = ne refl
under_reached w (stack s) unreached a ne e = elim a [ ]
under_reached w (stack s) (stack t) a ne e = let x : ⊥ = cc in x
under_reached w (stack s) clash a ne e = let x : ⊥ = cc in x
under_reached w clash unreached a ne e = elim a [ ]
under_reached w clash (stack t) a ne e = let x : ⊥ = cc in x
under_reached w clash clash a ne e = let x : ⊥ = cc in x

is_cost : (f : Frame) (d : ℕ) (all : List (List Going)) (typing : Typing) → IsLeast f typing → IsCost f d all (cost_at d all typing)
unfolding cost_at
is_cost f d all typing least k other below under reached =
    let there = under_reached f.types (other k) (typing k) (under typing least.solves k below) reached in
    let e = cost_reached (typing k) (depth_charges d (get_or all k [])) there in
    omega arith

cost_low : (f : Frame) (typing : Typing) (d k : ℕ) (gs : List Going) (pairs : List (ℕ × ℕ)) → FlowsApart f → IsUnderAll f typing → k < length f.code → (typing k ≡ unreached → ⊥) → AreGoings f k gs → AreEdges f pairs
    → depth_charges d gs ≤ d * row_sum (λ t. 1) k pairs
cost_low f typing d k gs pairs apart under below reached go edges =
    let are = sums_are (depth_charge d) gs in
    let rows = by_rows (depth_charge d) k pairs gs (λ j e inside.
    let g = get_or gs j e in
    let i = go.each g (Contains-get_or gs j e inside) in
    edges.all (k, g.to) (record { from = below; to = i.0; carries = carries_of f g.carries; edge = i.1 })) in
    let row = row_low (λ t. weigh (depth_charge d) t gs) d k pairs (λ t. weigh_apart f typing d k t gs apart under below reached go) in
    omega arith

cost_by : (f : Frame) (typing : Typing) (d k : ℕ) (gs : List Going) (pairs : List (ℕ × ℕ)) (x : State) → typing k ≡ x → FlowsApart f → IsUnderAll f typing → k < length f.code → AreGoings f k gs → AreEdges f pairs
    → cost_if x (depth_charges d gs) ≤ d * row_sum (λ t. 1) k pairs
unfolding cost_if
cost_by f typing d k gs pairs unreached e apart under below go edges = omega arith
cost_by f typing d k gs pairs (stack s) e apart under below go edges = cost_low f typing d k gs pairs apart under below (λ u. let x : ⊥ = cc in x) go edges
cost_by f typing d k gs pairs clash e apart under below go edges = cost_low f typing d k gs pairs apart under below (λ u. let x : ⊥ = cc in x) go edges

cost_total_low : (f : Frame) (d : ℕ) (all : List (List Going)) (pairs : List (ℕ × ℕ)) (typing : Typing) → IsGoings f all → FlowsApart f → IsUnderAll f typing → AreEdges f pairs
    → total (cost_at d all typing) (length f.code) ≤ d * length pairs
unfolding cost_at
cost_total_low f d all pairs typing h apart under edges =
    let n = length f.code in
    let each = total_at_most (cost_at d all typing) (λ k. d * row_sum (λ t. 1) k pairs) n (λ k below. cost_by f typing d k (get_or all k []) pairs (typing k) refl apart under below (h.are k below) edges) in
    let times = total_times (λ k. row_sum (λ t. 1) k pairs) d n in
    let counts = mul-le-mul_left d (counts_low n pairs) in
    omega arith

-- the joins that a typing takes where stacks are no deeper than `d`
pub shallow_bound : (at : Setup) (d : ℕ) (all : List (List Going)) (pairs : List (ℕ × ℕ)) (typing : Typing) (old new : ℕ) → IsGoings at.frame all → IsLeast at.frame typing → FlowsApart at.frame → AreEdges at.frame pairs
    → ((cost : ℕ → ℕ) → IsCost at.frame d all cost → new ≤ old + (2 + d * at.top) * total cost (length at.frame.code)) → new ≤ old + step_bound (length pairs) d at.top
shallow_bound at d all pairs typing old new h least apart edges within =
    let cost = cost_at d all typing in
    let one = within cost (is_cost at.frame d all typing least) in
    let low = cost_total_low at.frame d all pairs typing h apart least.least edges in
    let bound = times_bound (2 + d * at.top) (total cost (length at.frame.code)) d (length pairs) low in
    omega arith

-- what holds where there is a result, by that result
pub ok_joined : {X E : Type 0} (r : Result X E) (P : X → Type 0) (Q : Type 0) → IfOk r P → ((x : X) → P x → r ≡ Ok x → Q) → IfOk r (λ _. Q)
ok_joined (Ok x) P Q h f = f x h refl
ok_joined (Err e) P Q h f = tt
