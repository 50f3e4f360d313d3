-- What the edges from instructions weigh, target by target, by the pairs of instructions that have an edge.
use Rattle.std.proofs.Common.{◌≡◌, ◌≢◌, ◌⊎◌, inl, inr, refl, sym, ◌∙◌, ap, ℕ, zero, suc, ◌+◌, ◌*◌, ◌<◌, ◌≤◌, arith, Bool, true, false, List, [], ◌∷◌, length, get_or}
use Rattle.std.specs.Prelude.{nat_eq}
use Rattle.std.specs.List.{Contains, AllPairs}
use Rattle.std.proofs.lemmas.Bool.{cases_eq, eq-eqb, ne_eqb}
use Rattle.std.proofs.lemmas.List.Elements.{at_from_Contains}
use Rattle.std.proofs.lemmas.List.Sums.{sum_by-append}
use Rattle.code_flow.specs.declared.goings.Carried.{Carried}
use Rattle.code_flow.specs.declared.goings.Carried.TheVariants.{Flowing, Nothing, Object, Caught}
use Rattle.code_flow.specs.declared.goings.Going.{Going}
use Rattle.code_flow.specs.Frames.{Frame}
use Rattle.code_flow.specs.Goings.{BringsObject, any_comes, caught_comes, AreGoings}
use Rattle.body_verifier.specs.Potential.{total}
use Rattle.body_verifier.specs.Ways.{charge_of, charge}

-- ---- one target

unfoldable pub pick : Bool → ℕ → ℕ
pick true x = x
pick false x = 0

-- the weight of those that lead to `t`
unfoldable pub weigh : (Carried → ℕ) → ℕ → List Going → ℕ
unfolding pick
weigh w t [] = 0
weigh w t (g ∷ gs) = pick (nat_eq g.to t) (w g.carries) + weigh w t gs

tail_pairs : (R : Going → Going → Type 0) (g : Going) (gs : List Going) → AllPairs R (g ∷ gs) → AllPairs R gs
tail_pairs R g gs h i j d before below = h (suc i) (suc j) d (omega arith) (omega arith)

head_pairs : (R : Going → Going → Type 0) (g : Going) (gs : List Going) → AllPairs R (g ∷ gs) → (j : ℕ) (d : Going) → j < length gs → R g (get_or gs j d)
head_pairs R g gs h j d below = h 0 (suc j) d (omega arith) (omega arith)

-- where none of them has a weight
weigh_none : (w : Carried → ℕ) (P : Carried → Type 0) → ((c : Carried) → P c ⊎ (w c ≡ 0)) → (t : ℕ) (gs : List Going)
    → ((j : ℕ) (d : Going) → j < length gs → (get_or gs j d).to ≡ t → P (get_or gs j d).carries → ⊥) → weigh w t gs ≡ 0
unfolding weigh pick
weigh_none w P some t [] h = refl
weigh_none w P some t (g ∷ gs) h =
    let more = weigh_none w P some t gs (λ j d below. h (suc j) d (omega arith)) in
    elim (cases_eq g.to t) [
      | inl is ↦
          let e : pick (nat_eq g.to t) (w g.carries) ≡ w g.carries = ap (λ (b : Bool). pick b (w g.carries)) (eq-eqb g.to t is) in
          elim (some g.carries) [ inl p ↦ absurd (h 0 g (omega arith) is p) | inr none ↦ omega arith ]
      | inr ne ↦ let e : pick (nat_eq g.to t) (w g.carries) ≡ 0 = ap (λ (b : Bool). pick b (w g.carries)) (ne_eqb g.to t ne) in omega arith
    ]

-- where at most one of them has a weight
pub weigh_once : (w : Carried → ℕ) (m : ℕ) (P : Carried → Type 0) → ((c : Carried) → w c ≤ m) → ((c : Carried) → P c ⊎ (w c ≡ 0)) → (t : ℕ) (gs : List Going)
    → AllPairs (λ (g h : Going). g.to ≡ h.to → P g.carries → P h.carries → ⊥) gs → weigh w t gs ≤ m
unfolding weigh pick
weigh_once w m P low some t [] h = omega arith
weigh_once w m P low some t (g ∷ gs) h =
    let R : Going → Going → Type 0 = λ (a b : Going). a.to ≡ b.to → P a.carries → P b.carries → ⊥ in
    let more = weigh_once w m P low some t gs (tail_pairs R g gs h) in
    elim (cases_eq g.to t) [
      | inl is ↦
          let e : pick (nat_eq g.to t) (w g.carries) ≡ w g.carries = ap (λ (b : Bool). pick b (w g.carries)) (eq-eqb g.to t is) in
          elim (some g.carries) [
            | inl p ↦
                let rest = weigh_none w P some t gs (λ j d below there q. head_pairs R g gs h j d below (is ∙ sym there) p q) in
                let one = low g.carries in
                omega arith
            | inr none ↦ omega arith
          ]
      | inr ne ↦ let e : pick (nat_eq g.to t) (w g.carries) ≡ 0 = ap (λ (b : Bool). pick b (w g.carries)) (ne_eqb g.to t ne) in omega arith
    ]

flow_of : ℕ → Carried → ℕ
flow_of n Flowing = n
flow_of n Nothing = 0
flow_of n Object = 0
flow_of n (Caught k) = 0

object_of : Carried → ℕ
object_of Flowing = 0
object_of Nothing = 0
object_of Object = 1
object_of (Caught k) = 1

both_weights : (n : ℕ) (c : Carried) → charge_of n c ≡ flow_of n c + object_of c
unfolding flow_of object_of
both_weights n Flowing = omega arith
both_weights n Nothing = omega arith
both_weights n Object = omega arith
both_weights n (Caught k) = omega arith

flow_low : (n : ℕ) (c : Carried) → flow_of n c ≤ n
unfolding flow_of
flow_low n Flowing = omega arith
flow_low n Nothing = omega arith
flow_low n Object = omega arith
flow_low n (Caught k) = omega arith

object_low : (c : Carried) → object_of c ≤ 1
unfolding object_of
object_low Flowing = omega arith
object_low Nothing = omega arith
object_low Object = omega arith
object_low (Caught k) = omega arith

flow_some : (n : ℕ) (c : Carried) → (c ≡ Flowing) ⊎ (flow_of n c ≡ 0)
unfolding flow_of
flow_some n Flowing = inl refl
flow_some n Nothing = inr refl
flow_some n Object = inr refl
flow_some n (Caught k) = inr refl

object_some : (c : Carried) → BringsObject c ⊎ (object_of c ≡ 0)
unfolding object_of
object_some Flowing = inr refl
object_some Nothing = inr refl
object_some Object = inl (any_comes refl)
object_some (Caught k) = inl (caught_comes refl)

picked_sum : (b : Bool) (x y z : ℕ) → x ≡ y + z → pick b x ≡ pick b y + pick b z
unfolding pick
picked_sum true x y z e = e
picked_sum false x y z e = refl

weigh_sum : (n t : ℕ) (gs : List Going) → weigh (charge_of n) t gs ≡ weigh (flow_of n) t gs + weigh object_of t gs
unfolding weigh
weigh_sum n t [] = refl
weigh_sum n t (g ∷ gs) =
    let more = weigh_sum n t gs in
    let one = picked_sum (nat_eq g.to t) (charge_of n g.carries) (flow_of n g.carries) (object_of g.carries) (both_weights n g.carries) in
    omega arith

pub weigh_low : (f : Frame) (n k t : ℕ) (gs : List Going) → AreGoings f k gs → weigh (charge_of n) t gs ≤ n + 1
weigh_low f n k t gs h =
    let flow = weigh_once (flow_of n) n (λ c. c ≡ Flowing) (flow_low n) (flow_some n) t gs (λ i j d before below to p q. h.flow_once i j d before below (record { to = to; first = p; second = q })) in
    let object = weigh_once object_of 1 BringsObject object_low object_some t gs (λ i j d before below to p q. h.bring_once i j d before below (record { to = to; first = p; second = q })) in
    let sum = weigh_sum n t gs in
    omega arith

-- ---- all targets of one instruction

-- by the pairs that begin with `k`
unfoldable pub row_sum : (ℕ → ℕ) → ℕ → List (ℕ × ℕ) → ℕ
unfolding pick
row_sum v k [] = 0
row_sum v k (e ∷ es) = pick (nat_eq e.0 k) (v e.1) + row_sum v k es

pub row_more : (u v x : ℕ → ℕ) (k : ℕ) (es : List (ℕ × ℕ)) → ((t : ℕ) → x t ≡ u t + v t) → row_sum x k es ≡ row_sum u k es + row_sum v k es
unfolding row_sum
row_more u v x k [] h = refl
row_more u v x k (e ∷ es) h =
    let more = row_more u v x k es h in
    let one = picked_sum (nat_eq e.0 k) (x e.1) (u e.1) (v e.1) (h e.1) in
    omega arith

pub row_one : (v : ℕ → ℕ) (k t : ℕ) (es : List (ℕ × ℕ)) (j : ℕ) → j < length es → get_or es j (k, t) ≡ (k, t) → v t ≤ row_sum v k es
unfolding row_sum pick
row_one v k t [] j below is = absurd (omega arith)
row_one v k t (e ∷ es) zero below is =
    let a : e.0 ≡ k = ap (λ (p : ℕ × ℕ). p.0) is in
    let b : e.1 ≡ t = ap (λ (p : ℕ × ℕ). p.1) is in
    let c : pick (nat_eq e.0 k) (v e.1) ≡ v t = ap (λ (x : Bool). pick x (v e.1)) (eq-eqb e.0 k a) ∙ ap v b in
    omega arith
row_one v k t (e ∷ es) (suc j) below is = let more = row_one v k t es j (omega arith) is in omega arith

unfoldable pub charges : ℕ → List Going → ℕ
charges n [] = 0
charges n (g ∷ gs) = charge_of n g.carries + charges n gs

pub charges_are : (n : ℕ) (gs : List Going) → charge n gs ≡ charges n gs
unfolding charges
charges_are n [] = refl
charges_are n (g ∷ gs) = let more = charges_are n gs in let e = sum_by-append (λ (h : Going). charge_of n h.carries) (g ∷ []) gs in omega arith

pub picked : (b : Bool) (x : ℕ) → b ≡ true → pick b x ≡ x
unfolding pick
picked true x e = refl
picked false x e = cc

-- each of them leads to the second of such a pair
pub charges_low : (n k : ℕ) (es : List (ℕ × ℕ)) (gs : List Going) → ((j : ℕ) (d : Going) → j < length gs → Contains es (k, (get_or gs j d).to))
    → charges n gs ≤ row_sum (λ t. weigh (charge_of n) t gs) k es
unfolding charges weigh
charges_low n k es [] h = omega arith
charges_low n k es (g ∷ gs) h =
    let more = charges_low n k es gs (λ j d below. h (suc j) d (omega arith)) in
    let u : ℕ → ℕ = λ (t : ℕ). pick (nat_eq g.to t) (charge_of n g.carries) in
    let v : ℕ → ℕ = λ (t : ℕ). weigh (charge_of n) t gs in
    let sum = row_more u v (λ (t : ℕ). weigh (charge_of n) t (g ∷ gs)) k es (λ t. refl) in
    let r = at_from_Contains es (k, g.to) (h 0 g (omega arith)) in
    let one = row_one u k g.to es r.0 r.1 (r.2 (k, g.to)) in
    let e : u g.to ≡ charge_of n g.carries = picked (nat_eq g.to g.to) (charge_of n g.carries) (eq-eqb g.to g.to refl) in
    omega arith

row_low_by : (v : ℕ → ℕ) (m k : ℕ) (e : ℕ × ℕ) (es : List (ℕ × ℕ)) (b : Bool) → row_sum v k es ≤ m * row_sum (λ t. 1) k es → v e.1 ≤ m
    → pick b (v e.1) + row_sum v k es ≤ m * (pick b 1 + row_sum (λ t. 1) k es)
unfolding pick
row_low_by v m k e es true h low = omega arith
row_low_by v m k e es false h low = omega arith

pub row_low : (v : ℕ → ℕ) (m k : ℕ) (es : List (ℕ × ℕ)) → ((t : ℕ) → v t ≤ m) → row_sum v k es ≤ m * row_sum (λ t. 1) k es
unfolding row_sum pick
row_low v m k [] h = omega arith
row_low v m k (e ∷ es) h = let more = row_low v m k es h in let one = h e.1 in row_low_by v m k e es (nat_eq e.0 k) more one

-- ---- all instructions

counted_none : (k n m : ℕ) → n ≤ k → total (λ j. pick (nat_eq k j) 1) n ≡ 0
unfolding total pick
counted_none k zero m h = refl
counted_none k (suc n) m h =
    let ne : k ≢ n = omega arith in
    let e : pick (nat_eq k n) 1 ≡ 0 = ap (λ (b : Bool). pick b 1) (ne_eqb k n ne) in
    let more = counted_none k n m (omega arith) in
    omega arith

total_zero : (n : ℕ) → total (λ k. 0) n ≡ 0
unfolding total
total_zero zero = refl
total_zero (suc n) = let e = total_zero n in omega arith

total_plus : (u v : ℕ → ℕ) (n : ℕ) → total (λ k. u k + v k) n ≡ total u n + total v n
unfolding total
total_plus u v zero = refl
total_plus u v (suc n) = let e = total_plus u v n in omega arith

counted : (k : ℕ) (n : ℕ) → total (λ j. pick (nat_eq k j) 1) n ≤ 1
unfolding total pick
counted k zero = omega arith
counted k (suc n) = elim (cases_eq k n) [
  | inl is ↦
      let e : pick (nat_eq k n) 1 ≡ 1 = ap (λ (b : Bool). pick b 1) (eq-eqb k n is) in
      let rest = counted_none k n n (omega arith) in
      omega arith
  | inr ne ↦ let e : pick (nat_eq k n) 1 ≡ 0 = ap (λ (b : Bool). pick b 1) (ne_eqb k n ne) in let more = counted k n in omega arith
]

pub counts_low : (n : ℕ) (es : List (ℕ × ℕ)) → total (λ k. row_sum (λ t. 1) k es) n ≤ length es
unfolding row_sum
counts_low n [] = let z = total_zero n in omega arith
counts_low n (e ∷ es) =
    let more = counts_low n es in
    let one = counted e.0 n in
    let sum = total_plus (λ k. pick (nat_eq e.0 k) 1) (λ k. row_sum (λ t. 1) k es) n in
    omega arith
