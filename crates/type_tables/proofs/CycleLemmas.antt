-- The first type that steps lead back to.
use Rattle.std.proofs.Common.{◌≡◌, ◌⊎◌, inl, inr, refl, sym, ◌∙◌, ap, subst, ℕ, zero, suc, ◌+◌, ◌<◌, ◌≤◌, arith, List, ◌∷◌, length, get_or, None, Some}
use Rattle.std.specs.List.{Contains}
use Rattle.indexmap.proofs.IndexTableLemmas.Probe.{pigeonhole}
use Rattle.std.proofs.lemmas.Bool.{cases_lt, cases_order}
use Rattle.std.proofs.lemmas.List.{get_or_default}
use Rattle.std.proofs.lemmas.List.Elements.{Contains-get_or}
use Rattle.type_tables.specs.Walks.{StepsTo, Leads, one_step, step_more, IsWithin, IsRanked, IsFirstBack, IsReach, NeverRises, FallsBefore}
use Rattle.type_tables.proofs.ReachLemmas.{steps_from, one_each}

-- ---- by ranks

pub falls_along : (steps : List (List ℕ)) (rank : ℕ → ℕ) → IsRanked steps rank → (i j : ℕ) → Leads steps i j → rank j < rank i
falls_along steps rank r i j (one_step s) = r i j s
falls_along steps rank r i j (step_more {middle = m} l s) =
    let a : rank m < rank i = falls_along steps rank r i m l in
    let b : rank j < rank m = r m j s in
    omega arith

pub none_by_ranks : (steps : List (List ℕ)) (rank : ℕ → ℕ) → IsRanked steps rank → IsFirstBack steps None
none_by_ranks steps rank r = (λ j l. absurd (let h : rank j < rank j = falls_along steps rank r j j l in omega arith), (rank, r))

pub none_by_numbers : (steps : List (List ℕ)) (numbers : List ℕ) → FallsBefore steps numbers (length steps) → IsFirstBack steps None
none_by_numbers steps numbers f = none_by_ranks steps (λ i. get_or numbers i 0) (λ i j s. f i j (steps_from steps i j s) s)

pub falls_before : (steps : List (List ℕ)) (numbers : List ℕ) (k : ℕ) → FallsBefore steps numbers k → NeverRises steps numbers → (i j : ℕ) → i < k → Leads steps i j
    → get_or numbers j 0 < get_or numbers i 0
falls_before steps numbers k f n i j h (one_step s) = f i j h s
falls_before steps numbers k f n i j h (step_more {middle = m} l s) =
    let a : get_or numbers m 0 < get_or numbers i 0 = falls_before steps numbers k f n i m h l in
    let b : get_or numbers j 0 ≤ get_or numbers m 0 = n m j s in
    omega arith

pub first_by_numbers : (steps : List (List ℕ)) (numbers : List ℕ) (k : ℕ) → k < length steps → FallsBefore steps numbers k → NeverRises steps numbers → Leads steps k k
    → IsFirstBack steps (Some k)
first_by_numbers steps numbers k low f n l =
    (low, l, λ j h m. absurd (let g : get_or numbers j 0 < get_or numbers j 0 = falls_before steps numbers k f n j j h m in omega arith))

-- ---- by walks

-- all to which steps lead from one, which isn't among them
pub record Tried (steps : List (List ℕ)) (i : ℕ) : Type 0 where
  pub ids : List ℕ
  pub reach : IsReach steps i ids
  pub other : Contains ids i → ⊥

pub tried : (steps : List (List ℕ)) (i : ℕ) (ids : List ℕ) → IsReach steps i ids → (Contains ids i → ⊥) → Tried steps i
tried steps i ids r o = record { ids = ids; reach = r; other = o }

pub first_by_walk : (steps : List (List ℕ)) (k : ℕ) (ids : List ℕ) → ((j : ℕ) → j < k → Tried steps j) → k < length steps → IsReach steps k ids → Contains ids k → IsFirstBack steps (Some k)
first_by_walk steps k ids t low r c = (low, r.only k c, λ j h l. let s = t j h in s.other (s.reach.all j l))

lead_before : (steps : List (List ℕ)) (i j k : ℕ) → StepsTo steps i j → Leads steps j k → Leads steps i k
lead_before steps i j k s (one_step t) = step_more (one_step s) t
lead_before steps i j k s (step_more {middle = m} l t) = step_more (lead_before steps i j m s l) t

-- numbers that differ, all of which are among others, aren't more than these
module _ (xs ys : List ℕ) (each : (i j : ℕ) → i < length ys → j < length ys → get_or ys i 0 ≡ get_or ys j 0 → i ≡ j)
    (all : (x : ℕ) → Contains ys x → Contains xs x) where
  place_at : (k : ℕ) → (k < length ys) ⊎ (length ys ≤ k) → ℕ
  place_at k (inl h) = (all (get_or ys k 0) (Contains-get_or ys k 0 h)).0
  place_at k (inr g) = 0

  place_is : (k : ℕ) (d : (k < length ys) ⊎ (length ys ≤ k)) → k < length ys → (place_at k d < length xs) × (get_or xs (place_at k d) 0 ≡ get_or ys k 0)
  unfolding place_at
  place_is k (inl h) low =
      let c = all (get_or ys k 0) (Contains-get_or ys k 0 h) in
      (c.1, get_or_default xs c.0 0 (get_or ys k 0) c.1 ∙ c.2)
  place_is k (inr g) low = absurd (omega arith)

  place : ℕ → ℕ
  place k = place_at k (cases_lt k (length ys))

  into : (i : ℕ) → i < length ys → place i < length xs
  unfolding place
  into i h = (place_is i (cases_lt i (length ys)) h).0

  one : (i j : ℕ) → i < length ys → j < length ys → place i ≡ place j → i ≡ j
  unfolding place
  one i j h g e = each i j h g (sym (place_is i (cases_lt i (length ys)) h).1 ∙ ap (λ (n : ℕ). get_or xs n 0) e ∙ (place_is j (cases_lt j (length ys)) g).1)

  pub included : length ys ≤ length xs
  included = pigeonhole (length ys) (length xs) place into one

fewer : (steps : List (List ℕ)) (i j : ℕ) (a : Tried steps i) (b : Tried steps j) → StepsTo steps i j → length b.ids < length a.ids
fewer steps i j a b s = let h = included a.ids (j ∷ b.ids) each all in omega arith
  where
    all : (x : ℕ) → Contains (j ∷ b.ids) x → Contains a.ids x
    all x (zero, h, e) = a.reach.all x (subst (λ (k : ℕ). Leads steps i k) e (one_step s))
    all x (suc k, h, e) = a.reach.all x (lead_before steps i j x s (b.reach.only x (k, omega arith, e)))

    not_there : (k : ℕ) → k < length b.ids → j ≡ get_or b.ids k 0 → ⊥
    not_there k h e = b.other (k, h, get_or_default b.ids k j 0 h ∙ sym e)

    each : (m n : ℕ) → m < length (j ∷ b.ids) → n < length (j ∷ b.ids) → get_or (j ∷ b.ids) m 0 ≡ get_or (j ∷ b.ids) n 0 → m ≡ n
    each zero zero h g e = refl
    each zero (suc n) h g e = absurd (not_there n (omega arith) e)
    each (suc m) zero h g e = absurd (not_there m (omega arith) (sym e))
    each (suc m) (suc n) h g e = ap suc (one_each b.ids b.reach.once m n (omega arith) (omega arith) e)

module _ (steps : List (List ℕ)) (w : IsWithin steps) (t : (j : ℕ) → j < length steps → Tried steps j) where
  count_at : (k : ℕ) → (k < length steps) ⊎ (length steps ≤ k) → ℕ
  count_at k (inl h) = length ((t k h).ids)
  count_at k (inr g) = 0

  count_falls : (i j : ℕ) (d : (i < length steps) ⊎ (length steps ≤ i)) (e : (j < length steps) ⊎ (length steps ≤ j)) → i < length steps → j < length steps → StepsTo steps i j
      → count_at j e < count_at i d
  unfolding count_at
  count_falls i j (inl h) (inl g) low lower s = fewer steps i j (t i h) (t j g) s
  count_falls i j (inl h) (inr g) low lower s = absurd (omega arith)
  count_falls i j (inr h) e low lower s = absurd (omega arith)

  count : ℕ → ℕ
  count k = count_at k (cases_lt k (length steps))

  counts : (i j : ℕ) → StepsTo steps i j → count j < count i
  unfolding count
  counts i j s = count_falls i j (cases_lt i (length steps)) (cases_lt j (length steps)) (steps_from steps i j s) (w.below i j s) s

  pub none_by_walks : IsFirstBack steps None
  none_by_walks = none_by_ranks steps count counts

pub tried_more : (steps : List (List ℕ)) (k : ℕ) → ((j : ℕ) → j < k → Tried steps j) → Tried steps k → (j : ℕ) → j < k + 1 → Tried steps j
tried_more steps k t here j h = elim (cases_order j k) [
  | inl same ↦ subst (λ (i : ℕ). Tried steps i) (sym same) here
  | inr (inl less) ↦ t j less
  | inr (inr more) ↦ absurd (omega arith)
]
