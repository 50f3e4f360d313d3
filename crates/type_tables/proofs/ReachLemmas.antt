-- The walk over all types to which steps lead from one.
use Rattle.std.proofs.Common.{◌≡◌, inl, inr, refl, sym, ◌∙◌, ap, subst, ℕ, zero, suc, ◌+◌, ◌<◌, ◌≤◌, arith, List, [], ◌∷◌, ◌++◌, length, slice_get, get_or, Bool, true, false, if◌then◌else◌, nat_eq, Some}
use Rattle.std.specs.List.{Contains, IsDistinct, list_any}
use Rattle.indexmap.specs.IndexSet.{insert_key}
use Rattle.indexmap.proofs.IndexTableLemmas.Probe.{pigeonhole}
use Rattle.std.proofs.lemmas.Cmp.{nat_eq_equiv}
use Rattle.std.proofs.lemmas.Bool.{cases_order, eqb-true, eq-eqb}
use Rattle.std.proofs.lemmas.List.{append-nil, get_or_append_left, get_or_default}
use Rattle.std.proofs.lemmas.List.Elements.{Contains-get_or, Contains-append_left, Contains-append_cases, Contains-push}
use Rattle.std.proofs.lemmas.Map.Keys.{apart_from_distinct}
use Rattle.std.proofs.lemmas.Map.Views.{Contains-from_any, list_any-from_Contains}
use Rattle.std.proofs.lemmas.Option.{slice_get_within, get_or_from_slice_get}
use Rattle.type_hierarchy.specs.Queues.{IsAdded, AddsAll}
use Rattle.type_tables.specs.Walks.{StepsTo, Leads, one_step, step_more, IsWithin, IsReach}
use Rattle.type_hierarchy.proofs.QueueLemmas.{no_ids}

-- ---- one more place

pub only_one : (k j : ℕ) → Contains (k ∷ []) j → j ≡ k
only_one k j (zero, h, e) = sym e
only_one k j (suc i, h, e) = absurd (omega arith)

pub inserted : (ids : List ℕ) (k : ℕ) → IsAdded ids (insert_key nat_eq ids k) k
inserted ids k = by (list_any (nat_eq k) ids) refl
  where
    by : (b : Bool) → list_any (nat_eq k) ids ≡ b → IsAdded ids (if b then ids else ids ++ k ∷ []) k
    by true e = record { more = []; is = sym (append-nil ids); only = λ j c. absurd (no_ids j c); has = Contains-from_any eqb-true k ids e }
    by false e = record { more = k ∷ []; is = refl; only = λ j c. only_one k j c; has = Contains-push ids k }

pub inserted_as : (ids new : List ℕ) (k : ℕ) → new ≡ insert_key nat_eq ids k → IsAdded ids new k
inserted_as ids new k e = subst (λ (l : List ℕ). IsAdded ids l k) (sym e) (inserted ids k)

-- ---- steps

pub steps_from : (steps : List (List ℕ)) (i j : ℕ) → StepsTo steps i j → i < length steps
steps_from [] i j c = absurd (no_ids j c)
steps_from (x ∷ steps) zero j c = omega arith
steps_from (x ∷ steps) (suc i) j c = let h = steps_from steps i j c in omega arith

pub leads_within : (steps : List (List ℕ)) (i j : ℕ) → IsWithin steps → Leads steps i j → j < length steps
leads_within steps i j w (one_step s) = w.below i j s
leads_within steps i j w (step_more {middle = m} l s) = w.below m j s

-- ---- the walk

-- steps lead from `start` to all these; those to which it steps are there, and those to which the done ones step
pub record Walk (steps : List (List ℕ)) (start : ℕ) (ids : List ℕ) (done : ℕ) : Type 0 where
  pub low : done ≤ length ids
  pub only : (j : ℕ) → Contains ids j → Leads steps start j
  pub first : (j : ℕ) → StepsTo steps start j → Contains ids j
  pub closed : (i j : ℕ) → i < done → StepsTo steps (get_or ids i 0) j → Contains ids j

pub walk_begins : (steps : List (List ℕ)) (start : ℕ) (old ids nexts : List ℕ) → old ≡ [] → slice_get steps start ≡ Some nexts → AddsAll old ids nexts → Walk steps start ids 0
walk_begins steps start old ids nexts none e a = record {
  low = omega arith;
  only = only;
  first = λ j s. a.has j (subst (λ (l : List ℕ). Contains l j) at s);
  closed = λ i j h s. absurd (omega arith);
}
  where
    at : get_or steps start [] ≡ nexts
    at = get_or_from_slice_get steps start nexts [] e

    only : (j : ℕ) → Contains ids j → Leads steps start j
    only j c = elim (Contains-append_cases old a.more j (subst (λ (l : List ℕ). Contains l j) a.is c)) [
      | inl q ↦ absurd (no_ids j (subst (λ (l : List ℕ). Contains l j) none q))
      | inr q ↦ one_step (subst (λ (l : List ℕ). Contains l j) (sym at) (a.only j q))
    ]

pub walk_more : (steps : List (List ℕ)) (start : ℕ) (ids new nexts : List ℕ) (done at : ℕ) → Walk steps start ids done → slice_get ids done ≡ Some at
    → slice_get steps at ≡ Some nexts → AddsAll ids new nexts → Walk steps start new (done + 1)
walk_more steps start ids new nexts done at v e f a = subst (λ (l : List ℕ). Walk steps start l (done + 1)) (sym a.is) walk
  where
    here : done < length ids
    here = slice_get_within ids done at e

    is : get_or steps at [] ≡ nexts
    is = get_or_from_slice_get steps at nexts [] f

    is_at : get_or ids done 0 ≡ at
    is_at = get_or_from_slice_get ids done at 0 e

    all : List ℕ
    all = ids ++ a.more

    to_at : Leads steps start at
    to_at = subst (λ (k : ℕ). Leads steps start k) is_at (v.only (get_or ids done 0) (Contains-get_or ids done 0 here))

    only : (j : ℕ) → Contains (ids ++ a.more) j → Leads steps start j
    only j c = elim (Contains-append_cases ids a.more j c) [
      | inl q ↦ v.only j q
      | inr q ↦ step_more to_at (subst (λ (l : List ℕ). Contains l j) (sym is) (a.only j q))
    ]

    closed_at : (i j : ℕ) → i < done + 1 → StepsTo steps (get_or ids i 0) j → Contains (ids ++ a.more) j
    closed_at i j h s = elim (cases_order i done) [
      | inl same ↦
          let k : get_or ids i 0 ≡ at = ap (λ (n : ℕ). get_or ids n 0) same ∙ is_at in
          let c : Contains nexts j = subst (λ (l : List ℕ). Contains l j) (ap (λ (n : ℕ). get_or steps n []) k ∙ is) s in
          subst (λ (l : List ℕ). Contains l j) a.is (a.has j c)
      | inr (inl less) ↦ Contains-append_left ids a.more j (v.closed i j less s)
      | inr (inr more) ↦ absurd (omega arith)
    ]

    closed : (i j : ℕ) → i < done + 1 → StepsTo steps (get_or (ids ++ a.more) i 0) j → Contains (ids ++ a.more) j
    closed i j h s = closed_at i j h (subst (λ (k : ℕ). StepsTo steps k j) (get_or_append_left ids a.more 0 i (omega (arith, here))) s)

    long : done + 1 ≤ length (ids ++ a.more)
    long = slice_len (ids) (a.more) done here
      where
        slice_len : (xs ys : List ℕ) (n : ℕ) → n < length xs → n + 1 ≤ length (xs ++ ys)
        slice_len [] ys n h = absurd (omega arith)
        slice_len (x ∷ xs) ys zero h = omega arith
        slice_len (x ∷ xs) ys (suc n) h = let r = slice_len xs ys n (omega arith) in omega arith

    walk : Walk steps start (ids ++ a.more) (done + 1)
    walk = record {
      low = long;
      only = only;
      first = λ j s. Contains-append_left ids a.more j (v.first j s);
      closed = closed;
    }

pub at_within : (steps : List (List ℕ)) (start : ℕ) (ids : List ℕ) (done at : ℕ) → IsWithin steps → Walk steps start ids done → slice_get ids done ≡ Some at → at < length steps
at_within steps start ids done at w v e =
    leads_within steps start at w (subst (λ (k : ℕ). Leads steps start k) (get_or_from_slice_get ids done at 0 e) (v.only (get_or ids done 0) (Contains-get_or ids done 0 (slice_get_within ids done at e))))

pub walk_ends : (steps : List (List ℕ)) (start : ℕ) (ids : List ℕ) (done : ℕ) → Walk steps start ids done → length ids ≤ done → IsDistinct nat_eq ids → IsReach steps start ids
walk_ends steps start ids done v full once = record { once = once; only = v.only; all = all }
  where
    next : (m j : ℕ) → Contains ids m → StepsTo steps m j → Contains ids j
    next m j (i, h, e) s = v.closed i j (omega arith) (subst (λ (k : ℕ). StepsTo steps k j) (sym e ∙ get_or_default ids i m 0 h) s)

    all : (j : ℕ) → Leads steps start j → Contains ids j
    all j (one_step s) = v.first j s
    all j (step_more {middle = m} l s) = next m j (all m l) s

-- ---- how many there can be

pub one_each : (ids : List ℕ) → IsDistinct nat_eq ids → (i j : ℕ) → i < length ids → j < length ids → get_or ids i 0 ≡ get_or ids j 0 → i ≡ j
one_each ids d i j h g e = elim (cases_order i j) [
  | inl same ↦ same
  | inr (inl less) ↦
      let no = apart_from_distinct nat_eq ids i j 0 d less g in
      let yes = eq-eqb (get_or ids i 0) (get_or ids j 0) e in
      absurd (let f : ⊥ = cc in f)
  | inr (inr more) ↦
      let no = apart_from_distinct nat_eq ids j i 0 d more h in
      let yes = eq-eqb (get_or ids j 0) (get_or ids i 0) (sym e) in
      absurd (let f : ⊥ = cc in f)
]

pub few : (steps : List (List ℕ)) (start : ℕ) (ids : List ℕ) (done : ℕ) → IsWithin steps → Walk steps start ids done → IsDistinct nat_eq ids → length ids ≤ length steps
few steps start ids done w v d =
    pigeonhole (length ids) (length steps) (λ k. get_or ids k 0)
    (λ i h. leads_within steps start (get_or ids i 0) w (v.only (get_or ids i 0) (Contains-get_or ids i 0 h)))
    (λ i j h g e. one_each ids d i j h g e)

pub nothing : (ids : List ℕ) → length ids ≡ 0 → ids ≡ []
nothing [] e = refl
nothing (x ∷ ids) e = absurd (omega arith)

-- ---- whether a place is there

pub found : (ids : List ℕ) (k : ℕ) → list_any (nat_eq k) ids ≡ true → Contains ids k
found ids k e = Contains-from_any eqb-true k ids e

pub absent : (ids : List ℕ) (k : ℕ) → list_any (nat_eq k) ids ≡ false → Contains ids k → ⊥
absent ids k e c = let f = list_any-from_Contains nat_eq_equiv k ids c in let g : ⊥ = cc in g
