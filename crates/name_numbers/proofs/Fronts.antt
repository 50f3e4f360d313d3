-- Bytes up to the first zero, from a place on.
use Rattle.std.proofs.Common.{◌≡◌, ℕ, zero, suc, ◌+◌, ◌<◌, ◌≤◌, List, [], ◌∷◌, length, drop, get_or, set, ◌⊎◌, inl, inr, refl, sym, ◌∙◌, ap, arith}
use Rattle.std.specs.Prelude.{◌↔◌, ◌==◌}
use Rattle.std.proofs.lemmas.Bool.{eq-eqb, ne_eqb, cond-true, cond-false, cases_lt, cases_eq}
use Rattle.std.proofs.lemmas.List.{drop_more, drop_all, get_or_past, get_or-set_same, get_or-set_other}
use Rattle.name_numbers.specs.Texts.{front, front_at, text_in, text_hash, mix, AreHashes}

front_zero : (b : ℕ) (bs : List ℕ) → b ≡ 0 → front (b ∷ bs) ≡ []
front_zero b bs e = cond-true (b == 0) _ _ (eq-eqb b 0 e)

front_other : (b : ℕ) (bs : List ℕ) → (b ≡ 0 → ⊥) → front (b ∷ bs) ≡ b ∷ front bs
front_other b bs n = cond-false (b == 0) _ _ (ne_eqb b 0 n)

-- at a zero, and past the end, nothing stands
pub front_ends : (heap : List ℕ) (at : ℕ) → get_or heap at 0 ≡ 0 → front_at heap at ≡ []
unfolding front_at
front_ends heap at e = elim (cases_lt at (length heap)) [
  | inl less ↦ ap front (drop_more heap at 0 less) ∙ front_zero (get_or heap at 0) (drop (at + 1) heap) e
  | inr past ↦ ap front (drop_all at heap past)
]

-- elsewhere a byte stands before the rest
pub front_goes_on : (heap : List ℕ) (at : ℕ) → (get_or heap at 0 ≡ 0 → ⊥) → front_at heap at ≡ get_or heap at 0 ∷ front_at heap (at + 1)
unfolding front_at
front_goes_on heap at n = elim (cases_lt at (length heap)) [
  | inl less ↦ ap front (drop_more heap at 0 less) ∙ front_other (get_or heap at 0) (drop (at + 1) heap) n
  | inr past ↦ absurd (n (get_or_past heap at 0 past))
]

pub within : (heap : List ℕ) (at : ℕ) → (get_or heap at 0 ≡ 0 → ⊥) → at < length heap
within heap at n = elim (cases_lt at (length heap)) [ inl less ↦ less | inr past ↦ absurd (n (get_or_past heap at 0 past)) ]

-- ---- two places

not_empty : (b : ℕ) (bs : List ℕ) → b ∷ bs ≡ [] → ⊥
not_empty b bs e = let l : length (b ∷ bs) ≡ 0 = ap length e in absurd (omega arith)

-- where the bytes differ, so do the texts
pub fronts_differ : (heap : List ℕ) (a b : ℕ) → (get_or heap a 0 ≡ get_or heap b 0 → ⊥) → front_at heap a ≡ front_at heap b → ⊥
fronts_differ heap a b n e = elim (cases_eq (get_or heap a 0) 0) [
  | inl z ↦ elim (cases_eq (get_or heap b 0) 0) [
    | inl w ↦ n (z ∙ sym w)
    | inr w ↦ not_empty (get_or heap b 0) (front_at heap (b + 1)) (sym (front_goes_on heap b w) ∙ sym e ∙ front_ends heap a z)
  ]
  | inr z ↦ elim (cases_eq (get_or heap b 0) 0) [
    | inl w ↦ not_empty (get_or heap a 0) (front_at heap (a + 1)) (sym (front_goes_on heap a z) ∙ e ∙ front_ends heap b w)
    | inr w ↦
        let both : get_or heap a 0 ∷ front_at heap (a + 1) ≡ get_or heap b 0 ∷ front_at heap (b + 1) = sym (front_goes_on heap a z) ∙ e ∙ front_goes_on heap b w in
        n (cc)
  ]
]

-- where the bytes are one, the texts are one exactly where the rests are
pub fronts_go_on : (heap : List ℕ) (a b : ℕ) → get_or heap a 0 ≡ get_or heap b 0 → (get_or heap a 0 ≡ 0 → ⊥)
    → (front_at heap a ≡ front_at heap b) ↔ (front_at heap (a + 1) ≡ front_at heap (b + 1))
fronts_go_on heap a b e n =
    let l = front_goes_on heap a n in
    let r = front_goes_on heap b (λ z. n (e ∙ z)) in (
      λ same. let both : get_or heap a 0 ∷ front_at heap (a + 1) ≡ get_or heap b 0 ∷ front_at heap (b + 1) = sym l ∙ same ∙ r in cc,
      λ rest. l ∙ (λ i. e i ∷ rest i) ∙ sym r,
    )

pub fronts_end : (heap : List ℕ) (a b : ℕ) → get_or heap a 0 ≡ get_or heap b 0 → get_or heap a 0 ≡ 0 → front_at heap a ≡ front_at heap b
fronts_end heap a b e z = front_ends heap a z ∙ sym (front_ends heap b (sym e ∙ z))

-- ---- index 0

pub text_behind : (heap : List ℕ) (at : ℕ) → (at ≡ 0 → ⊥) → text_in heap at ≡ front_at heap at
unfolding text_in
text_behind heap zero n = absurd (n refl)
text_behind heap (suc k) n = refl

pub text_first : (heap : List ℕ) (at : ℕ) → at ≡ 0 → text_in heap at ≡ []
unfolding text_in
text_first heap zero e = refl
text_first heap (suc k) e = absurd (omega arith)

pub empty_is : (heap : List ℕ) (at : ℕ) → (front_at heap at ≡ []) ↔ (get_or heap at 0 ≡ 0)
empty_is heap at = (
  λ e. elim (cases_eq (get_or heap at 0) 0) [ inl z ↦ z | inr n ↦ absurd (not_empty (get_or heap at 0) (front_at heap (at + 1)) (sym (front_goes_on heap at n) ∙ e)) ],
  λ z. front_ends heap at z,
)

-- ---- hashes

pub hash_none : text_hash [] ≡ 0
unfolding text_hash
hash_none = refl

pub hash_more : (b : ℕ) (bs : List ℕ) → text_hash (b ∷ bs) ≡ mix (text_hash bs) b
unfolding text_hash
hash_more b bs = refl

pub hash_at_end : (heap : List ℕ) → 0 ≡ text_hash (front_at heap (length heap))
hash_at_end heap = sym (ap text_hash (front_ends heap (length heap) (get_or_past heap (length heap) 0 (omega arith))) ∙ hash_none)

pub hash_step : (heap : List ℕ) (at next : ℕ) → at + 1 ≡ next → (rest hash : ℕ) → rest ≡ text_hash (front_at heap next)
    → ((get_or heap at 0 ≡ 0) × (hash ≡ 0)) ⊎ ((get_or heap at 0 ≡ 0 → ⊥) × (hash ≡ mix rest (get_or heap at 0))) → hash ≡ text_hash (front_at heap at)
hash_step heap at next e rest hash h (inl end) = end.1 ∙ sym (ap text_hash (front_ends heap at end.0) ∙ hash_none)
hash_step heap at next e rest hash h (inr more) =
    more.1 ∙ ap (λ r. mix r (get_or heap at 0)) (h ∙ ap (λ k. text_hash (front_at heap k)) (sym e))
    ∙ sym (ap text_hash (front_goes_on heap at more.0) ∙ hash_more (get_or heap at 0) (front_at heap (at + 1)))

pub each_more : (heap : List ℕ) (at next : ℕ) → at + 1 ≡ next → (hashes : List ℕ) (hash : ℕ) → length hashes ≡ length heap → at < length heap → hash ≡ text_hash (front_at heap at)
    → ((k : ℕ) → next ≤ k → k < length heap → get_or hashes k 0 ≡ text_hash (front_at heap k))
    → (k : ℕ) → at ≤ k → k < length heap → get_or (set hashes at hash) k 0 ≡ text_hash (front_at heap k)
each_more heap at next e hashes hash long there h each k from less = elim (cases_eq k at) [
  | inl is ↦ ap (λ z. get_or (set hashes at hash) z 0) is ∙ get_or-set_same hashes at hash 0 (omega arith) ∙ h ∙ ap (λ z. text_hash (front_at heap z)) (sym is)
  | inr other ↦ get_or-set_other hashes at k hash 0 other ∙ each k (omega arith) less
]

-- the hash of what stands at a place
pub hash_told : (heap hashes : List ℕ) (at : ℕ) → AreHashes heap 0 hashes → get_or hashes at 0 ≡ text_hash (front_at heap at)
hash_told heap hashes at are = elim (cases_lt at (length heap)) [
  | inl less ↦ are.each at (omega arith) less
  | inr past ↦
      get_or_past hashes at 0 (let l = are.long in omega arith)
      ∙ sym (ap text_hash (front_ends heap at (get_or_past heap at 0 past)) ∙ hash_none)
]

pub hash_first : (heap : List ℕ) (at : ℕ) → at ≡ 0 → 0 ≡ text_hash (text_in heap at)
hash_first heap at e = sym (ap text_hash (text_first heap at e) ∙ hash_none)

-- ---- the texts at two indexes

pub record AreRests (heap : List ℕ) (one other left right : ℕ) : Type 0 where
  pub rests : (front_at heap one ≡ front_at heap other) ↔ (front_at heap left ≡ front_at heap right)

pub rests_first : (heap : List ℕ) (one other : ℕ) → AreRests heap one other one other
rests_first heap one other = record { rests = (λ e. e, λ e. e) }

pub rests_more : (heap : List ℕ) (one other left right : ℕ) → AreRests heap one other left right → get_or heap left 0 ≡ get_or heap right 0 → (get_or heap left 0 ≡ 0 → ⊥)
    → AreRests heap one other (left + 1) (right + 1)
rests_more heap one other left right are e n =
    let g = fronts_go_on heap left right e n in
    record { rests = (λ h. g.0 (are.rests.0 h), λ h. are.rests.1 (g.1 h)) }

pub rests_end : (heap : List ℕ) (one other left right : ℕ) → AreRests heap one other left right → get_or heap left 0 ≡ get_or heap right 0 → get_or heap left 0 ≡ 0
    → front_at heap one ≡ front_at heap other
rests_end heap one other left right are e z = are.rests.1 (fronts_end heap left right e z)

pub rests_differ : (heap : List ℕ) (one other left right : ℕ) → AreRests heap one other left right → (get_or heap left 0 ≡ get_or heap right 0 → ⊥)
    → front_at heap one ≡ front_at heap other → ⊥
rests_differ heap one other left right are n h = fronts_differ heap left right n (are.rests.0 h)

-- index 0 and another
pub first_same : (heap : List ℕ) (one other : ℕ) → one ≡ 0 → (other ≡ 0 → ⊥) → (text_in heap one ≡ text_in heap other) ↔ (get_or heap other 0 ≡ 0)
first_same heap one other e n =
    let f = text_first heap one e in
    let b = text_behind heap other n in
    let i = empty_is heap other in
    (λ h. i.0 (sym b ∙ sym h ∙ f), λ z. f ∙ sym (b ∙ i.1 z))

pub first_same_back : (heap : List ℕ) (one other : ℕ) → other ≡ 0 → (one ≡ 0 → ⊥) → (text_in heap one ≡ text_in heap other) ↔ (get_or heap one 0 ≡ 0)
first_same_back heap one other e n = let f = first_same heap other one e n in (λ h. f.0 (sym h), λ z. sym (f.1 z))

pub both_behind : (heap : List ℕ) (one other : ℕ) → (one ≡ 0 → ⊥) → (other ≡ 0 → ⊥) → (text_in heap one ≡ text_in heap other) ↔ (front_at heap one ≡ front_at heap other)
both_behind heap one other n m =
    let a = text_behind heap one n in
    let b = text_behind heap other m in
    (λ h. sym a ∙ h ∙ b, λ h. a ∙ h ∙ sym b)

-- the same, of what is the heap and its hashes seen otherwise
pub hash_seen : (heap seen hashes given : List ℕ) (at : ℕ) → AreHashes heap 0 hashes → heap ≡ seen → given ≡ hashes → (at ≡ 0 → ⊥) → get_or given at 0 ≡ text_hash (text_in seen at)
hash_seen heap seen hashes given at are e f n =
    ap (λ hs. get_or hs at 0) f ∙ hash_told heap hashes at are ∙ ap (λ h. text_hash (front_at h at)) e ∙ sym (ap text_hash (text_behind seen at n))
