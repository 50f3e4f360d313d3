-- Bytes up to the first zero, from a place on.
use Rattle.std.proofs.Common.{◌≡◌, ℕ, zero, suc, ◌+◌, ◌-◌, ◌^◌, ◌<◌, ◌≤◌, min, List, [], ◌∷◌, ◌++◌, length, drop, get_or, set, ◌⊎◌, inl, inr, refl, sym, ◌∙◌, ap, subst, arith}
use Rattle.std.specs.Prelude.{All, ◌≢◌, ◌==◌}
use Rattle.std.proofs.lemmas.Bool.{eq-eqb, ne_eqb, cond-true, cond-false, cases_lt, cases_eq}
use Rattle.std.proofs.lemmas.List.{drop_more, drop_all, get_or_past, get_or-set_same, get_or-set_other}
use Rattle.heaps.specs.Content.{HasText, BeginsText}
use Rattle.text_lengths.specs.Lengths.{before_zero, length_from, AreLengths}

-- a number, or the last one of 32 bits
abbrev pub capped : ℕ → ℕ
capped n = min n (2 ^ 32 - 1)

at_zero : (b : ℕ) (bs : List ℕ) → b ≡ 0 → before_zero (b ∷ bs) ≡ 0
at_zero b bs e = cond-true (b == 0) _ _ (eq-eqb b 0 e)

at_other : (b : ℕ) (bs : List ℕ) → (b ≡ 0 → ⊥) → before_zero (b ∷ bs) ≡ suc (before_zero bs)
at_other b bs n = cond-false (b == 0) _ _ (ne_eqb b 0 n)

-- at a zero, and past the end, nothing stands
pub none_from : (heap : List ℕ) (at : ℕ) → get_or heap at 0 ≡ 0 → length_from heap at ≡ 0
unfolding length_from
none_from heap at e = elim (cases_lt at (length heap)) [
  | inl less ↦ ap before_zero (drop_more heap at 0 less) ∙ at_zero (get_or heap at 0) (drop (at + 1) heap) e
  | inr past ↦ ap before_zero (drop_all at heap past)
]

-- elsewhere one byte more stands than from the next place on
pub one_more : (heap : List ℕ) (at : ℕ) → (get_or heap at 0 ≡ 0 → ⊥) → length_from heap at ≡ suc (length_from heap (at + 1))
unfolding length_from
one_more heap at n = elim (cases_lt at (length heap)) [
  | inl less ↦ ap before_zero (drop_more heap at 0 less) ∙ at_other (get_or heap at 0) (drop (at + 1) heap) n
  | inr past ↦ absurd (n (get_or_past heap at 0 past))
]

-- ---- the sweep

pub at_end : (heap : List ℕ) → 0 ≡ capped (length_from heap (length heap))
at_end heap = sym (ap capped (none_from heap (length heap) (get_or_past heap (length heap) 0 (omega arith))))

pub step : (heap : List ℕ) (at next : ℕ) → at + 1 ≡ next → (rest now : ℕ) → rest ≡ capped (length_from heap next)
    → ((get_or heap at 0 ≡ 0) × (now ≡ 0)) ⊎ ((get_or heap at 0 ≡ 0 → ⊥) × (now ≡ min (rest + 1) (2 ^ 32 - 1))) → now ≡ capped (length_from heap at)
step heap at next e rest now h (inl end) = end.1 ∙ sym (ap capped (none_from heap at end.0))
step heap at next e rest now h (inr more) =
    let l = one_more heap at more.0 in
    let r : rest ≡ capped (length_from heap (at + 1)) = h ∙ ap (λ k. capped (length_from heap k)) (sym e) in
    let m = more.1 in
    omega arith

pub each_more : (heap : List ℕ) (at next : ℕ) → at + 1 ≡ next → (lengths : List ℕ) (now : ℕ) → length lengths ≡ length heap → at < length heap → now ≡ capped (length_from heap at)
    → ((k : ℕ) → next ≤ k → k < length heap → get_or lengths k 0 ≡ capped (length_from heap k))
    → (k : ℕ) → at ≤ k → k < length heap → get_or (set lengths at now) k 0 ≡ capped (length_from heap k)
each_more heap at next e lengths now long there h each k from less = elim (cases_eq k at) [
  | inl is ↦ ap (λ z. get_or (set lengths at now) z 0) is ∙ get_or-set_same lengths at now 0 (omega arith) ∙ h ∙ ap (λ z. capped (length_from heap z)) (sym is)
  | inr other ↦ get_or-set_other lengths at k now 0 other ∙ each k (omega arith) less
]

-- ---- texts

text_ends : (text rest : List ℕ) → All (λ byte. byte ≢ 0) text → before_zero (text ++ 0 ∷ rest) ≡ length text
text_ends [] rest full = refl
text_ends (b ∷ bs) rest full =
    let n : b ≡ 0 → ⊥ = full 0 0 (omega arith) in
    at_other b (bs ++ 0 ∷ rest) n ∙ ap (λ (m : ℕ). suc m) (text_ends bs rest (λ k d less. full (suc k) d (omega arith)))

begun : (heap : List ℕ) (at : ℕ) (text : List ℕ) → BeginsText (drop at heap) text → length_from heap at ≡ length text
unfolding length_from
begun heap at text (rest, e, full, utf8) = ap before_zero e ∙ text_ends text rest full

told : (heap lengths : List ℕ) (at : ℕ) → AreLengths heap 0 lengths → get_or lengths at 0 ≡ capped (length_from heap at)
told heap lengths at are = elim (cases_lt at (length heap)) [
  | inl less ↦ are.each at (omega arith) less
  | inr past ↦
      get_or_past lengths at 0 (let l = are.long in omega arith)
      ∙ sym (ap capped (none_from heap at (get_or_past heap at 0 past)))
]

-- the empty text at index 0
pub first_is : (heap : List ℕ) (at : ℕ) → at ≡ 0 → (text : List ℕ) → HasText heap at text → 0 ≡ capped (length text)
first_is heap zero e text h = sym (ap (λ (t : List ℕ). capped (length t)) h)
first_is heap (suc k) e text h = absurd (omega arith)

behind : (heap lengths : List ℕ) (at : ℕ) → AreLengths heap 0 lengths → (at ≡ 0 → ⊥) → (text : List ℕ) → HasText heap at text → get_or lengths at 0 ≡ capped (length text)
behind heap lengths zero are n text h = absurd (n refl)
behind heap lengths (suc k) are n text h = told heap lengths (suc k) are ∙ ap capped (begun heap (suc k) text h)

-- the same, of a heap and lengths that are seen otherwise
pub other_is : (heap seen lengths given : List ℕ) (at : ℕ) → AreLengths heap 0 lengths → heap ≡ seen → given ≡ lengths → (at ≡ 0 → ⊥) → (text : List ℕ) → HasText seen at text
    → get_or given at 0 ≡ capped (length text)
other_is heap seen lengths given at are e f n text h =
    ap (λ ls. get_or ls at 0) f ∙ behind heap lengths at are n text (subst (λ (s : List ℕ). HasText s at text) (sym e) h)
