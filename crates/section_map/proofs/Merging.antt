-- Two lists of steps, merged.
use Rattle.std.proofs.Common.{◌≡◌, ℕ, zero, suc, ◌+◌, ◌<◌, ◌≤◌, inl, inr, min, nat_le, Bool, true, false, cond, List, [], ◌∷◌, ◌++◌, length, refl, sym, ◌∙◌, ap, arith}
use Rattle.std.proofs.lemmas.Bool.{cases_lt, leb-true}
use Rattle.std.proofs.lemmas.List.{get_or_append_left, get_or_push, length_push}
use Rattle.section_map.specs.declared.step.Step.{Step}
use Rattle.section_map.specs.Steps.{step_at, from_at, first_at, value_by, value_of, AreRising, first_before, from_before, Tell, IsNext, lesser, AreMerged}
use Rattle.section_map.proofs.Reaching.{told_last, value_more, from_more}

-- ---- a step put behind others

old_step : (steps : List Step) (s : Step) (k : ℕ) → k < length steps → step_at (steps ++ s ∷ []) k ≡ step_at steps k
old_step steps s k h = get_or_append_left steps (s ∷ []) record { from = 0; first = 65536 } k h

new_step : (steps : List Step) (s : Step) → step_at (steps ++ s ∷ []) (length steps) ≡ s
new_step steps s = get_or_push steps s record { from = 0; first = 65536 } (length steps) refl

longer : (steps : List Step) (s : Step) → length (steps ++ s ∷ []) ≡ suc (length steps)
longer steps s = omega (arith, length_push steps s)

same_values : (one other : List Step) (n address : ℕ) → ((k : ℕ) → k < n → step_at one k ≡ step_at other k) → value_by one n address ≡ value_by other n address
same_values one other zero address h = refl
same_values one other (suc n) address h =
    ap (λ (s : Step). cond (nat_le s.from address) s.first (value_by one n address)) (h n (omega arith))
    ∙ ap (λ v. cond (nat_le (from_at other n) address) (first_at other n) v) (same_values one other n address (λ k l. h k (omega (arith, l))))

value_push : (steps : List Step) (s : Step) (address : ℕ) → value_of (steps ++ s ∷ []) address ≡ cond (nat_le s.from address) s.first (value_of steps address)
value_push steps s address =
    ap (λ n. value_by (steps ++ s ∷ []) n address) (longer steps s)
    ∙ ap (λ (t : Step). cond (nat_le t.from address) t.first (value_by (steps ++ s ∷ []) (length steps) address)) (new_step steps s)
    ∙ ap (λ v. cond (nat_le s.from address) s.first v) (same_values (steps ++ s ∷ []) steps (length steps) address (old_step steps s))

last_push : (steps : List Step) (s : Step) → from_before (steps ++ s ∷ []) (length (steps ++ s ∷ [])) ≡ s.from
last_push steps s = ap (from_before (steps ++ s ∷ [])) (longer steps s) ∙ ap (λ (t : Step). t.from) (new_step steps s)

up_to_last : (steps : List Step) (n j : ℕ) → AreRising steps → n ≤ length steps → j < n → from_at steps j ≤ from_before steps n
up_to_last steps zero j rising in_list l = absurd (omega (arith, l))
up_to_last steps (suc n) j rising in_list l = rising j n (omega (arith, l)) (omega (arith, in_list))

from_old : (steps : List Step) (s : Step) (k : ℕ) → k < length steps → from_at (steps ++ s ∷ []) k ≡ from_at steps k
from_old steps s k h = ap (λ (t : Step). t.from) (old_step steps s k h)

from_new : (steps : List Step) (s : Step) (k : ℕ) → k ≡ length steps → from_at (steps ++ s ∷ []) k ≡ s.from
from_new steps s k e = ap (from_at (steps ++ s ∷ [])) e ∙ ap (λ (t : Step). t.from) (new_step steps s)

rising_push : (steps : List Step) (s : Step) → AreRising steps → from_before steps (length steps) ≤ s.from → AreRising (steps ++ s ∷ [])
rising_push steps s rising behind j k le lt =
    let long = length_push steps s in
    elim (cases_lt k (length steps)) [
      | inl old ↦
          let a = from_old steps s k old in
          let b = from_old steps s j (omega (arith, le, old)) in
          let h = rising j k le old in
          omega (arith, a, b, h)
      | inr new ↦
          let a = from_new steps s k (omega (arith, new, lt, long)) in
          elim (cases_lt j (length steps)) [
            | inl early ↦
                let b = from_old steps s j early in
                let h = up_to_last steps (length steps) j rising (omega arith) early in
                omega (arith, a, b, h, behind)
            | inr late ↦
                let b = from_new steps s j (omega (arith, late, le, lt, long)) in
                omega (arith, a, b)
          ]
    ]

-- ---- merging

lesser_here : (b : Bool) (x y both one other : ℕ) → both ≡ min one other → (b ≡ true → other ≡ y) → cond b (min x y) both ≡ min (cond b x one) other
lesser_here true x y both one other e reached = ap (min x) (sym (reached refl))
lesser_here false x y both one other e reached = e

values_next : (left : List Step) (i : ℕ) (right : List Step) (j : ℕ) (steps : List Step) → AreMerged left i right j steps → i < length left
    → (address : ℕ) → value_of (steps ++ lesser left i right j ∷ []) address ≡ min (value_by left (i + 1) address) (value_by right j address)
values_next left i right j steps m there address =
    value_push steps (lesser left i right j) address
    ∙ lesser_here (nat_le (from_at left i) address) (first_at left i) (first_before right j) (value_of steps address) (value_by left i address) (value_by right j address)
    (m.values address) (λ yes. told_last right j address (let h = leb-true (from_at left i) address yes in let b = m.right_left there in omega (arith, h, b)))
    ∙ ap (λ v. min v (value_by right j address)) (sym (value_more left i address))

pub left_next : (left : List Step) (i : ℕ) (right : List Step) (j : ℕ) (steps : List Step) → AreRising left → AreMerged left i right j steps → IsNext left i right j
    → AreMerged left (i + 1) right j (steps ++ lesser left i right j ∷ [])
left_next left i right j steps rising m next =
    let last = last_push steps (lesser left i right j) in
    let more = from_more left i in
    record {
      left_in = omega (arith, next.0);
      right_in = m.right_in;
      rising = rising_push steps (lesser left i right j) m.rising (m.before_left next.0);
      before_left = λ h. let r = rising i (i + 1) (omega arith) h in omega (arith, last, r);
      before_right = λ h. let r = next.1 h in omega (arith, last, r);
      right_left = λ h. let r = rising i (i + 1) (omega arith) h in let b = m.right_left next.0 in omega (arith, r, b);
      left_right = λ h. let r = next.1 h in omega (arith, more, r);
      values = values_next left i right j steps m next.0;
    }

turned : (a b : ℕ) → min a b ≡ min b a
turned a b = omega arith

flip : (left : List Step) (i : ℕ) (right : List Step) (j : ℕ) (steps : List Step) → AreMerged left i right j steps → AreMerged right j left i steps
flip left i right j steps m = record {
  left_in = m.right_in;
  right_in = m.left_in;
  rising = m.rising;
  before_left = m.before_right;
  before_right = m.before_left;
  right_left = m.left_right;
  left_right = m.right_left;
  values = λ address. m.values address ∙ turned (value_by left i address) (value_by right j address);
}

pub right_next : (left : List Step) (i : ℕ) (right : List Step) (j : ℕ) (steps : List Step) → AreRising right → AreMerged left i right j steps → IsNext right j left i
    → AreMerged left i right (j + 1) (steps ++ lesser right j left i ∷ [])
right_next left i right j steps rising m next =
    flip right (j + 1) left i (steps ++ lesser right j left i ∷ []) (left_next right j left i steps rising (flip left i right j steps m) next)

pub none_merged : (left right : List Step) → AreMerged left 0 right 0 []
none_merged left right = record {
  left_in = omega arith;
  right_in = omega arith;
  rising = λ j k le lt. absurd (omega (arith, lt));
  before_left = λ h. omega arith;
  before_right = λ h. omega arith;
  right_left = λ h. omega arith;
  left_right = λ h. omega arith;
  values = λ address. refl;
}

pub all_merged : (left : List Step) (i : ℕ) (right : List Step) (j : ℕ) (steps : List Step) → length left ≤ i → length right ≤ j → AreMerged left i right j steps
    → Tell steps (λ address. min (value_of left address) (value_of right address))
all_merged left i right j steps a b m =
    let e : i ≡ length left = omega (arith, a, m.left_in) in
    let f : j ≡ length right = omega (arith, b, m.right_in) in
    record {
      rising = m.rising;
      values = λ address. m.values address ∙ ap (λ k. min (value_by left k address) (value_by right j address)) e ∙ ap (λ k. min (value_of left address) (value_by right k address)) f;
    }
