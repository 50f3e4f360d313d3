-- A list of links after a number is put at its end, and after its first number is taken off.
use Rattle.std.proofs.Common.{◌≡◌, ◌≢◌, ℕ, zero, suc, ◌+◌, ◌<◌, ◌≤◌, true, false, List, [], ◌∷◌, ◌++◌, length, get_or, inl, inr, refl, sym, ap, ◌∙◌, subst, arith}
use Rattle.std.specs.Prelude.{nat_eq, slice_set}
use Rattle.std.specs.List.{IsDistinct, AllByRecursion}
use Rattle.std.proofs.lemmas.Bool.{cases_eq, cases_Bool, eqb-true, eqb-false, eq-eqb, ne_eqb, or_parts, or_from, or_left, or_right, or_cases, both_ways, false_from_ne_true}
use Rattle.std.proofs.lemmas.List.{get_or-set_same, get_or-set_other, length-set}
use Rattle.std.proofs.lemmas.List.Folds.{list_any-append}
use Rattle.std.proofs.lemmas.Map.Steps.{length-le_from_distinct_below}
use Rattle.std.proofs.lemmas.Map.Keys.{IsDistinct-push}
use Rattle.std.specs.Cmp.{nat_eq_equiv}
use Rattle.stack_states.specs.Waiting.{has}
use Rattle.stack_states.specs.Links.{walk, numbers_in, Chained, IsLinked}

-- ---- membership

other_from_has : (ks : List ℕ) (j k : ℕ) → has ks j ≡ false → has ks k ≡ true → j ≢ k
other_from_has ks j k miss hit e = let P : ℕ → Type 0 = λ n. has ks n ≡ true in both_ways (has ks j) miss (subst P (sym e) hit)

has_head : (ks : List ℕ) (k : ℕ) → has (k ∷ ks) k ≡ true
has_head ks k = or_left (nat_eq k k) (has ks k) (eq-eqb k k refl)

has_tail : (ks : List ℕ) (j k : ℕ) → has ks k ≡ true → has (j ∷ ks) k ≡ true
has_tail ks j k h = or_right (nat_eq k j) (has ks k) h

has_not : (ks : List ℕ) (j k : ℕ) → has (j ∷ ks) k ≡ false → (k ≢ j) × (has ks k ≡ false)
has_not ks j k h = let p = or_parts (nat_eq k j) (has ks k) h in (eqb-false k j p.0, p.1)

has_not_from : (ks : List ℕ) (j k : ℕ) → k ≢ j → has ks k ≡ false → has (j ∷ ks) k ≡ false
has_not_from ks j k ne h = or_from (nat_eq k j) (has ks k) (ne_eqb k j ne) h

apart_head : (ks : List ℕ) (k : ℕ) → AllByRecursion (λ j. nat_eq k j ≡ false) ks → has ks k ≡ false
apart_head [] k a = refl
apart_head (j ∷ ks) k a = or_from (nat_eq k j) (has ks k) a.0 (apart_head ks k a.1)

once_head : (ks : List ℕ) (k : ℕ) → IsDistinct nat_eq (k ∷ ks) → has ks k ≡ false
unfolding IsDistinct
once_head ks k d = apart_head ks k d.0

once_tail : (ks : List ℕ) (k : ℕ) → IsDistinct nat_eq (k ∷ ks) → IsDistinct nat_eq ks
unfolding IsDistinct
once_tail ks k d = d.1

-- ---- where chains lead

-- the number before the end is the last one
last_is_in : (before after ks : List ℕ) (start k end : ℕ) → Chained before after start (k ∷ ks) end → has (k ∷ ks) (get_or before end 0) ≡ true
last_is_in before after [] start k end c =
    let P : ℕ → Type 0 = λ n. has (k ∷ []) n ≡ true in subst P (sym c.2.1) (has_head [] k)
last_is_in before after (j ∷ ks) start k end c =
    has_tail (j ∷ ks) k (get_or before end 0) (last_is_in before after ks k j end c.2)

last_is : (before after ks : List ℕ) (start end : ℕ) → Chained before after start ks end → has (start ∷ ks) (get_or before end 0) ≡ true
last_is before after [] start end c =
    let P : ℕ → Type 0 = λ n. has (start ∷ []) n ≡ true in subst P (sym c.1) (has_head [] start)
last_is before after (k ∷ ks) start end c = has_tail (k ∷ ks) start (get_or before end 0) (last_is_in before after ks start k end c)

-- a number in the chain doesn't lead to itself
chained_moves : (before after ks : List ℕ) (start end j : ℕ) → Chained before after start ks end → IsDistinct nat_eq ks → has ks end ≡ false
    → has ks j ≡ true → get_or after j 0 ≡ j → ⊥
chained_moves before after [] start end j c once miss hit stays = both_ways false refl hit
chained_moves before after (k ∷ []) start end j c once miss hit stays =
    elim (or_cases (nat_eq j k) false hit) [
      | inl same ↦ let e : j ≡ k = eqb-true j k same in (has_not [] k end miss).0 (sym c.2.0 ∙ ap (λ n. get_or after n 0) (sym e) ∙ stays ∙ e)
      | inr more ↦ both_ways false refl more
    ]
chained_moves before after (k ∷ i ∷ ks) start end j c once miss hit stays =
    elim (or_cases (nat_eq j k) (has (i ∷ ks) j) hit) [
      | inl same ↦
          let e : j ≡ k = eqb-true j k same in
          let leads : i ≡ k = sym c.2.0 ∙ ap (λ n. get_or after n 0) (sym e) ∙ stays ∙ e in
          (has_not ks i k (once_head (i ∷ ks) k once)).0 (sym leads)
      | inr more ↦ chained_moves before after (i ∷ ks) k end j c.2 (once_tail (i ∷ ks) k once) (has_not (i ∷ ks) k end miss).1 more stays
    ]

walk_is : (before after ks : List ℕ) (steps start end : ℕ) → Chained before after start ks end → has ks end ≡ false → length ks < steps
    → walk after steps end (get_or after start 0) ≡ ks
unfolding walk
walk_is before after ks zero start end c miss room = absurd (omega arith)
walk_is before after [] (suc steps) start end c miss room = rw (c.0, eq-eqb end end refl) refl
walk_is before after (k ∷ ks) (suc steps) start end c miss room =
    let p = has_not ks k end miss in
    let apart : nat_eq k end ≡ false = ne_eqb k end (λ e. p.0 (sym e)) in
    let further : walk after steps end (get_or after k 0) ≡ ks = walk_is before after ks steps k end c.2 p.1 (omega arith) in
    rw (c.0, apart, further) refl

-- ---- a linked list

end_is_out : {before after ks : List ℕ} {end : ℕ} → IsLinked before after end ks → has ks end ≡ false
end_is_out {ks = ks} {end = end} h = false_from_ne_true (has ks end) (λ hit. absurd (omega (arith, h.below end hit)))

pub numbers_are : (before after ks : List ℕ) (end : ℕ) → IsLinked before after end ks → numbers_in after end ≡ ks
unfolding numbers_in
numbers_are before after ks end h =
    let few : length ks ≤ end = length-le_from_distinct_below ks end h.once h.below in
    walk_is before after ks (end + 1) end end h.chained (end_is_out h) (omega arith)

pub linked : (before after ks : List ℕ) (end : ℕ) → IsLinked before after end ks → IsLinked before after end (numbers_in after end)
linked before after ks end h =
    let P : List ℕ → Type 0 = λ (l : List ℕ). IsLinked before after end l in subst P (sym (numbers_are before after ks end h)) h

-- the ends and the numbers are places
place_is : {before after ks : List ℕ} {end : ℕ} → IsLinked before after end ks → (k : ℕ) → has (end ∷ ks) k ≡ true → k < end + 1
place_is {ks = ks} {end = end} h k hit =
    elim (or_cases (nat_eq k end) (has ks k) hit) [
      | inl same ↦ omega (arith, eqb-true k end same)
      | inr more ↦ omega (arith, h.below k more)
    ]

pub last_within : (before after ks : List ℕ) (end : ℕ) → IsLinked before after end ks → get_or before end 0 < end + 1
last_within before after ks end h = place_is h (get_or before end 0) (last_is before after ks end end h.chained)

pub first_below : (before after ks : List ℕ) (end : ℕ) → IsLinked before after end ks → get_or after end 0 ≢ end
    → (k : ℕ) × (rest : List ℕ) × (ks ≡ k ∷ rest) × (get_or after end 0 ≡ k) × (k < end)
first_below before after [] end h ne = absurd (ne h.chained.0)
first_below before after (k ∷ ks) end h ne = (k, ks, refl, h.chained.0, h.below k (has_head ks k))

pub second_within : (before after ks : List ℕ) (k end : ℕ) → IsLinked before after end (k ∷ ks) → get_or after k 0 < end + 1
second_within before after [] k end h = omega (arith, h.chained.2.0)
second_within before after (j ∷ ks) k end h = omega (arith, h.chained.2.0, h.below j (has_tail (j ∷ ks) k j (has_head ks j)))

pub none_left : (before after ks : List ℕ) (end : ℕ) → IsLinked before after end ks → get_or after end 0 ≡ end → ks ≡ []
none_left before after [] end h e = refl
none_left before after (k ∷ ks) end h e = absurd (omega (arith, h.chained.0, h.below k (has_head ks k)))

-- whether a number leads to itself tells whether it is in the list
pub held : (before after ks : List ℕ) (end k : ℕ) → IsLinked before after end ks → k < end → get_or after k 0 ≢ k → has ks k ≡ true
held before after ks end k h below moves =
    elim (cases_Bool (has ks k)) [
      | inl hit ↦ hit
      | inr miss ↦ absurd (moves (h.apart k below miss))
    ]

pub not_held : (before after ks : List ℕ) (end k : ℕ) → IsLinked before after end ks → get_or after k 0 ≡ k → has ks k ≡ false
not_held before after ks end k h stays =
    false_from_ne_true (has ks k) (λ hit. chained_moves before after ks end end k h.chained h.once (end_is_out h) hit stays)

-- ---- a number is put at the end

-- the links afterwards: `k` stands between what was last and the end
pub record IsPut (before after before' after' : List ℕ) (k end : ℕ) : Type 0 where
  pub leads : get_or after' (get_or before end 0) 0 ≡ k
  pub leads_on : get_or after' k 0 ≡ end
  pub back : get_or before' end 0 ≡ k
  pub back_on : get_or before' k 0 ≡ get_or before end 0
  pub after_other : (j : ℕ) → j ≢ get_or before end 0 → j ≢ k → get_or after' j 0 ≡ get_or after j 0
  pub before_other : (j : ℕ) → j ≢ end → j ≢ k → get_or before' j 0 ≡ get_or before j 0

chained_put : (before after before' after' ks : List ℕ) (start end k : ℕ) → IsPut before after before' after' k end
    → Chained before after start ks end → IsDistinct nat_eq ks → has ks start ≡ false → has ks end ≡ false → has ks k ≡ false → start ≢ k
    → Chained before' after' start (ks ++ k ∷ []) end
chained_put before after before' after' [] start end k p c once no_start no_end no_k ne =
    (ap (λ n. get_or after' n 0) (sym c.1) ∙ p.leads, p.back_on ∙ c.1, (p.leads_on, p.back))
chained_put before after before' after' (j ∷ js) start end k p c once no_start no_end no_k ne =
    let last_in : has (j ∷ js) (get_or before end 0) ≡ true = last_is_in before after js start j end c in
    let not_last : start ≢ get_or before end 0 = other_from_has (j ∷ js) start (get_or before end 0) no_start last_in in
    let j_end = has_not js j end no_end in
    let j_k = has_not js j k no_k in (
      p.after_other start not_last ne ∙ c.0,
      p.before_other j (λ e. j_end.0 (sym e)) (λ e. j_k.0 (sym e)) ∙ c.1,
      chained_put before after before' after' js j end k p c.2 (once_tail js j once) (once_head js j once) j_end.1 j_k.1 (λ e. j_k.0 (sym e)),
    )

is_put : (before after : List ℕ) (k end : ℕ) → length before ≡ end + 1 → length after ≡ end + 1 → k < end → get_or before end 0 < end + 1
    → get_or before end 0 ≢ k
    → IsPut before after (slice_set (slice_set before k (get_or before end 0)) end k) (slice_set (slice_set after k end) (get_or before end 0) k) k end
is_put before after k end lb la below within ne =
    let last = get_or before end 0 in
    let k_end : k ≢ end = omega arith in
    let apart : k ≢ get_or before end 0 = λ e. ne (sym e) in
    record {
      leads = get_or-set_same (slice_set after k end) last k 0 (omega (arith, length-set after k end));
      leads_on = get_or-set_other (slice_set after k end) last k k 0 apart ∙ get_or-set_same after k end 0 (omega arith);
      back = get_or-set_same (slice_set before k last) end k 0 (omega (arith, length-set before k last));
      back_on = get_or-set_other (slice_set before k last) end k k 0 k_end ∙ get_or-set_same before k last 0 (omega arith);
      after_other = λ j a b. get_or-set_other (slice_set after k end) last j k 0 a ∙ get_or-set_other after k j end 0 b;
      before_other = λ j a b. get_or-set_other (slice_set before k last) end j k 0 a ∙ get_or-set_other before k j last 0 b;
    }

pub linked_push : (before after ks : List ℕ) (k end : ℕ) → IsLinked before after end ks → k < end → has ks k ≡ false
    → IsLinked (slice_set (slice_set before k (get_or before end 0)) end k) (slice_set (slice_set after k end) (get_or before end 0) k) end (ks ++ k ∷ [])
linked_push before after ks k end h below miss =
    let last = get_or before end 0 in
    let last_in : has (end ∷ ks) last ≡ true = last_is before after ks end end h.chained in
    let k_end : k ≢ end = omega arith in
    let ne : last ≢ k = λ e. other_from_has (end ∷ ks) k last (has_not_from ks end k k_end miss) last_in (sym e) in
    let p = is_put before after k end h.befores h.afters below (last_within before after ks end h) ne in
    record {
      befores = length-set (slice_set before k last) end k ∙ length-set before k last ∙ h.befores;
      afters = length-set (slice_set after k end) last k ∙ length-set after k end ∙ h.afters;
      chained = chained_put before after _ _ ks end end k p h.chained h.once (end_is_out h) (end_is_out h) miss (λ e. k_end (sym e));
      below = λ j hit. elim (or_cases (has ks j) (has (k ∷ []) j) (sym (list_any-append (nat_eq j) ks (k ∷ [])) ∙ hit)) [
        | inl old ↦ h.below j old
        | inr new ↦ elim (or_cases (nat_eq j k) false new) [
          | inl same ↦ omega (arith, eqb-true j k same)
          | inr more ↦ absurd (both_ways false refl more)
        ]
      ];
      once = IsDistinct-push nat_eq_equiv ks k h.once miss;
      apart = λ j less away.
          let parts = or_parts (has ks j) (has (k ∷ []) j) (sym (list_any-append (nat_eq j) ks (k ∷ [])) ∙ away) in
          let j_k = has_not [] k j parts.1 in
          let j_end : j ≢ end = omega arith in
          let j_last : j ≢ last = other_from_has (end ∷ ks) j last (has_not_from ks end j j_end parts.0) last_in in
          p.after_other j j_last j_k.0 ∙ h.apart j less parts.0;
    }

-- ---- the first is taken off

-- chains are the same where the links of their numbers are
chained_kept : (before after before' after' ks : List ℕ) (start end : ℕ)
    → ((j : ℕ) → has (start ∷ ks) j ≡ true → get_or after' j 0 ≡ get_or after j 0) → ((j : ℕ) → has (end ∷ ks) j ≡ true → get_or before' j 0 ≡ get_or before j 0)
    → Chained before after start ks end → Chained before' after' start ks end
chained_kept before after before' after' [] start end a b c = (a start (has_head [] start) ∙ c.0, b end (has_head [] end) ∙ c.1)
chained_kept before after before' after' (k ∷ ks) start end a b c = (
  a start (has_head (k ∷ ks) start) ∙ c.0,
  b k (has_tail (k ∷ ks) end k (has_head ks k)) ∙ c.1,
  chained_kept before after before' after' ks k end (λ j h. a j (has_tail (k ∷ ks) start j h)) (λ j h. b j (skip j h)) c.2,
) where
  skip : (j : ℕ) → has (end ∷ ks) j ≡ true → has (end ∷ k ∷ ks) j ≡ true
  skip j h = elim (or_cases (nat_eq j end) (has ks j) h) [
    | inl same ↦ or_left (nat_eq j end) (has (k ∷ ks) j) same
    | inr more ↦ has_tail (k ∷ ks) end j (has_tail ks k j more)
  ]

-- the links afterwards: the end leads to what stood behind `k`, and `k` to itself
pub record IsTaken (before after before' after' : List ℕ) (k end : ℕ) : Type 0 where
  pub leads : get_or after' end 0 ≡ get_or after k 0
  pub back : get_or before' (get_or after k 0) 0 ≡ end
  pub itself : get_or after' k 0 ≡ k
  pub after_other : (j : ℕ) → j ≢ end → j ≢ k → get_or after' j 0 ≡ get_or after j 0
  pub before_other : (j : ℕ) → j ≢ get_or after k 0 → j ≢ k → get_or before' j 0 ≡ get_or before j 0

chained_taken : (before after before' after' ks : List ℕ) (k end : ℕ) → IsTaken before after before' after' k end
    → Chained before after end (k ∷ ks) end → IsDistinct nat_eq (k ∷ ks) → has (k ∷ ks) end ≡ false → Chained before' after' end ks end
chained_taken before after before' after' [] k end t c once miss =
    (t.leads ∙ c.2.0, ap (λ n. get_or before' n 0) (sym c.2.0) ∙ t.back)
chained_taken before after before' after' (j ∷ js) k end t c once miss =
    let rest = has_not (j ∷ js) k end miss in
    let k_out : has (j ∷ js) k ≡ false = once_head (j ∷ js) k once in
    let j_out : has js j ≡ false = once_head js j (once_tail (j ∷ js) k once) in
    let j_end = has_not js j end rest.1 in (
      t.leads ∙ c.2.0,
      ap (λ n. get_or before' n 0) (sym c.2.0) ∙ t.back,
      chained_kept before after before' after' js j end
          (λ i h. t.after_other i (λ e. other_from_has (j ∷ js) end i rest.1 h (sym e)) (λ e. other_from_has (j ∷ js) k i k_out h (sym e)))
          (λ i h. t.before_other i (λ e. other_from_has (end ∷ js) j i (has_not_from js end j (λ f. j_end.0 (sym f)) j_out) h (sym (e ∙ c.2.0)))
          (λ e. other_from_has (end ∷ js) k i (has_not_from js end k (λ f. rest.0 (sym f)) (has_not js j k k_out).1) h (sym e)))
          c.2.2,
    )

is_taken : (before after : List ℕ) (k end : ℕ) → length before ≡ end + 1 → length after ≡ end + 1 → k < end → get_or after k 0 < end + 1
    → k ≢ get_or after k 0
    → IsTaken before after (slice_set (slice_set before (get_or after k 0) end) k k) (slice_set (slice_set after end (get_or after k 0)) k k) k end
is_taken before after k end lb la below within ne =
    let second = get_or after k 0 in
    let end_k : end ≢ k = omega arith in
    let apart : second ≢ k = λ e. ne (sym e) in
    record {
      leads = get_or-set_other (slice_set after end second) k end k 0 end_k ∙ get_or-set_same after end second 0 (omega arith);
      back = get_or-set_other (slice_set before second end) k second k 0 apart ∙ get_or-set_same before second end 0 (omega arith);
      itself = get_or-set_same (slice_set after end second) k k 0 (omega (arith, length-set after end second));
      after_other = λ j a b. get_or-set_other (slice_set after end second) k j k 0 b ∙ get_or-set_other after end j second 0 a;
      before_other = λ j a b. get_or-set_other (slice_set before second end) k j k 0 b ∙ get_or-set_other before second j end 0 a;
    }

pub linked_pop : (before after ks : List ℕ) (k end : ℕ) → IsLinked before after end (k ∷ ks)
    → IsLinked (slice_set (slice_set before (get_or after k 0) end) k k) (slice_set (slice_set after end (get_or after k 0)) k k) end ks
linked_pop before after ks k end h =
    let second = get_or after k 0 in
    let k_end : k < end = h.below k (has_head ks k) in
    let ne : k ≢ get_or after k 0 = λ e. chained_moves before after (k ∷ ks) end end k h.chained h.once (end_is_out h) (has_head ks k) (sym e) in
    let t = is_taken before after k end h.befores h.afters k_end (second_within before after ks k end h) ne in
    record {
      befores = length-set (slice_set before second end) k k ∙ length-set before second end ∙ h.befores;
      afters = length-set (slice_set after end second) k k ∙ length-set after end second ∙ h.afters;
      chained = chained_taken before after _ _ ks k end t h.chained h.once (end_is_out h);
      below = λ j hit. h.below j (has_tail ks k j hit);
      once = once_tail ks k h.once;
      apart = λ j less away. elim (cases_eq j k) [
        | inl same ↦ let P : ℕ → Type 0 = λ (n : ℕ). get_or (slice_set (slice_set after end second) k k) n 0 ≡ n in subst P (sym same) t.itself
        | inr ne ↦ t.after_other j (λ e. absurd (omega arith)) ne ∙ h.apart j less (has_not_from ks k j ne away)
      ];
    }

pub out_of_rest : (before after ks : List ℕ) (k end : ℕ) → IsLinked before after end (k ∷ ks) → has ks k ≡ false
out_of_rest before after ks k end h = once_head ks k h.once

-- links that lead to themselves are the empty list
pub linked_none : (before after : List ℕ) (end : ℕ) → length before ≡ end + 1 → length after ≡ end + 1 → ((k : ℕ) → k ≤ end → get_or before k 0 ≡ k)
    → ((k : ℕ) → k ≤ end → get_or after k 0 ≡ k) → IsLinked before after end []
unfolding IsDistinct
linked_none before after end lb la b a = record {
  befores = lb;
  afters = la;
  chained = (a end (omega arith), b end (omega arith));
  below = λ k hit. absurd (both_ways false refl hit);
  once = tt;
  apart = λ k below miss. a k (omega arith);
}
