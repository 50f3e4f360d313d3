-- Types in the order of their rows, each before those that it nests, are found by the rows of their enclosers (ECMA-335 II.22.32).
use Rattle.std.proofs.Common.{◌≡◌, ap, refl, sym, ◌∙◌, subst, ℕ, zero, suc, ◌+◌, ◌-◌, ◌<◌, ◌≤◌, ◌==◌, true, false, cond, eqb, ltb, List, [], ◌∷◌, ◌++◌, length, Some, arith, ⊎_elim, inl, inr}
use Rattle.std.specs.Prelude.{slice_get, filter, ◌⊎◌}
use Rattle.std.specs.List.{range_with_len}
use Rattle.std.proofs.lemmas.List.{append-nil, length-append}
use Rattle.std.proofs.lemmas.Bool.{eqb-true, eq-eqb, ltb-true, ltb-false, cases_Bool}
use Rattle.assembly_tree.specs.declared.typedef.TypeDef.{TypeDef}
use Rattle.assembly_tree.specs.declared.typedef.TypeDef.TheViews.{out-TypeDef}
use Rattle.image_members.specs.Classes.{AreClasses, none, more}
use Rattle.image_members.specs.declared.classes.Class.{Class}
use Rattle.laws_image_parts.specs.AtRows.{AtEach}
use Rattle.laws_image_parts.proofs.GroupLemmas.{filter_both}
use Rattle.laws_image_parts.proofs.RowLists.{range_split, each_front, each_back}

-- ---- rows of a range by a number that belongs to each

module _ (of : ℕ → ℕ) where
  abbrev found : ℕ → List ℕ → List ℕ
  found v rows = filter (λ q. of q == v) rows

  none_found : (v first n : ℕ) → ((q : ℕ) → first ≤ q → q < first + n → of q ≡ v → ⊥) → found v (range_with_len first n) ≡ []
  none_found v first zero out = refl
  none_found v first (suc n) out =
      let fail : eqb (of first) v ≡ false =
      ⊎_elim (λ h. absurd (out first (omega arith) (omega arith) (eqb-true (of first) v h))) (λ h. h) (cases_Bool (eqb (of first) v)) in
      ap (λ b. cond b (first ∷ found v (range_with_len (first + 1) n)) (found v (range_with_len (first + 1) n))) fail
      ∙ none_found v (first + 1) n (λ q low high e. out q (omega arith) (omega arith) e)

  found_split : (v first m n : ℕ) → found v (range_with_len first (m + n)) ≡ found v (range_with_len first m) ++ found v (range_with_len (first + m) n)
  found_split v first m n = ap (found v) (range_split first m n) ∙ filter_both (λ q. of q == v) (range_with_len first m) (range_with_len (first + m) n)

  -- where all that is found stands in a part
  found_part : (v before n after : ℕ) (first : ℕ)
      → ((q : ℕ) → first ≤ q → q < first + (before + (n + after)) → (q < first + before) ⊎ (first + before + n ≤ q) → of q ≡ v → ⊥)
      → found v (range_with_len first (before + (n + after))) ≡ found v (range_with_len (first + before) n)
  found_part v before n after first out =
      found_split v first before (n + after)
      ∙ ap (λ rows. rows ++ found v (range_with_len (first + before) (n + after)))
      (none_found v first before (λ q low high e. out q low (omega arith) (inl high) e))
      ∙ found_split v (first + before) n after
      ∙ ap (λ rows. found v (range_with_len (first + before) n) ++ rows)
      (none_found v (first + before + n) after (λ q low high e. out q (omega arith) (omega arith) (inr low) e))
      ∙ append-nil (found v (range_with_len (first + before) n))

  found_first : (v first n : ℕ) → of first ≡ v → found v (range_with_len first (suc n)) ≡ first ∷ found v (range_with_len (first + 1) n)
  found_first v first n e =
      let pass : eqb (of first) v ≡ true = eq-eqb (of first) v e in
      ap (λ b. cond b (first ∷ found v (range_with_len (first + 1) n)) (found v (range_with_len (first + 1) n))) pass

-- ---- the types of a part

get_some : {X : Type 0} (xs : List X) (k : ℕ) → k < length xs → (x : X) × (slice_get xs k ≡ Some x)
get_some [] k low = absurd (omega arith)
get_some (x ∷ xs) zero low = (x, refl)
get_some (x ∷ xs) (suc k) low = get_some xs k (omega arith)

module _ (of : ℕ → ℕ) (all : ℕ) where
  -- the rows of a part, which begins at `row` and has `n` types, are enclosed by `e` or by types of the part
  abbrev Within : ℕ → ℕ → ℕ → Type 0
  Within e row n = (q : ℕ) → row ≤ q → q < row + n → (of q ≡ e) ⊎ ((row ≤ of q) × (of q < row + n))

  -- and no others by types of the part
  abbrev Apart : ℕ → ℕ → Type 0
  Apart row n = (q : ℕ) → 2 ≤ q → q < 2 + all → (q < row) ⊎ (row + n ≤ q) → (of q < row) ⊎ (row + n ≤ of q)

  abbrev Enclosed : ℕ → Class → Type 0
  Enclosed q c = of q ≡ c.encloser

  both_within : (e row m n : ℕ) → of row ≡ e → Within row (row + 1) m → Within e (row + 1 + m) n → Within e row (suc (m + n))
  both_within e row m n own inner beside q low high =
      ⊎_elim
      (λ h. let here : row ≡ q = eqb-true row q h in inl (ap of (sym here) ∙ own))
      (λ h.
      let other : row ≡ q → ⊥ = (λ s. let yes = eq-eqb row q s in cc) in
      let above : row + 1 ≤ q = omega (arith, other) in
      ⊎_elim
      (λ l. let in_it : q < row + 1 + m = ltb-true q (row + 1 + m) l in ⊎_elim (λ s. inr (omega arith, omega arith)) (λ s. let p = s.0 in let r = s.1 in inr (omega arith, omega arith)) (inner q above in_it))
      (λ l. let not_in : row + 1 + m ≤ q = ltb-false q (row + 1 + m) l in ⊎_elim (λ s. inl s) (λ s. let p = s.0 in let r = s.1 in inr (omega arith, omega arith)) (beside q not_in (omega arith)))
      (cases_Bool (ltb q (row + 1 + m))))
      (cases_Bool (eqb row q))

  classes_within : (e row : ℕ) (types : List TypeDef) (classes : List Class) → AreClasses e row types classes → AtEach Enclosed row classes → Within e row (length classes)
  classes_within e row types classes (none te ce) h = λ q low high. let empty = ap (length {A = Class}) ce in absurd (omega arith)
  classes_within e row types classes (more {class = class} {nested = nested} {others = others} is in_it inner side te ce) h =
      let g : AtEach Enclosed row (class ∷ (nested ++ others)) = subst (AtEach Enclosed row) ce h in
      let rest : AtEach Enclosed (row + 1) (nested ++ others) = each_back Enclosed row (class ∷ []) (nested ++ others) g in
      let first = classes_within row (row + 1) _ nested inner (each_front Enclosed (row + 1) nested others rest) in
      let then = classes_within e (row + 1 + length nested) _ others side (each_back Enclosed (row + 1) nested others rest) in
      let here : row + 0 ≡ row = omega arith in
      let own : of row ≡ e = ap of (sym here) ∙ g 0 class refl ∙ in_it in
      let long : length classes ≡ suc (length nested + length others) = ap (length {A = Class}) ce ∙ ap suc (length-append nested others) in
      subst (Within e row) (sym long) (both_within e row (length nested) (length others) own first then)

  -- rows that stand beside a part, or that hold it
  module _ (e row m n : ℕ) (below : e < row) (own : of row ≡ e) (inner : Within row (row + 1) m) (beside : Within e (row + 1 + m) n) (apart : Apart row (suc (m + n))) where
    -- what holds of each row that isn't one of the types nested
    out_of_nested : (Q : ℕ → Type 0) → ((q : ℕ) → of q < row → Q q) → ((q : ℕ) → row + 1 + m ≤ of q → Q q)
        → (q : ℕ) → 2 ≤ q → q < 2 + all → (q < row + 1) ⊎ (row + 1 + m ≤ q) → Q q
    out_of_nested Q low high q two in_all out =
        let far : (q < row) ⊎ (row + suc (m + n) ≤ q) → Q q = (λ f. ⊎_elim (λ h. low q h) (λ h. high q (omega arith)) (apart q two in_all f)) in
        ⊎_elim
        (λ before.
        ⊎_elim
        (λ h. let here : q ≡ row = eqb-true q row h in let at : of q ≡ e = ap of here ∙ own in low q (omega arith))
        (λ h. let other : q ≡ row → ⊥ = (λ s. let yes = eq-eqb q row s in cc) in far (inl (omega (arith, other))))
        (cases_Bool (eqb q row)))
        (λ behind.
        ⊎_elim
        (λ h. let in_it : q < row + 1 + m + n = ltb-true q (row + 1 + m + n) h in
        ⊎_elim (λ at. low q (omega arith)) (λ at. high q at.0) (beside q behind in_it))
        (λ h. let past : row + 1 + m + n ≤ q = ltb-false q (row + 1 + m + n) h in far (inr (omega arith)))
        (cases_Bool (ltb q (row + 1 + m + n))))
        out

    nested_apart : Apart (row + 1) m
    nested_apart q two in_all out =
        out_of_nested (λ p. (of p < row + 1) ⊎ (row + 1 + m ≤ of p)) (λ p h. inl (omega arith)) (λ p h. inr h) q two in_all out

    not_nested : (q : ℕ) → 2 ≤ q → q < 2 + all → (q < row + 1) ⊎ (row + 1 + m ≤ q) → of q ≡ row → ⊥
    not_nested q two in_all out = out_of_nested (λ p. of p ≡ row → ⊥) (λ p h s. omega arith) (λ p h s. omega arith) q two in_all out

    beside_apart : Apart (row + 1 + m) n
    beside_apart q two in_all out =
        let far : (q < row) ⊎ (row + suc (m + n) ≤ q) → (of q < row + 1 + m) ⊎ (row + 1 + m + n ≤ of q) =
        (λ f. ⊎_elim (λ h. inl (omega arith)) (λ h. inr (omega arith)) (apart q two in_all f)) in
        ⊎_elim
        (λ before.
        ⊎_elim
        (λ h. far (inl (ltb-true q row h)))
        (λ h. let not_before : row ≤ q = ltb-false q row h in
        ⊎_elim
        (λ s. let here : row ≡ q = eqb-true row q s in let at : of q ≡ e = ap of (sym here) ∙ own in inl (omega arith))
        (λ s. let other : row ≡ q → ⊥ = (λ r. let yes = eq-eqb row q r in cc) in
        let above : row + 1 ≤ q = omega (arith, other) in
        ⊎_elim (λ at. inl (omega arith)) (λ at. let up = at.1 in inl (omega arith)) (inner q above before))
        (cases_Bool (eqb row q)))
        (cases_Bool (ltb q row)))
        (λ behind. far (inr (omega arith)))
        out

    -- the types in this one are those of the part
    inside_is : 2 ≤ row → row + suc (m + n) ≤ 2 + all → found of row (range_with_len 2 all) ≡ found of row (range_with_len (row + 1) m)
    inside_is two fits =
        let before : 2 + (row - 1) ≡ row + 1 = omega arith in
        let whole : all ≡ (row - 1) + (m + (2 + all - (row + 1 + m))) = omega arith in
        ap (λ k. found of row (range_with_len 2 k)) whole
        ∙ found_part of row (row - 1) m (2 + all - (row + 1 + m)) 2 (λ q low high out same.
        not_nested q low (omega arith) (⊎_elim (λ h. inl (omega arith)) (λ h. inr (omega arith)) out) same)
        ∙ ap (λ k. found of row (range_with_len k m)) before

    -- those in its encloser are this one, and those beside it
    outside_is : found of e (range_with_len row (suc (m + n))) ≡ row ∷ found of e (range_with_len (row + 1 + m) n)
    outside_is =
        found_first of e row (m + n) own
        ∙ ap (λ (rows : List ℕ). row ∷ rows)
        (found_split of e (row + 1) m n
        ∙ ap (λ (rows : List ℕ). rows ++ found of e (range_with_len (row + 1 + m) n))
        (none_found of e (row + 1) m (λ q low high same. ⊎_elim (λ h. omega arith) (λ h. let up = h.0 in omega arith) (inner q low high))))

  -- ---- a tree of types, by what is found

  abbrev pub inside : ℕ → List ℕ
  inside v = found of v (range_with_len 2 all)

  module _ (T : List ℕ → List TypeDef → Type 0) (P : ℕ → TypeDef → Type 0) (nil : T [] [])
      (cons : (row : ℕ) (rows : List ℕ) (t : TypeDef) (ts : List TypeDef) → P row t → T (inside row) (out-TypeDef t).nested → T rows ts → T (row ∷ rows) (t ∷ ts)) where
    abbrev Is : ℕ → Class → Type 0
    Is q c = P q c.of.now

    pub types_found : (e row : ℕ) (types : List TypeDef) (classes : List Class) → AreClasses e row types classes → e < row → 2 ≤ row → row + length classes ≤ 2 + all
        → AtEach Enclosed row classes → AtEach Is row classes → Apart row (length classes) → T (found of e (range_with_len row (length classes))) types
    types_found e row types classes (none te ce) below two fits h p apart =
        subst (T (found of e (range_with_len row (length classes)))) (sym te)
        (subst (λ (cs : List Class). T (found of e (range_with_len row (length cs))) []) (sym ce) nil)
    types_found e row types classes (more {type = type} {beside = beside} {class = class} {nested = nested} {others = others} is in_it inner side te ce) below two fits h p apart =
        let long : length classes ≡ suc (length nested + length others) = ap (length {A = Class}) ce ∙ ap suc (length-append nested others) in
        let g : AtEach Enclosed row (class ∷ (nested ++ others)) = subst (AtEach Enclosed row) ce h in
        let g_rest : AtEach Enclosed (row + 1) (nested ++ others) = each_back Enclosed row (class ∷ []) (nested ++ others) g in
        let g_in : AtEach Enclosed (row + 1) nested = each_front Enclosed (row + 1) nested others g_rest in
        let g_side : AtEach Enclosed (row + 1 + length nested) others = each_back Enclosed (row + 1) nested others g_rest in
        let r : AtEach Is row (class ∷ (nested ++ others)) = subst (AtEach Is row) ce p in
        let r_rest : AtEach Is (row + 1) (nested ++ others) = each_back Is row (class ∷ []) (nested ++ others) r in
        let r_in : AtEach Is (row + 1) nested = each_front Is (row + 1) nested others r_rest in
        let r_side : AtEach Is (row + 1 + length nested) others = each_back Is (row + 1) nested others r_rest in
        let here : row + 0 ≡ row = omega arith in
        let own : of row ≡ e = ap of (sym here) ∙ g 0 class refl ∙ in_it in
        let its : P row type = subst (P row) is (subst (λ q. P q class.of.now) here (r 0 class refl)) in
        let within_in = classes_within row (row + 1) (out-TypeDef type).nested nested inner g_in in
        let within_side = classes_within e (row + 1 + length nested) beside others side g_side in
        let apart_all : Apart row (suc (length nested + length others)) = subst (Apart row) long apart in
        let into = types_found row (row + 1) (out-TypeDef type).nested nested inner (omega arith) (omega arith) (omega arith) g_in r_in
        (nested_apart e row (length nested) (length others) below own within_in within_side apart_all) in
        let on = types_found e (row + 1 + length nested) beside others side (omega arith) (omega arith) (omega arith) g_side r_side
        (beside_apart e row (length nested) (length others) below own within_in within_side apart_all) in
        let held = inside_is e row (length nested) (length others) below own within_in within_side apart_all two (omega arith) in
        let all_of = ap (λ k. found of e (range_with_len row k)) long ∙ outside_is e row (length nested) (length others) below own within_in within_side apart_all in
        subst (T (found of e (range_with_len row (length classes)))) (sym te)
        (subst (λ rows. T rows (type ∷ beside)) (sym all_of)
        (cons row (found of e (range_with_len (row + 1 + length nested) (length others))) type beside its
        (subst (λ rows. T rows (out-TypeDef type).nested) (sym held) into) on))
