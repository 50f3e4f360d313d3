-- Rows with the first rows that they are like.
use Rattle.std.proofs.Common.{◌≡◌, ℕ, zero, suc, ◌+◌, ◌<◌, ◌⊎◌, inl, inr, List, [], ◌∷◌, ◌++◌, length, refl, sym, ap, subst, ◌∙◌, arith, length-append}
use Rattle.std.specs.Prelude.{slice_index}
use Rattle.std.proofs.lemmas.Bool.{cases_eq}
use Rattle.row_twins.specs.Linked.{AreLinked, HasRow, AddsRow}
use Rattle.row_twins.specs.Twins.{IsWithin}
use Rattle.row_twins.specs.declared.hashed.Hashed.{Hashed}
use Rattle.row_twins.specs.declared.hashed.HashedRows.{HashedRows}
use Rattle.row_twins.proofs.Finding.{snoc_cases, snoc_old, snoc_new}
use Rattle.twin_numbers.specs.Numbered.{IsEquivalence, NumberTwins, AreFirsts, IsNumber, AreNumbered}

-- a row that stands in a longer list stood there before, or is the last
has_cases : (old : List Hashed) (r : Hashed) (hash row : ℕ) → HasRow (old ++ r ∷ []) hash row → HasRow old hash row ⊎ ((r.hash ≡ hash) × (r.row ≡ row))
has_cases old r hash row (place, at) =
    let x : Hashed = record { hash = hash; row = row } in
    elim (snoc_cases old r x place at) [
      | inl was ↦ inl (place, was)
      | inr is ↦ inr (ap (λ (x : Hashed). x.hash) (sym is.1), ap (λ (x : Hashed). x.row) (sym is.1))
    ]

has_old : (old : List Hashed) (r : Hashed) (hash row : ℕ) → HasRow old hash row → HasRow (old ++ r ∷ []) hash row
has_old old r hash row (place, at) = let x : Hashed = record { hash = hash; row = row } in (place, snoc_old old r x place at)

front : (xs : List ℕ) (x k : ℕ) → k < length xs → slice_index (xs ++ x ∷ []) k ≡ slice_index xs k
front [] x k less = absurd (omega arith)
front (y ∷ ys) x zero less = refl
front (y ∷ ys) x (suc k) less = front ys x k (omega arith)

last : (xs : List ℕ) (x k : ℕ) → k ≡ length xs → slice_index (xs ++ x ∷ []) k ≡ x
last [] x zero e = refl
last [] x (suc k) e = absurd (omega arith)
last (y ∷ ys) x zero e = absurd (omega arith)
last (y ∷ ys) x (suc k) e = last ys x k (omega arith)

module _ (count : ℕ) (alike hashed : ℕ → ℕ → Type 0) where
  pub none_first : (new : HashedRows) → AreLinked new → new.rows ≡ [] → AreFirsts count alike hashed new
  none_first new linked none = record {
    linked = linked;
    only = λ hash row has. absurd (nothing hash row (subst (λ (xs : List Hashed). HasRow xs hash row) none has));
    apart = λ g h one other has and e. absurd (nothing g one (subst (λ (xs : List Hashed). HasRow xs g one) none has));
  }
    where
      nothing : (hash row : ℕ) → HasRow [] hash row → ⊥
      nothing hash row (place, at) = absurd cc

  module _ (same : IsEquivalence count alike) (law : (one other g h : ℕ) → IsWithin count one → IsWithin count other → alike one other → hashed one g → hashed other h → g ≡ h)
      (old new : HashedRows) (hash row : ℕ) (are : AreFirsts count alike hashed old) (linked : AreLinked new) (adds : AddsRow old.rows new.rows hash row) (within : IsWithin count row) (is : hashed row hash)
      (none : (first : ℕ) → HasRow old.rows hash first → alike first row → ⊥) where
    abbrev r : Hashed
    r = record { hash = hash; row = row }

    cases : (h other : ℕ) → HasRow new.rows h other → HasRow old.rows h other ⊎ ((hash ≡ h) × (row ≡ other))
    cases h other has = has_cases old.rows r h other (subst (λ (xs : List Hashed). HasRow xs h other) adds has)

    -- no row that was there is like the new one
    apart_before : (g one : ℕ) → HasRow old.rows g one → alike one row → ⊥
    apart_before g one has like =
        let o = are.only g one has in
        none one (subst (λ (k : ℕ). HasRow old.rows k one) (law one row g hash o.0 within like o.1 is) has) like

    apart : (g h one other : ℕ) → alike one other → HasRow old.rows g one ⊎ ((hash ≡ g) × (row ≡ one)) → HasRow old.rows h other ⊎ ((hash ≡ h) × (row ≡ other)) → one ≡ other
    apart g h one other like (inl a) (inl b) = are.apart g h one other a b like
    apart g h one other like (inl a) (inr b) = absurd (apart_before g one a (subst (λ (k : ℕ). alike one k) (sym b.1) like))
    apart g h one other like (inr a) (inl b) =
        let o = are.only h other b in
        absurd (apart_before h other b (same.back row other within o.0 (subst (λ (k : ℕ). alike k other) (sym a.1) like)))
    apart g h one other like (inr a) (inr b) = sym a.1 ∙ b.1

    pub more_firsts : AreFirsts count alike hashed new
    more_firsts = record {
      linked = linked;
      only = λ h other has. elim (cases h other has) [
        | inl was ↦ are.only h other was
        | inr e ↦ (subst (IsWithin count) e.1 within, subst (λ (k : ℕ). hashed k h) e.1 (subst (hashed row) e.0 is))
      ];
      apart = λ g h one other has and like. apart g h one other like (cases g one has) (cases h other and);
    }

    pub firsts_stay : (h other : ℕ) → HasRow old.rows h other → HasRow new.rows h other
    firsts_stay h other has = subst (λ (xs : List Hashed). HasRow xs h other) (sym adds) (has_old old.rows r h other has)

    pub is_own : IsNumber alike new row row
    is_own = (hash, subst (λ (xs : List Hashed). HasRow xs hash row) (sym adds) (length old.rows, snoc_new old.rows r (length old.rows) refl), same.itself row within)

  -- ---- the numbers

  pub none_numbered : (firsts : HashedRows) (numbers : List ℕ) → numbers ≡ 0 ∷ [] → AreNumbered count alike firsts 0 numbers
  none_numbered firsts numbers e = record { long = ap length e; each = λ row some le. absurd (omega arith) }

  pub one_numbered : (old new : HashedRows) (upto number : ℕ) (numbers more : List ℕ) → more ≡ numbers ++ number ∷ [] → AreNumbered count alike old upto numbers
      → ((h other : ℕ) → HasRow old.rows h other → HasRow new.rows h other) → IsNumber alike new (upto + 1) number → AreNumbered count alike new (upto + 1) more
  one_numbered old new upto number numbers more e are stay is = record {
    long = ap length e ∙ length-append numbers (number ∷ []) ∙ (let l = are.long in omega arith);
    each = λ row some le. elim (cases_eq row (upto + 1)) [
      | inl at ↦
          let n : number ≡ slice_index more row = sym (last numbers number row (at ∙ sym are.long)) ∙ sym (ap (λ (l : List ℕ). slice_index l row) e) in
          subst (IsNumber alike new row) n (subst (λ (k : ℕ). IsNumber alike new k number) (sym at) is)
      | inr other ↦
          let n : slice_index numbers row ≡ slice_index more row = sym (front numbers number row (let l = are.long in omega arith)) ∙ sym (ap (λ (l : List ℕ). slice_index l row) e) in
          let h = are.each row some (omega arith) in
          subst (IsNumber alike new row) n (h.0, stay h.0 (slice_index numbers row) h.1, h.2)
    ];
  }

  pub all_numbered : IsEquivalence count alike → (firsts : HashedRows) (numbers : List ℕ) → AreFirsts count alike hashed firsts → AreNumbered count alike firsts count numbers → NumberTwins count alike numbers
  all_numbered same firsts numbers are all one other a b =
      let m = all.each one a.0 a.1 in
      let n = all.each other b.0 b.1 in
      let p = (are.only m.0 (slice_index numbers one) m.1).0 in
      let q = (are.only n.0 (slice_index numbers other) n.1).0 in (
        λ e.
            same.on one (slice_index numbers one) other a p b (same.back (slice_index numbers one) one p a m.2)
            (subst (λ (k : ℕ). alike k other) (sym e) n.2),
        λ like.
            are.apart m.0 n.0 (slice_index numbers one) (slice_index numbers other) m.1 n.1
            (same.on (slice_index numbers one) one (slice_index numbers other) p a q m.2
            (same.on one other (slice_index numbers other) a b q like (same.back (slice_index numbers other) other q b n.2))),
      )
