-- The rows that were seen, with one more.
use Rattle.std.proofs.Common.{◌≡◌, ℕ, ◌+◌, ◌<◌, ◌≤◌, ◌⊎◌, inl, inr, List, [], ◌∷◌, ◌++◌, Some, length, refl, sym, ap, subst, ◌∙◌, arith}
use Rattle.std.proofs.lemmas.Bool.{cases_eq}
use Rattle.row_twins.specs.Linked.{AreLinked, HasRow, AddsRow}
use Rattle.row_twins.specs.Twins.{IsWithin, HasTwin, AreSeen}
use Rattle.row_twins.specs.declared.hashed.Hashed.{Hashed}
use Rattle.row_twins.specs.declared.hashed.HashedRows.{HashedRows}
use Rattle.row_twins.proofs.Finding.{snoc_cases, snoc_old, snoc_new}

-- a row that stands in a longer list stood there before, or is the last
has_cases : (old : List Hashed) (r : Hashed) (hash row : ℕ) → HasRow (old ++ r ∷ []) hash row → HasRow old hash row ⊎ ((r.hash ≡ hash) × (r.row ≡ row))
has_cases old r hash row (place, at) =
    let x : Hashed = record { hash = hash; row = row } in
    elim (snoc_cases old r x place at) [
      | inl was ↦ inl (place, was)
      | inr is ↦ inr (ap (λ (x : Hashed). x.hash) (sym is.1), ap (λ (x : Hashed). x.row) (sym is.1))
    ]

module _ (count : ℕ) (hashed : ℕ → ℕ → Type 0) (old new : HashedRows) (row hash : ℕ) (so : AreSeen count hashed row old) (linked : AreLinked new)
    (adds : AddsRow old.rows new.rows hash row) (within : IsWithin count row) (is : hashed row hash) where
  abbrev r : Hashed
  r = record { hash = hash; row = row }

  only : (h earlier : ℕ) → HasRow (old.rows ++ r ∷ []) h earlier → (0 < earlier) × (earlier < row + 1) × (earlier ≤ count) × hashed earlier h
  only h earlier has = elim (has_cases old.rows r h earlier has) [
    | inl was ↦ let o = so.only h earlier was in let a = o.0 in let b = o.1 in (a, omega arith, o.2, o.3)
    | inr e ↦
        let some = within.0 in
        let few = within.1 in
        let first = subst (λ (n : ℕ). hashed n hash) e.1 is in
        (omega (arith, e.1), omega (arith, e.1), omega (arith, e.1), subst (hashed earlier) e.0 first)
  ]

  all : (earlier : ℕ) → 0 < earlier → earlier < row + 1 → (h : ℕ) × HasRow (old.rows ++ r ∷ []) h earlier
  all earlier some less = elim (cases_eq earlier row) [
    | inl e ↦ (hash, (length old.rows, snoc_new old.rows r (length old.rows) refl ∙ ap (λ (n : ℕ). Some (record { hash = hash; row = n })) (sym e)))
    | inr n ↦
        let a = so.all earlier some (omega arith) in
        let x : Hashed = record { hash = a.0; row = earlier } in
        (a.0, (a.1.0, snoc_old old.rows r x a.1.0 a.1.1))
  ]

  pub seen_more : AreSeen count hashed (row + 1) new
  seen_more = record {
    linked = linked;
    only = λ h earlier has. only h earlier (subst (λ (xs : List Hashed). HasRow xs h earlier) adds has);
    all = λ earlier some less. subst (λ (xs : List Hashed). (h : ℕ) × HasRow xs h earlier) (sym adds) (all earlier some less);
  }

pub seen_none : (count : ℕ) (hashed : ℕ → ℕ → Type 0) (new : HashedRows) → AreLinked new → new.rows ≡ [] → AreSeen count hashed 1 new
seen_none count hashed new linked none = record {
  linked = linked;
  only = λ h earlier has. absurd (nothing h earlier (subst (λ (xs : List Hashed). HasRow xs h earlier) none has));
  all = λ earlier some less. absurd (omega arith);
}
  where
    nothing : (h earlier : ℕ) → HasRow [] h earlier → ⊥
    nothing h earlier (place, at) = absurd cc

module _ (count : ℕ) (alike hashed : ℕ → ℕ → Type 0) (seen : HashedRows) (row hash : ℕ) (so : AreSeen count hashed row seen) where
  pub twin_found : (other : ℕ) → HasRow seen.rows hash other → alike other row → HasTwin alike row
  twin_found other has it_is = let o = so.only hash other has in (other, o.0, o.1, it_is)

  -- rows that are alike have one hash
  pub no_twin : IsWithin count row → ((one other g h : ℕ) → IsWithin count one → IsWithin count other → alike one other → hashed one g → hashed other h → g ≡ h) → hashed row hash
      → ((other : ℕ) → HasRow seen.rows hash other → alike other row → ⊥) → HasTwin alike row → ⊥
  no_twin within law is none (other, some, less, it_is) =
      let a = so.all other some less in
      let o = so.only a.0 other a.1 in
      let same : a.0 ≡ hash = law other row a.0 hash (o.0, o.2) within it_is o.3 is in
      none other (subst (λ (h : ℕ). HasRow seen.rows h other) same a.1) it_is
