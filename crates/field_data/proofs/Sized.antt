-- The one layout of a type, where its layouts stand side by side.
use Rattle.std.proofs.Common.{◌≡◌, ℕ, zero, suc, ◌<◌, ◌≤◌, List, length, sym, ◌∙◌, ap, subst, arith}
use Rattle.std.specs.Prelude.{◌↔◌, Contains}
use Rattle.std.specs.List.{range_with_len}
use Rattle.std.proofs.lemmas.List.FromFn.{length-range_with_len}
use Rattle.image_model.specs.Columns.{layout_size}
use Rattle.image_model.specs.Members.{layouts_of}
use Rattle.field_data.specs.Kinds.{HasClassSize}

in_none : (a n x : ℕ) → n ≡ 0 → Contains (range_with_len a n) x → ⊥
in_none a n x none c = let long = length-range_with_len a n in let less = c.1 in absurd (omega arith)

in_one : (a n x : ℕ) → n ≡ 1 → Contains (range_with_len a n) x → a ≡ x
in_one a zero x one c = absurd (omega arith)
in_one a (suc zero) x one (zero, less, e) = e
in_one a (suc zero) x one (suc k, less, e) = absurd (omega arith)
in_one a (suc (suc n)) x one c = absurd (omega arith)

one_has : (a n : ℕ) → n ≡ 1 → Contains (range_with_len a n) a
one_has a zero one = absurd (omega arith)
one_has a (suc n) one = let long = length-range_with_len a (suc n) in (zero, omega arith, omega arith)

module _ (image : List ℕ) (type first count : ℕ) (rows : layouts_of image type ≡ range_with_len first count) where
  pub none_has_size : count ≡ 0 → (size : ℕ) → HasClassSize image type size ↔ ((size ≡ 0) × (0 < size))
  none_has_size none size = (
    λ h. absurd (in_none first count h.0 none (subst (λ (l : List ℕ). Contains l h.0) rows h.1)),
    λ s. let zero = s.0 in let some = s.1 in absurd (omega arith),
  )

  pub one_has_size : (found : ℕ) → length (layouts_of image type) ≤ 1 → (count ≡ 0 → ⊥) → found ≡ layout_size image first
      → (size : ℕ) → HasClassSize image type size ↔ ((size ≡ found) × (0 < size))
  one_has_size found few some is size =
      let long = ap length rows ∙ length-range_with_len first count in
      let one : count ≡ 1 = omega arith in (
        λ h.
            let same = in_one first count h.0 one (subst (λ (l : List ℕ). Contains l h.0) rows h.1) in
            (sym h.2 ∙ ap (layout_size image) (sym same) ∙ sym is, h.3),
        λ s. (first, subst (λ (l : List ℕ). Contains l first) (sym rows) (one_has first count one), sym is ∙ sym s.0, s.1),
      )
