-- The rows of a path, gathered one after the other: what is gathered so far, and any rows of the path of the next, are rows of the whole.
use Rattle.std.proofs.Common.{◌≡◌, ℕ, ◌+◌, ◌-◌, ◌<◌, ◌≤◌, ◌⊎◌, inl, inr, List, [], ◌∷◌, ◌++◌, refl, sym, subst, arith, append_assoc}
use Rattle.std.proofs.lemmas.List.{append-nil}
use Rattle.image_model.specs.Cells.{HasIndexes}
use Rattle.image_model.specs.Rows.{HasRow}
use Rattle.kept_owners.specs.Paths.{IsNamedWithin, IsShort, outer_of, AreOutward}
use Rattle.kept_owners.proofs.Paths.{there, some_names, under}

pub record IsClimbing (image : List ℕ) (table row : ℕ) (rows : List ℕ) (at step : ℕ) : Type 0 where
  pub so : (more : List ℕ) → AreOutward image table at more → AreOutward image table row (rows ++ more)
  pub left : (at ≡ 0) ⊎ IsNamedWithin image (100 - step) table at

pub climb_starts : (image : List ℕ) (table row : ℕ) → IsShort image table row → IsClimbing image table row [] row 0
climb_starts image table row short = record { so = λ more h. h; left = inr short }

-- no row is left
pub climbed : (image : List ℕ) (table row : ℕ) (rows : List ℕ) (at step : ℕ) → IsClimbing image table row rows at step → at ≡ 0 → AreOutward image table row rows
climbed image table row rows at step c none = subst (λ (l : List ℕ). AreOutward image table row l) (append-nil rows) (c.so [] none)

-- nor after a hundred steps
pub at_end : (image : List ℕ) (table row : ℕ) (rows : List ℕ) (at step : ℕ) → IsClimbing image table row rows at step → 100 ≤ step → at ≡ 0
at_end image table row rows at step c last = elim c.left [
  | inl none ↦ none
  | inr n ↦ let some = some_names n.2 in let short = n.3 in absurd (omega arith)
]

module _ (image : List ℕ) (indexes : (table row : ℕ) → HasRow image table row → HasIndexes image table row) (table row : ℕ) (rows : List ℕ) (at step : ℕ) (c : IsClimbing image table row rows at step) (some : at ≡ 0 → ⊥) where
  pub named_at : IsNamedWithin image (100 - step) table at
  named_at = elim c.left [ inl none ↦ absurd (some none) | inr n ↦ n ]

  next_left : step < 100 → (outer_of image table at ≡ 0) ⊎ IsNamedWithin image (100 - (step + 1)) table (outer_of image table at)
  next_left early =
      let n = named_at in
      let short = n.3 in
      elim (under image indexes n.2) [
        | inl none ↦ inl none
        | inr u ↦ let shorter = u.2 in inr (n.0, u.0, u.1, omega arith)
      ]

  pub climb_goes : step < 100 → IsClimbing image table row (rows ++ at ∷ []) (outer_of image table at) (step + 1)
  climb_goes early = record {
    so = λ more h. subst (λ (l : List ℕ). AreOutward image table row l) (sym (append_assoc rows (at ∷ []) more)) (c.so (at ∷ more) (refl, there named_at.2, h));
    left = next_left early;
  }
