-- A map from what each token names, where that is decided and is one thing.
use Rattle.std.proofs.Common.{◌≡◌, ap, refl, subst, ℕ, Option, None, Some, inl, inr}
use Rattle.std.specs.Prelude.{◌⊎◌, ◌↔◌}
use Rattle.laws_image_parts.proofs.namings.HeapUnits.{Decided}

-- something as an option
abbrev chosen : {X : Type 0} {P : X → Type 0} → ((x : X) × P x) ⊎ ((x : X) → P x → ⊥) → Option X
chosen (inl h) = Some h.0
chosen (inr n) = None

module _ {X : Type 0} (Names : ℕ → X → Type 0) (decided : (token : ℕ) → Decided (Names token))
    (one : (token : ℕ) (x y : X) → Names token x → Names token y → x ≡ y) where
  unfoldable pub map_of : ℕ → Option X
  map_of token = chosen (decided token)

  pub map_tells : (token : ℕ) (x : X) → (map_of token ≡ Some x) ↔ Names token x
  unfolding map_of
  map_tells token x = (told (decided token), tells (decided token))
    where
      told : (d : ((y : X) × Names token y) ⊎ ((y : X) → Names token y → ⊥)) → chosen d ≡ Some x → Names token x
      told (inl h) e = let same : h.0 ≡ x = cc in subst (Names token) same h.1
      told (inr n) e = absurd cc

      tells : (d : ((y : X) × Names token y) ⊎ ((y : X) → Names token y → ⊥)) → Names token x → chosen d ≡ Some x
      tells (inl h) k = ap Some (one token h.0 x h.1 k)
      tells (inr n) k = absurd (n x k)

  -- what names nothing
  pub map_none : (token : ℕ) → ((x : X) → Names token x → ⊥) → map_of token ≡ None
  unfolding map_of
  map_none token none = by_choice (decided token)
    where
      by_choice : (d : ((y : X) × Names token y) ⊎ ((y : X) → Names token y → ⊥)) → chosen d ≡ None
      by_choice (inl h) = absurd (none h.0 h.1)
      by_choice (inr n) = refl
