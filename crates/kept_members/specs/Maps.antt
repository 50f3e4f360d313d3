-- What is kept of keys, one after the other.
use Rattle.std.specs.Prelude.{◌≡◌, ℕ, Option, Some}
use Rattle.kept_names.specs.Keeping.{kept_at}
use Rattle.kept_names.specs.declared.kept.Kept.{Kept}

-- what is kept of each key
abbrev pub all_of : {X : Type 0} → Kept X → ℕ → Option X
all_of kept = kept_at kept.places kept.items

-- something is kept of a key
abbrev pub Has : {X : Type 0} → (ℕ → Option X) → ℕ → Type 0
Has {X} all key = (x : X) × (all key ≡ Some x)

-- what is kept is so
abbrev pub AreTrue : {X : Type 0} → (ℕ → X → Type 0) → (ℕ → Option X) → Type 0
AreTrue {X} Is all = (key : ℕ) (x : X) → all key ≡ Some x → Is key x

-- more is kept, all of it so
pub record Adds {X : Type 0} (Is : ℕ → X → Type 0) (old new : ℕ → Option X) : Type 0 where
  pub so : AreTrue Is old → AreTrue Is new
  pub stays : (key : ℕ) → Has old key → Has new key
