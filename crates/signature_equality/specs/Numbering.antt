-- What is known of a test that tells tokens that name the same.
use Rattle.std.specs.Prelude.{◌≡◌, ◌↔◌, ℕ, Bool, IsTrue, Option, Some}
use Rattle.type_terms.specs.declared.term.Owner.{Owner}

-- of two tokens that name something it says whether they name the same
abbrev pub IsCanon : (ℕ → Option Owner) → (ℕ → ℕ → Bool) → Type 0
IsCanon owners canon = (x y : ℕ) (o p : Owner) → owners x ≡ Some o → owners y ≡ Some p → IsTrue (canon x y) ↔ (o ≡ p)
