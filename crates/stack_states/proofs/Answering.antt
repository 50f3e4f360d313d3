-- Answers of tests.
use Rattle.std.proofs.Common.{◌↔◌, refl, Bool, true, false, not, IsTrue}

pub not_iff : (r : Bool) {X : Type 0} → (IsTrue r ↔ X) → (IsTrue (not r) ↔ (X → ⊥))
not_iff true h = (λ e. absurd (let f : ⊥ = cc in f), λ f. absurd (f (h.0 refl)))
not_iff false h = (λ e x. let g = h.1 x in cc, λ f. refl)
