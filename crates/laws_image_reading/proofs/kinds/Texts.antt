-- Texts that a test takes for the same are equal.
use Rattle.std.proofs.Common.{◌≡◌, refl, sym, nat_eq, ℕ, true≢false, List, [], ◌∷◌}
use Rattle.std.specs.Prelude.{IsTrue}
use Rattle.std.proofs.lemmas.Bool.{and_parts, eqb-true}
use lib.Pointwise.{pointwise}

pub text_is : (a b : List ℕ) → IsTrue (pointwise nat_eq a b) → a ≡ b
text_is [] [] h = refl
text_is [] (y ∷ b) h = absurd (true≢false (sym h))
text_is (x ∷ a) [] h = absurd (true≢false (sym h))
text_is (x ∷ a) (y ∷ b) h =
    let both = and_parts (nat_eq x y) (pointwise nat_eq a b) h in
    let head = eqb-true x y both.0 in
    let tail = text_is a b both.1 in
    λ i. head i ∷ tail i
