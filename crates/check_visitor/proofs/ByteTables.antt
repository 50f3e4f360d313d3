-- Tables of bytes that say of each production whether it is one of some.
use Rattle.std.proofs.Common.{◌≡◌, ℕ, zero, suc, ◌+◌, ◌<◌, ◌≤◌, List, [], ◌∷◌, length, get_or, refl, ap, ◌∙◌, arith}
use Rattle.std.specs.Prelude.{Bool, true, false, not, ◌==◌, ◌||◌, ◌&&◌, nat_lt}
use Rattle.std.specs.List.{list_all}
use Rattle.std.proofs.lemmas.Bool.{ltb-true}
use Rattle.std.proofs.lemmas.Bool.Decides.{Decides-eqb}
use Rattle.source_model.specs.Forest.{is_among}
use Rattle.source_nodes.proofs.WrittenNames.{both_true}

-- the byte with this number isn't zero
abbrev pub byte_at : List ℕ → ℕ → Bool
byte_at bytes p = not (get_or bytes p 0 == 0)

abbrev same : Bool → Bool → Bool
same true b = b
same false true = false
same false false = true

same_is : (a b : Bool) → same a b ≡ true → a ≡ b
same_is true true e = refl
same_is true false e = absurd cc
same_is false true e = absurd cc
same_is false false e = refl

-- these bytes say of each number from one on whether it passes a test
abbrev pub are_told : (ℕ → Bool) → List ℕ → ℕ → Bool
are_told test [] n = true
are_told test (b ∷ bytes) n = same (not (b == 0)) (test n) && are_told test bytes (suc n)

pub told : (test : ℕ → Bool) (bytes : List ℕ) (n p : ℕ) → are_told test bytes n ≡ true → p < length bytes → byte_at bytes p ≡ test (n + p)
told test [] n p e less = absurd (omega (arith, less))
told test (b ∷ bytes) n zero e less =
    let both = both_true (same (not (b == 0)) (test n)) (are_told test bytes (suc n)) e in
    let at : n ≡ n + 0 = omega arith in
    same_is (not (b == 0)) (test n) both.0 ∙ ap test at
told test (b ∷ bytes) n (suc p) e less =
    let both = both_true (same (not (b == 0)) (test n)) (are_told test bytes (suc n)) e in
    let at : suc n + p ≡ n + suc p = omega arith in
    told test bytes (suc n) p both.1 (omega (arith, less)) ∙ ap test at

-- ---- past the last

pub far_from : (p : ℕ) → 704 ≤ p → (qs : List ℕ) → list_all (λ q. nat_lt q 704) qs ≡ true → is_among qs p ≡ false
far_from p far [] e = refl
far_from p far (q ∷ qs) e =
    let both = both_true (nat_lt q 704) (list_all (λ r. nat_lt r 704) qs) e in
    let low : q < 704 = ltb-true q 704 both.0 in
    ap (λ c. c || is_among qs p) (go (q == p) refl low) ∙ far_from p far qs both.1
  where
    go : (c : Bool) → (q == p) ≡ c → q < 704 → c ≡ false
    go false is low = refl
    go true is low = let at : q ≡ p = (Decides-eqb q p).0 is in absurd (omega (arith, at, low, far))
