-- Lists of which each byte passes.
use Rattle.std.proofs.Common.{◌≡◌, ℕ, ◌<◌, Bool, true, false, ◌&&◌, nat_lt, List, [], ◌∷◌, ◌++◌, refl, arith}
use Rattle.il_lexer.specs.Spelled.{Each, EachOf}

pub each_append : (p : ℕ → Bool) (xs ys : List ℕ) → Each p xs → Each p ys → Each p (xs ++ ys)
each_append p [] ys h k = k
each_append p (x ∷ xs) ys h k = (h.0, each_append p xs ys h.1 k)

pub each_of_append : (p : ℕ → Bool) (xs ys : List ℕ) → Each p xs → EachOf p ys → EachOf p (xs ++ ys)
each_of_append p [] ys h k = k
each_of_append p (x ∷ xs) [] h k = absurd k
each_of_append p (x ∷ xs) (y ∷ ys) h k = (h.0, each_append p xs (y ∷ ys) h.1 k)

pub each_of_then : (p : ℕ → Bool) (xs ys : List ℕ) → EachOf p xs → Each p ys → EachOf p (xs ++ ys)
each_of_then p [] ys h k = absurd h
each_of_then p (x ∷ xs) ys h k = (h.0, each_append p xs ys h.1 k)

-- both of two tests hold
pub and_parts : (p q : Bool) → (p && q) ≡ true → (p ≡ true) × (q ≡ true)
and_parts true true h = (refl, refl)
and_parts true false h = grind (arith, h)
and_parts false q h = grind (arith, h)

pub less : (a b : ℕ) → nat_lt a b ≡ true → a < b
less a b h = grind (arith, h)
