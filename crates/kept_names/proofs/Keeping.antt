-- A value that is kept behind the others.
use Rattle.std.proofs.Common.{◌≡◌, ℕ, zero, suc, ◌<◌, Bool, true, false, cond, List, [], ◌∷◌, ◌++◌, length, Option, Some, None, refl, ◌∙◌, ap, arith}
use Rattle.std.specs.Prelude.{slice_get}
use Rattle.kept_names.specs.Keeping.{at_place}

front : {X : Type 0} (xs : List X) (x : X) (k : ℕ) → k < length xs → slice_get (xs ++ x ∷ []) k ≡ slice_get xs k
front [] x k less = absurd (omega arith)
front (y ∷ ys) x zero less = refl
front (y ∷ ys) x (suc k) less = front ys x k (omega arith)

last : {X : Type 0} (xs : List X) (x : X) → slice_get (xs ++ x ∷ []) (length xs) ≡ Some x
last [] x = refl
last (y ∷ ys) x = last ys x

-- the value is found at the last place, and the others where they were
pub kept_more : {X : Type 0} (items : List X) (x : X) (here : Bool) (place : ℕ) (o : Option ℕ) → place ≡ length items → ((k : ℕ) → o ≡ Some k → k < length items)
    → at_place (items ++ x ∷ []) (cond here (Some place) o) ≡ cond here (Some x) (at_place items o)
kept_more items x true place o e within = ap (slice_get (items ++ x ∷ [])) e ∙ last items x
kept_more items x false place None e within = refl
kept_more items x false place (Some k) e within = front items x k (within k refl)
