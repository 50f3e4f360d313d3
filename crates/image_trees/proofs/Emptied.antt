-- Lists of empty lists.
use Rattle.std.proofs.Common.{◌≡◌, ℕ, zero, suc, ◌+◌, List, [], ◌∷◌, ◌++◌, length, refl, ◌∙◌, ap, arith, length-append}
use Rattle.std.specs.Prelude.{slice_index_or}
use Rattle.image_trees.specs.Lists.{AreEmpty}

empty_at : {X : Type 0} (lists : List (List X)) (k : ℕ) → ((j : ℕ) → slice_index_or lists j [] ≡ []) → slice_index_or (lists ++ [] ∷ []) k [] ≡ []
empty_at [] zero f = refl
empty_at [] (suc k) f = refl
empty_at (l ∷ lists) zero f = f 0
empty_at (l ∷ lists) (suc k) f = empty_at lists k (λ j. f (suc j))

-- one more
pub empty_more : {X : Type 0} (lists more : List (List X)) (x : List X) (count : ℕ) → AreEmpty count lists → x ≡ [] → more ≡ lists ++ x ∷ [] → AreEmpty (count + 1) more
empty_more lists more x count are e is = (
  ap length is ∙ length-append lists (x ∷ []) ∙ ap (λ (n : ℕ). n + 1) are.0,
  λ k. ap (λ l. slice_index_or l k []) (is ∙ ap (λ y. lists ++ y ∷ []) e) ∙ empty_at lists k are.1,
)
