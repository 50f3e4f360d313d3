-- What stands nowhere in a forest stands in none of its parts.
use Rattle.std.proofs.Common.{◌≡◌, ℕ, List, [], ◌∷◌, ◌++◌, refl, ap, sym, subst, ◌∙◌}
use Rattle.std.specs.Prelude.{Bool, true, false, if◌then◌else◌}
use Rattle.std.specs.List.{AllByRecursion}
use Rattle.source_model.specs.Forest.{Forest, none, leaf, branch, Part, below_each, child, has, is_among, is_any_part, part, parts}
use Rattle.source_flags.proofs.Gathered.{all_append}

both_empty : (xs ys : List Part) → xs ++ ys ≡ [] → (xs ≡ []) × (ys ≡ [])
both_empty [] ys e = (refl, e)
both_empty (x ∷ xs) ys e = absurd cc

-- a branch of which nothing is sought
pub record Empty (sought : List ℕ) (p : ℕ) (b a : Forest) : Type 0 where
  pub other : is_among sought p ≡ false
  pub below : parts sought b ≡ []
  pub after : parts sought a ≡ []

pub empty_branch : (sought : List ℕ) (p : ℕ) (b a : Forest) → parts sought (branch p b a) ≡ [] → Empty sought p b a
empty_branch sought p b a e = go (is_among sought p) refl e
  where
    go : (c : Bool) → is_among sought p ≡ c → (if c then part p b ∷ [] else parts sought b) ++ parts sought a ≡ [] → Empty sought p b a
    go true is h = absurd cc
    go false is h =
        let both = both_empty (parts sought b) (parts sought a) h in
        record { other = is; below = both.0; after = both.1 }

module _ (sought all : List ℕ) where
  pub none_in_parts : (f : Forest) → parts sought f ≡ [] → AllByRecursion (λ (g : Forest). parts sought g ≡ []) (below_each (parts all f))
  none_in_parts none e = tt
  none_in_parts (leaf k a) e = none_in_parts a e
  none_in_parts (branch p b a) e =
      let m = empty_branch sought p b a e in
      go (is_among all p) refl m.below (none_in_parts b m.below) (none_in_parts a m.after)
    where
      joined_below : (ps qs : List Part) → below_each (ps ++ qs) ≡ below_each ps ++ below_each qs
      joined_below [] qs = refl
      joined_below (q ∷ ps) qs = ap (λ gs. q.below ∷ gs) (joined_below ps qs)

      at : (c : Bool) → is_among all p ≡ c → below_each (parts all (branch p b a)) ≡ below_each ((if c then part p b ∷ [] else parts all b) ++ parts all a)
      at c is = ap (λ (d : Bool). below_each ((if d then part p b ∷ [] else parts all b) ++ parts all a)) is

      go : (c : Bool) → is_among all p ≡ c → parts sought b ≡ [] → AllByRecursion (λ (g : Forest). parts sought g ≡ []) (below_each (parts all b))
          → AllByRecursion (λ (g : Forest). parts sought g ≡ []) (below_each (parts all a))
          → AllByRecursion (λ (g : Forest). parts sought g ≡ []) (below_each (parts all (branch p b a)))
      go true is own below after = subst (AllByRecursion (λ (g : Forest). parts sought g ≡ [])) (sym (at true is)) (own, after)
      go false is own below after =
          subst (AllByRecursion (λ (g : Forest). parts sought g ≡ [])) (sym (at false is ∙ joined_below (parts all b) (parts all a)))
          (all_append (λ (g : Forest). parts sought g ≡ []) (below_each (parts all b)) (below_each (parts all a)) below after)

pub nothing_of : (ps : List Part) → is_any_part ps ≡ false → ps ≡ []
nothing_of [] e = refl
nothing_of (p ∷ ps) e = absurd cc

-- what stands nowhere isn't at the top
pub no_child : (q : ℕ) (f : Forest) → parts (q ∷ []) f ≡ [] → child (q ∷ []) f ≡ none
no_child q none e = refl
no_child q (leaf k a) e = no_child q a e
no_child q (branch p b a) e =
    let m = empty_branch (q ∷ []) p b a e in
    ap (λ (c : Bool). if c then b else child (q ∷ []) a) m.other ∙ no_child q a m.after
