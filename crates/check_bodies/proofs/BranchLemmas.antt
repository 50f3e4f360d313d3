-- Labels behind branches, by the numbers that they stand for.
use Rattle.std.proofs.Common.{◌≡◌, ℕ, List, [], ◌∷◌, ◌++◌, length, cond, ap, sym, ◌∙◌, refl}
use Rattle.std.specs.Prelude.{Bool, true, false, ◌==◌, Option, None, Some, option_map, is_some, filter}
use Rattle.std.specs.List.{flat_map}
use Rattle.source_model.specs.BodyFaults.{targets_at_the_end}
use Rattle.source_model.specs.Forest.{Forest, Part}
use Rattle.source_model.specs.Instructions.{instructions_of, is_label, label_named, label_number, number_at, number_of_label, targets}
use Rattle.source_model.specs.Source.{Source}
use Rattle.source_syntax.specs.Labels.{ends_at, number_declared}

filter_append : {X : Type 0} (p : X → Bool) (xs ys : List X) → filter p (xs ++ ys) ≡ filter p xs ++ filter p ys
filter_append p [] ys = refl
filter_append p (x ∷ xs) ys = go (p x) (filter_append p xs ys)
  where
    go : (c : Bool) → filter p (xs ++ ys) ≡ filter p xs ++ filter p ys
        → cond c (x ∷ filter p (xs ++ ys)) (filter p (xs ++ ys)) ≡ cond c (x ∷ filter p xs) (filter p xs) ++ filter p ys
    go true rest = ap (λ zs. x ∷ zs) rest
    go false rest = rest

module _ (s : Source) (f : Forest) where
  -- those that a label has and of which it is the end
  both_tests : (ks : List ℕ) (count : ℕ) → filter (λ k. label_number s f k == count) (filter (is_label s f) ks) ≡ filter (λ k. ends_at count (number_declared s f k)) ks
  both_tests [] count = refl
  both_tests (k ∷ ks) count = go (label_named s f k) refl (both_tests ks count)
    where
      go : (o : Option ℕ) → label_named s f k ≡ o
          → filter (λ j. label_number s f j == count) (filter (is_label s f) ks) ≡ filter (λ j. ends_at count (number_declared s f j)) ks
          → filter (λ j. label_number s f j == count) (filter (is_label s f) (k ∷ ks)) ≡ filter (λ j. ends_at count (number_declared s f j)) (k ∷ ks)
      go None is rest =
          ap (λ c. filter (λ j. label_number s f j == count) (cond c (k ∷ filter (is_label s f) ks) (filter (is_label s f) ks))) (ap is_some is)
          ∙ rest
          ∙ sym (ap (λ c. cond c (k ∷ filter (λ j. ends_at count (number_declared s f j)) ks) (filter (λ j. ends_at count (number_declared s f j)) ks))
          (ap (λ o. ends_at count (option_map (number_at f) o)) is))
      go (Some l) is rest =
          ap (λ c. filter (λ j. label_number s f j == count) (cond c (k ∷ filter (is_label s f) ks) (filter (is_label s f) ks))) (ap is_some is)
          ∙ ap (λ c. cond c (k ∷ filter (λ j. label_number s f j == count) (filter (is_label s f) ks)) (filter (λ j. label_number s f j == count) (filter (is_label s f) ks)))
          (ap (λ o. number_of_label f o == count) is)
          ∙ ap (λ ys. cond (number_at f l == count) (k ∷ ys) ys) rest
          ∙ sym (ap (λ c. cond c (k ∷ filter (λ j. ends_at count (number_declared s f j)) ks) (filter (λ j. ends_at count (number_declared s f j)) ks))
          (ap (λ o. ends_at count (option_map (number_at f) o)) is))

  pub to_the_end : (ps : List Part)
      → flat_map (targets_at_the_end s f) ps ≡ filter (λ k. ends_at (length (instructions_of f)) (number_declared s f k)) (flat_map targets ps)
  to_the_end [] = refl
  to_the_end (p ∷ ps) =
      let count = length (instructions_of f) in
      ap (λ ys. targets_at_the_end s f p ++ ys) (to_the_end ps)
      ∙ ap (λ xs. xs ++ filter (λ k. ends_at count (number_declared s f k)) (flat_map targets ps)) (both_tests (targets p) count)
      ∙ sym (filter_append (λ k. ends_at count (number_declared s f k)) (targets p) (flat_map targets ps))
