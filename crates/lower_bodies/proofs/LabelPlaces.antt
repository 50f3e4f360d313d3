-- The first label with a name, by the place of the name among the names of all.
use Rattle.std.proofs.Common.{◌≡◌, ℕ, suc, List, [], ◌∷◌, map, cond, ap, sym, ◌∙◌, refl, slice_get}
use Rattle.std.specs.Prelude.{Bool, true, false, Option, None, Some, option_map, bytes_eq, position}
use Rattle.std.proofs.lemmas.Slice.Eq.{bytes_eq-Decides}
use Rattle.source_model.specs.Source.{Source}
use Rattle.source_model.specs.Values.{name_text}
use Rattle.source_syntax.proofs.LabelLemmas.{position_first}
use Rattle.lower_bodies.specs.LabelSlots.{first_named}

eq_swap : (a b : List ℕ) → bytes_eq a b ≡ bytes_eq b a
eq_swap a b = go (bytes_eq a b) (bytes_eq b a) refl refl
  where
    go : (c d : Bool) → bytes_eq a b ≡ c → bytes_eq b a ≡ d → c ≡ d
    go true true e h = refl
    go false false e h = refl
    go true false e h = let is : a ≡ b = (bytes_eq-Decides a b).0 e in let also = (bytes_eq-Decides b a).1 (sym is) in absurd cc
    go false true e h = let is : b ≡ a = (bytes_eq-Decides b a).0 h in let also = (bytes_eq-Decides a b).1 (sym is) in absurd cc

-- the token at a place that was found
abbrev pub at_place : List ℕ → Option ℕ → Option ℕ
at_place ls None = None
at_place ls (Some i) = slice_get ls i

pub named_at : (s : Source) (name ls : List ℕ) → first_named s name ls ≡ at_place ls (position (bytes_eq name) (map (name_text s) ls))
named_at s name [] = refl
named_at s name (l ∷ ls) =
    ap (λ c. cond c (Some l) (first_named s name ls)) (eq_swap (name_text s l) name)
    ∙ go (bytes_eq name (name_text s l)) (named_at s name ls)
    ∙ sym (ap (at_place (l ∷ ls)) (position_first (bytes_eq name) (name_text s l) (map (name_text s) ls)))
  where
    next : (o : Option ℕ) → at_place ls o ≡ at_place (l ∷ ls) (option_map suc o)
    next None = refl
    next (Some i) = refl

    go : (c : Bool) → first_named s name ls ≡ at_place ls (position (bytes_eq name) (map (name_text s) ls))
        → cond c (Some l) (first_named s name ls) ≡ at_place (l ∷ ls) (cond c (Some 0) (option_map suc (position (bytes_eq name) (map (name_text s) ls))))
    go true rest = refl
    go false rest = rest ∙ next (position (bytes_eq name) (map (name_text s) ls))
