-- What a reference or a property can't have.
use Rattle.std.proofs.Common.{◌≡◌, ℕ, List, [], ◌∷◌, ◌++◌, ap, sym, ◌∙◌, refl, arith}
use Rattle.std.specs.Prelude.{true, false, map, Option, None, Some}
use Rattle.source_model.specs.Forest.{Forest, Part, below_each, each, first_token, has, is_any_part, parts}
use Rattle.source_nodes.specs.Least.{least, sooner}
use Rattle.source_syntax.proofs.LeastLemmas.{least_append}

-- the least of several times one token
same_twice : (k : ℕ) → sooner (Some k) (Some k) ≡ Some k
same_twice k = grind arith

always : (k : ℕ) (f : Forest) (fs : List Forest) → Some k ≡ least (map (λ (g : Forest). k) (f ∷ fs))
always k f [] = refl
always k f (g ∷ fs) = sym (same_twice k) ∙ ap (sooner (Some k)) (always k g fs)

some_same : (k : ℕ) (ps : List Part) → is_any_part ps ≡ true → Some k ≡ least (map (λ (g : Forest). k) (below_each ps))
some_same k [] e = absurd cc
some_same k (p ∷ ps) e = always k p.below (below_each ps)

none_same : (k : ℕ) (ps : List Part) → is_any_part ps ≡ false → None ≡ least (map (λ (g : Forest). k) (below_each ps))
none_same k [] e = refl
none_same k (p ∷ ps) e = absurd cc

pub if_some : (p k : ℕ) (f : Forest) → has p f ≡ true → Some k ≡ least (map (λ (g : Forest). k) (each p f))
if_some p k f e = some_same k (parts (p ∷ []) f) e

pub if_none : (p k : ℕ) (f : Forest) → has p f ≡ false → None ≡ least (map (λ (g : Forest). k) (each p f))
if_none p k f e = none_same k (parts (p ∷ []) f) e

map_both : (xs ys : List Forest) → map first_token (xs ++ ys) ≡ map first_token xs ++ map first_token ys
map_both [] ys = refl
map_both (x ∷ xs) ys = ap (λ ks. first_token x ∷ ks) (map_both xs ys)

pub either : (a b : Option ℕ) (xs ys : List Forest) → a ≡ least (map first_token xs) → b ≡ least (map first_token ys)
    → sooner a b ≡ least (map first_token (xs ++ ys))
either a b xs ys ea eb =
    ap (λ x. sooner x b) ea ∙ ap (sooner (least (map first_token xs))) eb
    ∙ sym (least_append (map first_token xs) (map first_token ys)) ∙ ap least (sym (map_both xs ys))
