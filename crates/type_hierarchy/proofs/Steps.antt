-- One more of a list.
use Rattle.std.proofs.Common.{◌≡◌, ◌∙◌, ap, sym, refl, ℕ, ◌+◌, ◌<◌, List, [], ◌∷◌, ◌++◌, length, get_or, take, map, Option, None, Some}
use Rattle.std.specs.List.{filter_map}
use Rattle.std.proofs.lemmas.List.{take_more, map-append}
use Rattle.std.proofs.lemmas.List.Elements.{filter_map-append}
use Rattle.type_hierarchy.specs.Reading.{as_list}

pub map_step : {X Y : Type 0} (f : X → Y) (xs : List X) (i : ℕ) (x : X) → i < length xs → x ≡ get_or xs i x
    → map f (take i xs) ++ f x ∷ [] ≡ map f (take (i + 1) xs)
map_step f xs i x low is =
    sym (ap (map f) (take_more xs i x low) ∙ map-append f (take i xs) (get_or xs i x ∷ [])
    ∙ ap (λ y. map f (take i xs) ++ f y ∷ []) (sym is))

one_kept : {X Y : Type 0} (f : X → Option Y) (x : X) (o : Option Y) → f x ≡ o → filter_map f (x ∷ []) ≡ as_list o
one_kept f x None e = rw e refl
one_kept f x (Some y) e = rw e refl

pub filter_map_step : {X Y : Type 0} (f : X → Option Y) (xs : List X) (i : ℕ) (x : X) → i < length xs → x ≡ get_or xs i x
    → filter_map f (take i xs) ++ as_list (f x) ≡ filter_map f (take (i + 1) xs)
filter_map_step f xs i x low is =
    sym (ap (filter_map f) (take_more xs i x low) ∙ filter_map-append f (take i xs) (get_or xs i x ∷ [])
    ∙ ap (λ y. filter_map f (take i xs) ++ filter_map f (y ∷ [])) (sym is)
    ∙ ap (λ ys. filter_map f (take i xs) ++ ys) (one_kept f x (f x) refl))
