-- Two lists whose items go together, place by place.
use Rattle.std.proofs.Common.{List, [], ◌∷◌, ◌++◌}
use Rattle.std.specs.List.{AllZip}

pub zip_weaker : {A B : Type 0} (P Q : A → B → Type 0) (xs : List A) (ys : List B) → ((x : A) (y : B) → P x y → Q x y) → AllZip P xs ys → AllZip Q xs ys
zip_weaker P Q [] [] f h = tt
zip_weaker P Q [] (y ∷ ys) f h = absurd h
zip_weaker P Q (x ∷ xs) [] f h = absurd h
zip_weaker P Q (x ∷ xs) (y ∷ ys) f h = (f x y h.0, zip_weaker P Q xs ys f h.1)

pub zip_end : {A B : Type 0} (P : A → B → Type 0) (xs : List A) (ys : List B) (x : A) (y : B) → AllZip P xs ys → P x y → AllZip P (xs ++ x ∷ []) (ys ++ y ∷ [])
zip_end P [] [] x y h g = (g, tt)
zip_end P [] (b ∷ ys) x y h g = absurd h
zip_end P (a ∷ xs) [] x y h g = absurd h
zip_end P (a ∷ xs) (b ∷ ys) x y h g = (h.0, zip_end P xs ys x y h.1 g)
