-- Rows of pieces are drawn one after the other.
use Rattle.std.proofs.Common.{◌≡◌, ℕ, List, [], ◌∷◌, ◌++◌, map, fold, refl, ap, sym, ◌∙◌}
use Rattle.std.proofs.lemmas.List.Folds.{fold-map}
use Rattle.listing_model.specs.Shown.{Shown, Item, star_below, commas, behind_comma}
use Rattle.print_leaves.specs.Page.{Page, drawn}
use Rattle.print_terms.specs.Rows.{under, in_row, behind, between}

pub star_row : (more end : ℕ) (p : Page) (is : List Item) → drawn p (star_below more end is) ≡ in_row p is
star_row more end p [] = refl
star_row more end p (i ∷ is) = star_row more end (under p i) is

pub row_append : (p : Page) (is js : List Item) → in_row p (is ++ js) ≡ in_row (in_row p is) js
row_append p [] js = refl
row_append p (i ∷ is) js = row_append (under p i) is js

-- a row of a list's items
pub row_map : {X : Type 0} (f : X → Item) (p : Page) (xs : List X) → in_row p (map f xs) ≡ fold (λ q x. under q (f x)) p xs
row_map f p xs = fold-map under f p xs

pub star_map : {X : Type 0} (more end : ℕ) (f : X → Item) (p : Page) (xs : List X) →
    drawn p (star_below more end (map f xs)) ≡ fold (λ q x. under q (f x)) p xs
star_map more end f p xs = star_row more end p (map f xs) ∙ row_map f p xs

pub commas_between : (more end comma : ℕ) (p : Page) (is : List Item) (after : Shown) →
    drawn p (commas more end comma is after) ≡ drawn (between p is) after
commas_between more end comma p [] after = refl
commas_between more end comma p (i ∷ is) after =
    ap (λ q. drawn q after) (star_map more end (behind_comma comma) (under p i) is)

-- pieces that are drawn alike
fold_alike : {X : Type 0} (f g : Page → X → Page) → ((q : Page) (x : X) → f q x ≡ g q x) → (p : Page) (xs : List X) → fold f p xs ≡ fold g p xs
fold_alike f g e p [] = refl
fold_alike f g e p (x ∷ xs) = ap (λ q. fold f q xs) (e p x) ∙ fold_alike f g e (g p x) xs

pub between_map : {X : Type 0} (f : X → Item) (p : Page) (x : X) (xs : List X) →
    between p (map f (x ∷ xs)) ≡ fold (λ q y. behind q (f y)) (under p (f x)) xs
between_map f p x xs = fold-map behind f (under p (f x)) xs

pub between_alike : {X : Type 0} (f g : X → Item) → ((q : Page) (x : X) → under q (f x) ≡ under q (g x)) → (p : Page) (xs : List X) →
    between p (map f xs) ≡ between p (map g xs)
between_alike f g e p [] = refl
between_alike f g e p (x ∷ xs) =
    between_map f p x xs
    ∙ (ap (λ q. fold (λ q y. behind q (f y)) q xs) (e p x)
    ∙ (fold_alike (λ q y. behind q (f y)) (λ q y. behind q (g y)) (λ q y. e _ y) (under p (g x)) xs ∙ sym (between_map g p x xs)))

-- the first of a list, and each other behind a comma
pub between_done : {X : Type 0} (f : X → Item) (p a new : Page) (x : X) (xs more all : List X) → xs ≡ x ∷ more → all ≡ more → a ≡ under p (f x) →
    new ≡ fold (λ q y. behind q (f y)) a all → new ≡ between p (map f xs)
between_done f p a new x xs more all e el ha hn =
    hn
    ∙ (ap (λ ys. fold (λ q y. behind q (f y)) a ys) el
    ∙ (ap (λ r. fold (λ q y. behind q (f y)) r more) ha ∙ (sym (between_map f p x more) ∙ ap (λ ys. between p (map f ys)) (sym e))))
