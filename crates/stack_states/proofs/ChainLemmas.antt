-- The first values of a list, and what follows them, seen from its other end.
use Rattle.std.proofs.Common.{◌≡◌, ◌∙◌, ap, sym, ℕ, ◌-◌, refl, List, length, ◌++◌, take, drop, reverse}
use Rattle.std.proofs.lemmas.List.{reverse-append, length-reverse, length-drop, take-append-drop}
use Rattle.std.proofs.Math.Seq.{take-append_seam, drop-append_seam}

parted : {X : Type 0} (n : ℕ) (xs : List X) → reverse xs ≡ reverse (drop n xs) ++ reverse (take n xs)
parted n xs = ap reverse (sym (take-append-drop n xs)) ∙ reverse-append (take n xs) (drop n xs)

front_long : {X : Type 0} (n : ℕ) (xs : List X) → length (reverse xs) - n ≡ length (reverse (drop n xs))
front_long n xs = simp (length-reverse, length-drop) refl

pub front_reversed : {X : Type 0} (n : ℕ) (xs : List X) → reverse (drop n xs) ≡ take (length (reverse xs) - n) (reverse xs)
front_reversed n xs =
    sym (ap (λ (i : ℕ). take i (reverse xs)) (front_long n xs)
    ∙ ap (λ ys. take (length (reverse (drop n xs))) ys) (parted n xs)
    ∙ take-append_seam (reverse (drop n xs)) (reverse (take n xs)))

pub back_reversed : {X : Type 0} (n : ℕ) (xs : List X) → reverse (take n xs) ≡ drop (length (reverse xs) - n) (reverse xs)
back_reversed n xs =
    sym (ap (λ (i : ℕ). drop i (reverse xs)) (front_long n xs)
    ∙ ap (λ ys. drop (length (reverse (drop n xs))) ys) (parted n xs)
    ∙ drop-append_seam (reverse (drop n xs)) (reverse (take n xs)))
