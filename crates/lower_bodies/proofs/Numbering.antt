-- The things of a list with their numbers.
use Rattle.std.proofs.Common.{◌≡◌, ℕ, zero, suc, ◌+◌, ◌≤◌, List, [], ◌∷◌, length, take, ap, ◌∙◌, arith, slice_get}
use Rattle.std.specs.Prelude.{Some}
use Rattle.std.specs.List.{enumerate_from}
use Rattle.std.proofs.lemmas.List.{take_all}
use Rattle.std.proofs.lemmas.List.FromFn.{length-enumerate_from}

-- each thing of a list with its number
numbered_at : {X : Type 0} (at : ℕ) (xs : List X) (i : ℕ) (x : X) → slice_get xs i ≡ Some x → slice_get (enumerate_from at xs) i ≡ Some (at + i, x)
numbered_at at [] i x e = absurd cc
numbered_at at (y ∷ ys) zero x e =
    let same : y ≡ x = cc in
    let here : at ≡ at + 0 = omega arith in
    ap (λ z. Some (at, z)) same ∙ ap (λ n. Some (n, x)) here
numbered_at at (y ∷ ys) (suc i) x e =
    let next : at + 1 + i ≡ at + suc i = omega arith in
    numbered_at (at + 1) ys i x e ∙ ap (λ n. Some (n, x)) next

pub with_number : {X : Type 0} (xs : List X) (i : ℕ) (x : X) → slice_get xs i ≡ Some x → slice_get (enumerate_from 0 xs) i ≡ Some (i, x)
with_number xs i x e = let same : 0 + i ≡ i = omega arith in numbered_at 0 xs i x e ∙ ap (λ n. Some (n, x)) same

pub all_numbered : {X : Type 0} (xs : List X) (i : ℕ) → length xs ≤ i → take i (enumerate_from 0 xs) ≡ enumerate_from 0 xs
all_numbered xs i over = take_all i (enumerate_from 0 xs) (omega (arith, length-enumerate_from 0 xs))
