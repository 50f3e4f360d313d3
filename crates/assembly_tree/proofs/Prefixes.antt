-- What a loop over a list knows of the items so far, and of the next one.
use Rattle.std.proofs.Common.{◌≡◌, ◌∙◌, sym, ap, ℕ, ◌+◌, ◌<◌, List, length, take, get_or}
use Rattle.std.specs.List.{sum_by}
use Rattle.std.proofs.lemmas.List.Sums.{sum_by_more}

pub sum_with_next : {X : Type 0} (f : X → ℕ) (xs : List X) (i : ℕ) (x : X) → i < length xs → x ≡ get_or xs i x →
    sum_by f (take (i + 1) xs) ≡ sum_by f (take i xs) + f x
sum_with_next f xs i x h e = sum_by_more f xs i x h ∙ ap (λ y. sum_by f (take i xs) + f y) (sym e)
