-- Lists by their first item and the others.
use Rattle.std.proofs.Common.{◌≡◌, ◌-◌, List, ◌∷◌, length, take, ap, ◌∙◌, arith}
use Rattle.std.proofs.Math.Seq.{take-length}

pub rest_all : {X : Type 0} (x : X) (xs : List X) → take (length (x ∷ xs) - 1) xs ≡ xs
rest_all x xs = ap (λ n. take n xs) {x = length (x ∷ xs) - 1} {y = length xs} (omega arith) ∙ take-length xs
