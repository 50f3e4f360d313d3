-- Numbers beyond all others.
use Rattle.std.proofs.Common.{◌≡◌, ℕ, zero, suc, ◌≤◌, ◌^◌, List, ap, ◌∙◌, refl, arith}
use Rattle.std.specs.Prelude.{Bool, true, false, pos, neg_ℤ, if◌then◌else◌, drop}
use Rattle.il_lexer.specs.Classes.{first_is}
use Rattle.source_model.specs.Shapes.{natural}
use Rattle.source_model.specs.Values.{integer, magnitude}
use Rattle.source_nodes.specs.Integers.{distance}

none_below : (n : ℕ) → natural (neg_ℤ (pos n)) ≡ 0
none_below zero = refl
none_below (suc n) = refl

pub beyond_negative : (bs : List ℕ) → first_is 45 bs ≡ true → natural (integer bs) ≡ 0
unfolding integer
beyond_negative bs e =
    ap (λ (c : Bool). natural (if c then neg_ℤ (pos (magnitude (drop 1 bs))) else pos (magnitude bs))) e ∙ none_below (magnitude (drop 1 bs))

pub beyond_positive : (bs : List ℕ) → first_is 45 bs ≡ false → 2 ^ 64 ≤ distance (integer bs) → 2 ^ 64 ≤ natural (integer bs)
unfolding integer
beyond_positive bs e far =
    let whole : (if first_is 45 bs then neg_ℤ (pos (magnitude (drop 1 bs))) else pos (magnitude bs)) ≡ pos (magnitude bs) =
    ap (λ (c : Bool). if c then neg_ℤ (pos (magnitude (drop 1 bs))) else pos (magnitude bs)) e in
    let size : distance (integer bs) ≡ magnitude bs = ap distance whole in
    let number : natural (integer bs) ≡ magnitude bs = ap natural whole in
    omega (arith, far, size, number)
