-- The numbers of instructions.
use Rattle.std.proofs.Common.{◌≡◌, ℕ, suc, ◌≤◌, List, [], ◌∷◌, cond, length, map, ap, sym, ◌∙◌, arith}
use Rattle.std.specs.Prelude.{Bool, true, false, nat_lt, filter}
use Rattle.std.proofs.lemmas.List.{length-map}
use Rattle.source_model.specs.Forest.{Forest}
use Rattle.source_model.specs.Instructions.{instructions_of, mnemonic_token, number_at}
use Rattle.source_syntax.specs.Labels.{count_below}
use Rattle.source_syntax.proofs.OrderLemmas.{number_is}

few_below : (k : ℕ) (xs : List ℕ) → count_below k xs ≤ length xs
few_below k [] = omega arith
few_below k (x ∷ xs) = go (nat_lt x k) (few_below k xs)
  where
    go : (c : Bool) → count_below k xs ≤ length xs → length (cond c (x ∷ filter (λ y. nat_lt y k) xs) (filter (λ y. nat_lt y k) xs)) ≤ suc (length xs)
    go true h = omega (arith, h)
    go false h = omega (arith, h)

-- the number at a token, from the first tokens of all instructions
pub number_of_starts : (f : Forest) (starts : List ℕ) (k n : ℕ) → starts ≡ map mnemonic_token (instructions_of f) → n ≡ count_below k starts → n ≡ number_at f k
number_of_starts f starts k n e h = h ∙ ap (count_below k) e ∙ sym (number_is f k)

pub number_fits : (f : Forest) (starts : List ℕ) (k : ℕ) → starts ≡ map mnemonic_token (instructions_of f) → number_at f k ≤ length starts
number_fits f starts k e =
    let is = number_is f k in
    let few = few_below k (map mnemonic_token (instructions_of f)) in
    let many : length starts ≡ length (map mnemonic_token (instructions_of f)) = ap length e in
    omega (arith, is, few, many)

pub all_of_starts : (f : Forest) (starts : List ℕ) → starts ≡ map mnemonic_token (instructions_of f) → length starts ≡ length (instructions_of f)
all_of_starts f starts e = ap length e ∙ length-map (instructions_of f) mnemonic_token
