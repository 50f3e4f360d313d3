-- What a list of tokens holds after the tokens of a signature were put behind it.
use Rattle.std.specs.Prelude.{◌≡◌, ℕ, Bool, true, false, List, ◌++◌, Option, Some, None}

-- where the signature is spelled whole its tokens, in the order of their spelling, stand behind the old ones
abbrev pub Tells : List ℕ → List ℕ → Bool → Option (List ℕ) → Type 0
Tells old now spelled (Some tokens) = (spelled ≡ true) × (now ≡ old ++ tokens)
Tells old now spelled None = (spelled ≡ false) × (now ≡ old)
