-- What waits in a worklist: numbers below a bound, each at most once, the one that has waited longest first.
use Rattle.std.specs.Prelude.{ℕ, Bool, nat_eq, if◌then◌else◌, List, [], ◌∷◌, ◌++◌}
use Rattle.std.specs.List.{list_any}

-- the bound, and the numbers
pub record Waiting : Type 0 where
  pub count : ℕ
  pub numbers : List ℕ

-- whether a number is among these
abbrev pub has : List ℕ → ℕ → Bool
has numbers k = list_any (nat_eq k) numbers

-- a number that isn't in the list waits behind the others
abbrev pub pushed : Waiting → ℕ → Waiting
pushed w k = if has w.numbers k then w else record w { numbers = w.numbers ++ k ∷ [] }
