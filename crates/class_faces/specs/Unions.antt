-- Lists of ids by what is in them.
use Rattle.std.specs.Prelude.{◌↔◌, ◌⊎◌, ℕ, List}
use Rattle.std.specs.List.{Contains}

-- the ids of both lists and no others
abbrev pub IsUnion : List ℕ → List ℕ → List ℕ → Type 0
IsUnion xs ys ids = (k : ℕ) → Contains ids k ↔ (Contains xs k ⊎ Contains ys k)
