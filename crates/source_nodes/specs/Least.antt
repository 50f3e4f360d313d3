-- The least of some tokens.
use Rattle.std.specs.Prelude.{ℕ, nat_lt, if◌then◌else◌, List, [], ◌∷◌, Option, None, Some}

-- the less of two, where there are any
abbrev pub sooner : Option ℕ → Option ℕ → Option ℕ
sooner None y = y
sooner (Some x) None = Some x
sooner (Some x) (Some y) = Some (if nat_lt y x then y else x)

abbrev pub least : List ℕ → Option ℕ
least [] = None
least (k ∷ ks) = sooner (Some k) (least ks)
