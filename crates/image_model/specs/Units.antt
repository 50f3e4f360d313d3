-- UTF-16 units as bytes: two for each, the low one first (II.22.9, II.24.2.4).
use Rattle.std.specs.Prelude.{ℕ, ◌+◌, ◌*◌, List, [], ◌∷◌, Option, Some, None, option_map}

-- the units that bytes hold, where these are whole units
abbrev pub units_of : List ℕ → Option (List ℕ)
units_of [] = Some []
units_of (low ∷ []) = None
units_of (low ∷ high ∷ more) = option_map (λ units. (low + 256 * high) ∷ units) (units_of more)
