-- What a step of an encoder adds.
use Rattle.std.specs.Prelude.{◌≡◌, ℕ, List, ◌++◌}

-- the new bytes are the old ones and others of which this holds
abbrev pub Appends : List ℕ → List ℕ → (List ℕ → Type 0) → Type 0
Appends old new Holds = (bytes : List ℕ) × (new ≡ old ++ bytes) × Holds bytes
