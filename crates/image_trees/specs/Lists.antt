-- Lists of lists.
use Rattle.std.specs.Prelude.{◌≡◌, ℕ, List, [], length, slice_index_or}

-- so many lists, each empty
abbrev pub AreEmpty : {X : Type 0} → ℕ → List (List X) → Type 0
AreEmpty count lists = (length lists ≡ count) × ((k : ℕ) → slice_index_or lists k [] ≡ [])
