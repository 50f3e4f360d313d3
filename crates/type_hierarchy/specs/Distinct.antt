-- Names that stand once each.
use Rattle.std.specs.Prelude.{◌≡◌, ℕ, List, slice_get, Some}
use Rattle.type_terms.specs.declared.name.TypeName.{TypeName}

-- no name stands twice
abbrev pub AreOnce : List TypeName → Type 0
AreOnce names = (j k : ℕ) (name : TypeName) → slice_get names j ≡ Some name → slice_get names k ≡ Some name → j ≡ k
