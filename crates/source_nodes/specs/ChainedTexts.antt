-- Names whose texts stand one after the other in one list of bytes, and which are found by their hash.
use Rattle.std.specs.Prelude.{◌≡◌, ℕ, ◌+◌, ◌≤◌, List, [], ◌∷◌, Option, None, Some, length, map, take, drop, slice_get}
use Rattle.source_nodes.specs.Chains.{IsChained}
use Rattle.source_nodes.specs.TextHash.{text_hash}
use Rattle.source_nodes.specs.declared.chained_names.ChainedName.{ChainedName}

abbrev pub text_in : List ℕ → ChainedName → List ℕ
text_in texts name = take name.len (drop name.start texts)

abbrev pub next_of : ChainedName → Option ℕ
next_of name = name.next

abbrev pub texts_in : List ℕ → List ChainedName → List (List ℕ)
texts_in texts names = map (text_in texts) names

-- the text of each name stands among the bytes
abbrev pub AreWithin : List ℕ → List ChainedName → Type 0
AreWithin texts names = (k : ℕ) (name : ChainedName) → slice_get names k ≡ Some name → name.start + name.len ≤ length texts

pub record AreChained (newest : ℕ → Option ℕ) (texts : List ℕ) (names : List ChainedName) : Type 0 where
  pub chained : IsChained text_hash newest (texts_in texts names) (map next_of names)
  pub within : AreWithin texts names

-- the list of the name that there may be
abbrev pub one_of : Option (List ℕ) → List (List ℕ)
one_of None = []
one_of (Some name) = name ∷ []
