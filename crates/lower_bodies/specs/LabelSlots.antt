-- Labels that are found by a hash of their names (ECMA-335 II.5.4, II.15.4.1).
use Rattle.std.specs.Prelude.{◌≡◌, ℕ, zero, suc, ◌/◌, ◌%◌, ◌^◌, List, Option, None, Some, bit_xor, bytes_eq, find, get_or, if◌then◌else◌, slice_get}
use Rattle.source_model.specs.Source.{Source}
use Rattle.source_model.specs.Values.{name_text}
use Rattle.source_nodes.specs.TextHash.{text_hash}

-- the first of some tokens that is this name
abbrev pub first_named : Source → List ℕ → List ℕ → Option ℕ
first_named s name tokens = find (λ token. bytes_eq (name_text s token) name) tokens

-- a token, if it is this name
abbrev pub if_named : Source → List ℕ → Option ℕ → Option ℕ
if_named s name None = None
if_named s name (Some token) = if bytes_eq (name_text s token) name then Some token else None

-- the one of some tokens whose place is one less than a number, if it is this name
abbrev pub numbered : Source → List ℕ → List ℕ → ℕ → Option ℕ
numbered s name tokens zero = None
numbered s name tokens (suc k) = if_named s name (slice_get tokens k)

-- the slot where a name is looked for: its hash, with the high half mixed into the low bits
unfoldable pub slot_of : List ℕ → ℕ
slot_of name = bit_xor (text_hash name) (text_hash name / 2 ^ 32) % 64

-- the first label with a name is found by what the slot of the name holds
abbrev pub HaveSlots : List ℕ → Source → List ℕ → Type 0
HaveSlots slots s labels = (name : List ℕ) → numbered s name labels (get_or slots (slot_of name) 0) ≡ first_named s name labels
