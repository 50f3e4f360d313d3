-- Labels that are followed by an instruction, and names of labels (ECMA-335 II.5.4, II.15.4.1).
use Rattle.std.specs.Prelude.{ℕ, Bool, ◌==◌, ◌/◌, ◌%◌, ◌^◌, nat_lt, List, length, filter, bytes_eq, bit_xor}
use Rattle.std.specs.List.{list_any}
use Rattle.source_model.specs.Forest.{Part}
use Rattle.source_model.specs.Instructions.{mnemonic_token}
use Rattle.source_model.specs.Source.{Source}
use Rattle.source_model.specs.Values.{name_text}
use Rattle.source_nodes.specs.TextHash.{text_hash}

-- all of these instructions begin before a token
abbrev pub is_past : List Part → ℕ → Bool
is_past ps k = length (filter (λ p. nat_lt (mnemonic_token p) k) ps) == length ps

-- a token is the name of one of these labels
abbrev pub is_label_of : Source → List ℕ → ℕ → Bool
is_label_of s labels k = list_any (λ label. bytes_eq (name_text s k) (name_text s label)) labels

-- the slot where a name is looked for: its hash, with the high half mixed into the low bits
unfoldable pub slot_of : List ℕ → ℕ
slot_of name = bit_xor (text_hash name) (text_hash name / 2 ^ 32) % 64
