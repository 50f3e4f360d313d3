-- What is told of plain names by their numbers (II.22.37, II.22.38).
use Rattle.std.specs.Prelude.{ℕ, true, Option}
use Rattle.std.specs.Option.{option_map}
use Rattle.owner_numbers.specs.Canon.{name_number}
use Rattle.signature_facts.specs.declared.facts.OwnerFacts.{OwnerFacts}
use Rattle.signature_facts.specs.Scanning.{OwnersFacts}
use Rattle.type_names.specs.Numbers.{TypeNumbers}

-- a name with a number: it weighs nothing, and its number is its hash
abbrev pub numbered : ℕ → OwnerFacts
numbered number = record { is_name = true; facts = record { depth = 0; nodes = 0; rank = 0; weight = 0; hash = number } }

-- the names of types and references, each with its number
abbrev pub names_numbered : TypeNumbers → OwnersFacts
names_numbered it token = option_map numbered (name_number it.image it.named token)
