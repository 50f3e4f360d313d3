-- What a word for flags stands for: the bits of its group, and the value that it gives them.
use Rattle.std.specs.Prelude.{◌≡◌, ℕ, List, Option, None, Some}
use Rattle.source_model.specs.Flags.{FlagWord, flag_word, grouped}
use Rattle.source_flags.specs.declared.flags.Bits.{Bits}

-- what these words say of one, or that it is none of them
abbrev pub IsFlagOf : List FlagWord → ℕ → Option Bits → Type 0
IsFlagOf words word None = flag_word words (Some word) ≡ None
IsFlagOf words word (Some b) = flag_word words (Some word) ≡ Some (grouped word b.group b.value)
