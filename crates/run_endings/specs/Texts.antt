-- What is said of words and inputs, whatever the command.
use Rattle.std.specs.Prelude.{ℕ, List, ◌++◌, codes}
use Rattle.std.specs.Fmt.{decimal}

-- of words, the first of which that doesn't fit has this number
abbrev pub usage_text : ℕ → List ℕ
usage_text word = codes "usage fault at word " ++ (decimal word ++ codes "\n")

-- of an input that can't be read
abbrev pub unread_text : List ℕ → List ℕ
unread_text name = name ++ codes ": cannot be read\n"

-- of an input with more bytes than its limit
abbrev pub long_text : List ℕ → ℕ → List ℕ
long_text name limit = name ++ (codes ": longer than " ++ (decimal limit ++ codes " bytes\n"))
