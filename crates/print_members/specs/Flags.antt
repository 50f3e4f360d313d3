-- What is drawn for flags (ECMA-335 II.23.1).
use Rattle.std.specs.Prelude.{ℕ, ◌==◌, if◌then◌else◌, List, fold, bit_or}
use Rattle.il_lexer.specs.declared.word.TheConstants.{NESTED}
use Rattle.listing_model.specs.Flags.{FlagWord, grouped, holds, said, rest_of, flags_below}
use Rattle.listing_model.specs.Shown.{none, w}
use Rattle.print_leaves.specs.Page.{Page, drawn}
use Rattle.print_members.specs.declared.tables.FlagRow.{FlagRow}

-- a row of a table, as the definition of the listing has it
abbrev pub listed : FlagRow → FlagWord
listed r = grouped r.word r.group r.value

-- the word of a row, where it holds
abbrev pub word_step : ℕ → Page → FlagRow → Page
word_step k p r = if holds k (listed r) then drawn p (w r.word none) else p

abbrev pub nested_step : ℕ → Page → FlagRow → Page
nested_step k p r = if holds k (listed r) then drawn p (w NESTED (w r.word none)) else p

-- and the bits of its group
abbrev pub bits_step : ℕ → ℕ → FlagRow → ℕ
bits_step k bits r = if holds k (listed r) then bit_or bits r.group else bits

-- `flags(..)`, where there is a bit
abbrev pub rest_drawn : Page → ℕ → Page
rest_drawn p k = if k == 0 then p else drawn p (flags_below k)

-- the words that hold, and the rest
abbrev pub flags_drawn : List FlagWord → ℕ → Page → Page
flags_drawn words k p = rest_drawn (fold (λ q x. drawn q (w x.word none)) p (said words k)) (rest_of words k)
