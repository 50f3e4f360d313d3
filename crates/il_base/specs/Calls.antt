-- Which calls of a store in memory fail, and how much a call takes.
use Rattle.std.specs.Prelude.{ℕ, ◌+◌, ◌-◌, ◌^◌, ◌==◌, min, max, Bool, List, Option}
use Rattle.std.specs.Option.{option_map_or}
use Rattle.std.specs.List.{list_any}

-- how many calls there were, the numbers of those that are to fail, and the greatest number of bytes of a call, where there is one
pub record Calls : Type 0 where
  pub count : ℕ
  pub failing : List ℕ
  pub at_most : Option ℕ

-- a count of 64 bits, one more or at its last value
abbrev pub one_more : ℕ → ℕ
one_more count = min (count + 1) (2 ^ 64 - 1)

-- the number of the next call, counted from 1, and whether it is to fail
abbrev pub next_call : Calls → ℕ
next_call calls = one_more calls.count

abbrev pub fails_next : Calls → Bool
fails_next calls = list_any (λ number. number == next_call calls) calls.failing

-- how many of so many bytes a call takes
abbrev pub taken : Calls → ℕ → ℕ
taken calls count = option_map_or (λ most. min count most) calls.at_most count

-- how many of so many bytes a call reads: a greatest number of 0 counts as 1
abbrev pub readable : Calls → ℕ → ℕ
readable calls count = option_map_or (λ most. min count (max most 1)) calls.at_most count
