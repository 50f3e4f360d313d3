-- Runs: how far the front of some bytes goes in pieces of one form.
use Rattle.std.specs.Prelude.{ℕ, ◌+◌, Bool, List, [], ◌∷◌, length, take_while, drop, Option, None, Some}
use Rattle.std.proofs.Common.{zero, suc}
use Rattle.il_lexer.specs.declared.runs.Run.{Run}

-- how many bytes at the front pass
abbrev pub front : (ℕ → Bool) → List ℕ → ℕ
front p bs = length (take_while p bs)

abbrev pub no_piece : Run
no_piece = record { bytes = 0; pieces = 0 }

-- a piece of `n` bytes before a run
abbrev pub joined : ℕ → Run → Run
joined n run = record { bytes = n + run.bytes; pieces = 1 + run.pieces }

-- a piece, which has a byte at least, and what more there is behind it; or nothing
abbrev pub from_piece : Option ℕ → (ℕ → Run) → Run
from_piece None more = no_piece
from_piece (Some zero) more = no_piece
from_piece (Some (suc n)) more = joined (suc n) (more (suc n))

-- the run in at most so many pieces
abbrev pub run_within : ℕ → (List ℕ → Option ℕ) → List ℕ → Run
run_within zero piece bs = no_piece
run_within (suc turns) piece [] = no_piece
run_within (suc turns) piece (b ∷ bs) = from_piece (piece (b ∷ bs)) (λ n. run_within turns piece (drop n (b ∷ bs)))

-- The pieces at the front, one after another for as long as there is one. `piece` tells the length of the piece at the
-- front of some bytes, where there is one. No more pieces than bytes stand there, as each has a byte.
unfoldable pub run_of : (List ℕ → Option ℕ) → List ℕ → Run
run_of piece bs = run_within (length bs) piece bs
