-- Symbols that are kept as places in the tables of symbols.
use Rattle.std.specs.Prelude.{◌≡◌, ℕ, suc, ◌+◌, ◌<◌, ◌-◌, ◌==◌, ◌&&◌, ◌||◌, nat_lt, nat_le, Bool, true, List, [], ◌∷◌, ◌++◌, drop, reverse, flat_map, slice_index, Some, if◌then◌else◌}
use Rattle.ilasm_grammar.specs.declared.choices.TheConstants.{ROWS, FALLBACKS, OWNERS, PICKS, INNERS}
use Rattle.ilasm_grammar.specs.declared.places.TheConstants.{SYMBOLS, NEXTS, BEGINS}
use Rattle.ilasm_grammar.specs.declared.symbol.Symbol.{Symbol}
use Rattle.ilasm_grammar.specs.declared.symbol.Symbol.TheVariants.{Terminal, Nonterminal}
use Rattle.ilasm_grammar.specs.Grammar.{rule_of}
use Rattle.ilasm_grammar.specs.Ilasm.{ilasm, picked}

-- the symbol with this number
abbrev pub symbol_of : ℕ → Symbol
symbol_of number = if nat_lt number 256 then Nonterminal number else Terminal (number - 256)

-- the symbols with these numbers up to the first that no place is next to
abbrev pub body_in : List ℕ → List ℕ → List Symbol
body_in [] nexts = []
body_in (number ∷ numbers) [] = []
body_in (number ∷ numbers) (next ∷ nexts) = symbol_of number ∷ (if next == 887 then [] else body_in numbers nexts)

-- the rest of a body that begins at this place
unfoldable pub rest_at : ℕ → List Symbol
rest_at place = body_in (drop place SYMBOLS) (drop place NEXTS)

-- the symbol at a place
unfoldable pub symbol_in : ℕ → Symbol
symbol_in place = symbol_of (slice_index SYMBOLS place)

-- the place behind a place
unfoldable pub behind_in : ℕ → ℕ
behind_in place = slice_index NEXTS place

-- the rests that begin at these places, that of the last one first
abbrev pub joined : List ℕ → List Symbol
joined places = flat_map rest_at (reverse places)

-- the rest at `next`, and behind it those at the other places
abbrev pub symbols_at : ℕ → List ℕ → List Symbol
symbols_at next behind = rest_at next ++ joined behind

-- next to each place, counted from k, stands the following one, or none
abbrev pub are_nexts : ℕ → List ℕ → Bool
are_nexts k [] = true
are_nexts k (next ∷ nexts) = (next == 887 || next == suc k) && are_nexts (suc k) nexts

-- each number is that of a nonterminal or terminal
abbrev pub are_numbers : List ℕ → Bool
are_numbers [] = true
are_numbers (number ∷ numbers) = (nat_lt number 165 || nat_le 256 number && nat_lt number 666) && are_numbers numbers

-- the symbol is a terminal or a nonterminal of the table
abbrev pub IsKnown : Symbol → Type 0
IsKnown (Terminal kind) = kind < 410
IsKnown (Nonterminal n) = n < 165

-- the place where the body of a production begins
unfoldable pub begin_in : ℕ → ℕ
begin_in p = slice_index BEGINS p

-- the production that a nonterminal goes on with where it has no cell, or a number that none has
unfoldable pub fallback_of : ℕ → ℕ
fallback_of n = slice_index FALLBACKS n

-- the production is one of the nonterminal, and its body begins at the place
abbrev pub IsChoice : ℕ → ℕ → ℕ → Type 0
IsChoice n p begin = ilasm p ≡ Some (rule_of n (rest_at begin))

-- the same of the production that the nonterminal goes on with before a terminal, where its body has symbols
pub record IsOwnChoice (n terminal p begin : ℕ) : Type 0 where
  pub low : p < 641
  pub is_picked : p ≡ picked n terminal
  pub rule : IsChoice n p begin
  pub some : begin < 887

-- ---- the cells of nonterminals before terminals

-- where the cells of a nonterminal begin
unfoldable pub row_in : ℕ → ℕ
row_in n = slice_index ROWS n

-- the nonterminal that has a cell
unfoldable pub owner_in : ℕ → ℕ
owner_in cell = slice_index OWNERS cell

-- the production in a cell
unfoldable pub pick_in : ℕ → ℕ
pick_in cell = slice_index PICKS cell

-- the cell of what the body of that production begins with, before the same terminal, or a number that no cell has
unfoldable pub inner_in : ℕ → ℕ
inner_in cell = slice_index INNERS cell

-- the cell is that of the symbol, a nonterminal, before the terminal
pub record IsCellOf (terminal : ℕ) (symbol : Symbol) (cell : ℕ) : Type 0 where
  pub n : ℕ
  pub low : n < 165
  pub is : symbol ≡ Nonterminal n
  pub at : cell ≡ row_in n + terminal
  pub owned : owner_in cell ≡ n
