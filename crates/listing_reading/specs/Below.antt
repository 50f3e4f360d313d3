-- What may stand in a piece of a listing, by the symbols that it grows from (ECMA-335 II.5).
use Rattle.std.specs.Prelude.{ℕ, ◌==◌, ◌&&◌, not, Bool, true, List, [], ◌∷◌, slice_index, Option, None, Some}
use Rattle.ilasm_grammar.specs.Ilasm.{has_bit}
use Rattle.ilasm_grammar.specs.declared.symbol.Symbol.{Symbol}
use Rattle.ilasm_grammar.specs.declared.symbol.Symbol.TheVariants.{Terminal, Nonterminal}
use Rattle.listing_model.specs.Grown.{head_of}
use Rattle.listing_reading.specs.BelowMasks.{below_masks}

-- the set of the nonterminals that may stand below a nonterminal, itself among them
unfoldable pub below : ℕ → ℕ
below n = slice_index below_masks n

-- a production of no nonterminal, or of one that isn't in the set
abbrev pub is_no_head : ℕ → Option ℕ → Bool
is_no_head mask None = true
is_no_head mask (Some n) = not (has_bit mask n)

abbrev pub are_apart_from : ℕ → List ℕ → Bool
are_apart_from mask [] = true
are_apart_from mask (q ∷ qs) = is_no_head mask (head_of q) && are_apart_from mask qs

-- none of the productions can stand in what grows from these symbols
abbrev pub cant_stand : List ℕ → List Symbol → Bool
cant_stand sought [] = true
cant_stand sought (Terminal t ∷ more) = cant_stand sought more
cant_stand sought (Nonterminal n ∷ more) = are_apart_from (below n) sought && cant_stand sought more

-- a production of no nonterminal, or of another one
abbrev pub is_other_head : ℕ → Option ℕ → Bool
is_other_head n None = true
is_other_head n (Some m) = not (m == n)

-- none of the productions can be one of these symbols' own
abbrev pub heads_differ : ℕ → List ℕ → Bool
heads_differ n [] = true
heads_differ n (q ∷ qs) = is_other_head n (head_of q) && heads_differ n qs

abbrev pub cant_lead : List ℕ → List Symbol → Bool
cant_lead sought [] = true
cant_lead sought (Terminal t ∷ more) = cant_lead sought more
cant_lead sought (Nonterminal n ∷ more) = heads_differ n sought && cant_lead sought more
