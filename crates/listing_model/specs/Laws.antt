-- What follows of the definitions, whatever piece of a listing they speak of.
use Rattle.std.specs.Prelude.{ℕ, ◌≡◌, List, ◌++◌, bit_or}
use Rattle.ilasm_grammar.specs.Grammar.{Derives}
use Rattle.ilasm_grammar.specs.Ilasm.{ilasm}
use Rattle.ilasm_grammar.specs.declared.symbol.Symbol.{Symbol}
use Rattle.listing_model.specs.Flags.{FlagWord, said, rest_of, told}
use Rattle.listing_model.specs.Grown.{Grows, terminals, nodes}
use Rattle.listing_model.specs.Shown.{Leaf, Shown}
use Rattle.listing_model.specs.Text.{State, text_from, state_after}

-- what grows from symbols is a derivation from them
pub record GrownIsDerived : Type 0 where
  pub derives : (symbols : List Symbol) (g : Shown) → Grows symbols g → (at : ℕ) → Derives ilasm at symbols (terminals g) (nodes at g)

-- the text of two rows of leaves is that of the first and that of the second behind it
pub record TextsJoin : Type 0 where
  pub text : (s : State) (xs ys : List Leaf) → text_from s (xs ++ ys) ≡ text_from s xs ++ text_from (state_after s xs) ys
  pub state : (s : State) (xs ys : List Leaf) → state_after s (xs ++ ys) ≡ state_after (state_after s xs) ys

-- the words that are said of a number and the rest, in `flags(..)`, give the number back, whatever the table of words
abbrev pub FlagsAreTold : Type 0
FlagsAreTold = (words : List FlagWord) (k : ℕ) → bit_or (told (said words k)) (rest_of words k) ≡ k
