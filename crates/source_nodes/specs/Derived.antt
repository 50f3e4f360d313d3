-- What stands below the productions of a derivation: what their bodies say (ECMA-335 II.5.1).
use Rattle.std.specs.Prelude.{◌≡◌, ℕ, List, [], ◌∷◌, slice_get, Option, None, Some, option_map, ⊤}
use Rattle.il_lexer.specs.declared.types.Token.{Token}
use Rattle.ilasm_grammar.specs.Grammar.{Rule}
use Rattle.ilasm_grammar.specs.Ilasm.{ilasm}
use Rattle.ilasm_grammar.specs.Parsing.{IsTreeOf}
use Rattle.ilasm_grammar.specs.Terminals.{terminal_of}
use Rattle.ilasm_grammar.specs.declared.nonterminals.TheConstants.{SOURCE}
use Rattle.ilasm_grammar.specs.declared.symbol.Symbol.{Symbol}
use Rattle.ilasm_grammar.specs.declared.symbol.Symbol.TheVariants.{Terminal, Nonterminal}
use Rattle.source_model.specs.Forest.{Forest, none, leaf, branch, preorder}
use Rattle.source_model.specs.Source.{Source}

-- the terminal that stands for the token with this number
abbrev pub terminal_at : Source → ℕ → Option ℕ
terminal_at s k = option_map (λ (t : Token). terminal_of t.kind) (slice_get s.tokens k)

-- the nonterminal that a production may be applied to
abbrev pub head_of : ℕ → Option ℕ
head_of p = option_map (λ (r : Rule). r.head) (ilasm p)

-- the trees at the top of a forest stand for these symbols: a token for its terminal, a production for its nonterminal
abbrev pub Fits : Source → List Symbol → Forest → Type 0
Fits s [] none = ⊤
Fits s [] (leaf k after) = ⊥
Fits s [] (branch p below after) = ⊥
Fits s (Terminal t ∷ more) none = ⊥
Fits s (Terminal t ∷ more) (leaf k after) = (terminal_at s k ≡ Some t) × Fits s more after
Fits s (Terminal t ∷ more) (branch p below after) = ⊥
Fits s (Nonterminal n ∷ more) none = ⊥
Fits s (Nonterminal n ∷ more) (leaf k after) = ⊥
Fits s (Nonterminal n ∷ more) (branch p below after) = (head_of p ≡ Some n) × Fits s more after

abbrev pub FitsRule : Source → Option Rule → Forest → Type 0
FitsRule s None f = ⊥
FitsRule s (Some r) f = Fits s r.body f

-- what stands below a production is its body
abbrev pub FitsBody : Source → ℕ → Forest → Type 0
FitsBody s p f = FitsRule s (ilasm p) f

-- this holds of each production of a forest and what stands below it
abbrev pub OfEach : (ℕ → Forest → Type 0) → Forest → Type 0
OfEach P none = ⊤
OfEach P (leaf k after) = OfEach P after
OfEach P (branch p below after) = P p below × OfEach P below × OfEach P after

-- below each production of a forest stands its body
abbrev pub HasBodies : Source → Forest → Type 0
HasBodies s f = OfEach (FitsBody s) f

-- and so it is in a derivation, which begins with the start symbol
abbrev pub DerivationsHaveBodies : Type 0
DerivationsHaveBodies = (s : Source) → IsTreeOf s.tokens (preorder s.tree) → Fits s (Nonterminal SOURCE ∷ []) s.tree × HasBodies s s.tree
