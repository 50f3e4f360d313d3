-- What the parser's parts answer.
use Rattle.std.specs.Prelude.{◌≡◌, ℕ, suc, ◌<◌, ◌≤◌, ◌==◌, List, [], ◌∷◌, map, drop, Option, Some, None, Bool, slice_get, if◌then◌else◌}
use Rattle.std.specs.List.{list_any}
use Rattle.il_base.specs.declared.pos.Pos.{Pos}
use Rattle.il_lexer.specs.declared.types.Span.{Span}
use Rattle.il_lexer.specs.declared.types.Token.{Token}
use Rattle.il_lexer.specs.declared.types.TokenKind.{TokenKind}
use Rattle.ilasm_grammar.specs.declared.terminals.TheConstants.{END}
use Rattle.ilasm_grammar.specs.Terminals.{terminal_of}
use Rattle.ilasm_grammar.specs.declared.nonterminals.TheConstants.{SOURCE}
use Rattle.ilasm_grammar.specs.declared.fault.TheConstants.{LEFT_OUT}
use Rattle.ilasm_grammar.specs.declared.fault.SyntaxFault.{SyntaxFault}
use Rattle.ilasm_grammar.specs.declared.fault.SyntaxFault.TheVariants.{Bad, NoMemory}
use Rattle.ilasm_grammar.specs.declared.leftmost.Outcome.{Outcome}
use Rattle.ilasm_grammar.specs.declared.leftmost.Outcome.TheVariants.{Whole, Stops}
use Rattle.ilasm_grammar.specs.declared.leftmost.Step.{Step}
use Rattle.ilasm_grammar.specs.declared.leftmost.Step.TheVariants.{Applies, Ends as StepEnds, Stops as StepStops}
use Rattle.ilasm_grammar.specs.declared.leftmost.Turn.{Turn}
use Rattle.ilasm_grammar.specs.declared.leftmost.Turn.TheVariants.{Takes, Ends as TurnEnds, Stops as TurnStops}
use Rattle.ilasm_grammar.specs.declared.symbol.Symbol.{Symbol}
use Rattle.ilasm_grammar.specs.declared.symbol.Symbol.TheVariants.{Terminal, Nonterminal}
use Rattle.ilasm_grammar.specs.declared.tree.TreeNode.{TreeNode}
use Rattle.ilasm_grammar.specs.Grammar.{Derives, IsFaultAt}
use Rattle.ilasm_grammar.specs.Leftmost.{Leftmost}
use Rattle.ilasm_grammar.specs.Choice.{load_of, next_of}
use Rattle.ilasm_grammar.specs.Course.{IsCourse}
use Rattle.ilasm_grammar.specs.Ilasm.{ilasm, ilasm_sets, picked, IsNoRule}

-- the terminals of the tokens
abbrev pub terminals_of : List Token → List ℕ
terminals_of tokens = map (λ (token : Token). terminal_of token.kind) tokens

-- the terminals of the tokens that have these spans
abbrev pub terminals_of_spans : List Span → List ℕ
terminals_of_spans spans = map (λ (span : Span). terminal_of span.kind) spans

-- the tokens are a source, and this is its derivation
abbrev pub IsTreeOf : List Token → List TreeNode → Type 0
IsTreeOf tokens tree = Derives ilasm 0 (Nonterminal SOURCE ∷ []) (terminals_of tokens) tree

-- the syntax fault of the tokens stands at token k
abbrev pub IsSyntaxFaultAt : List Token → ℕ → Type 0
IsSyntaxFaultAt tokens k = IsFaultAt ilasm SOURCE (terminals_of tokens) k

-- where the token with this number stands; a number behind the last one stands at the end
abbrev pub position_of : Option Token → Pos → Pos
position_of None end = end
position_of (Some token) end = token.pos

-- whether the terminal is a word for a construct that is left out of the language
unfoldable pub is_left_out : ℕ → Bool
is_left_out terminal = list_any (λ (x : ℕ). x == terminal) LEFT_OUT

-- the rule of a fault at a token of this kind: 2 where it is a word that is left out of the language, else 1
abbrev pub rule_by : TokenKind → ℕ
rule_by kind = if is_left_out (terminal_of kind) then 2 else 1

-- the rule of a fault at this token, or behind the last one
abbrev pub rule_at : Option Token → ℕ
rule_at None = 1
rule_at (Some token) = rule_by token.kind

-- a fault of the tokens, with its position and rule
pub record IsSyntaxFault (tokens : List Token) (end : Pos) (pos : Pos) (rule : ℕ) : Type 0 where
  pub at : ℕ
  pub stands : IsSyntaxFaultAt tokens at
  pub pos-is : pos ≡ position_of (slice_get tokens at) end
  pub rule-is : rule ≡ rule_at (slice_get tokens at)

-- why there is no tree
abbrev pub IsCause : List Token → Pos → SyntaxFault → Type 0
IsCause tokens end (Bad pos rule) = IsSyntaxFault tokens end pos rule
IsCause tokens end NoMemory = Unit {0}

-- ---- the parser's own steps

-- so many tokens are taken, and these symbols and nodes have come of it
abbrev pub IsUnderWay : List ℕ → ℕ → List Symbol → List TreeNode → Type 0
IsUnderWay kinds at symbols nodes = IsCourse ilasm ilasm_sets END SOURCE kinds at symbols nodes

-- the first symbol, if it is a nonterminal, doesn't go on with this terminal
abbrev pub IsExpanded : ℕ → List Symbol → Type 0
IsExpanded terminal symbols = (n : ℕ) (rest : List Symbol) → symbols ≡ Nonterminal n ∷ rest → IsNoRule ilasm n (picked n terminal)

-- no source goes on with this terminal
pub record AreStuck (terminal : ℕ) (symbols : List Symbol) : Type 0 where
  pub some : symbols ≡ [] → ⊥
  pub expanded : IsExpanded terminal symbols
  pub other : terminal < END → (rest : List Symbol) → symbols ≡ Terminal terminal ∷ rest → ⊥

-- productions, picked by this terminal, may have been applied to the first symbols, and their branches made
pub record IsExtended (terminal : ℕ) (symbols : List Symbol) (nodes : List TreeNode) (symbols' : List Symbol) (nodes' : List TreeNode) : Type 0 where
  pub keeps : (kinds : List ℕ) (at : ℕ) → next_of END (drop at kinds) ≡ terminal → IsUnderWay kinds at symbols nodes → IsUnderWay kinds at symbols' nodes'
  pub lighter : load_of ilasm_sets symbols' ≤ load_of ilasm_sets symbols

-- one has been, and symbols are left, of which the first stands at a place
pub record HasApplied (terminal place : ℕ) (symbols : List Symbol) (nodes : List TreeNode) (symbols' : List Symbol) (nodes' : List TreeNode) : Type 0 where
  pub some : place < 887
  pub extended : IsExtended terminal symbols nodes symbols' nodes'
  pub less : load_of ilasm_sets symbols' < load_of ilasm_sets symbols

-- what becomes of these symbols and nodes before this terminal, where the first symbol is a nonterminal; the next one stands at a place
abbrev pub IsStep : ℕ → ℕ → List Symbol → List TreeNode → List Symbol → List TreeNode → Step → Type 0
IsStep terminal place symbols nodes symbols' nodes' Applies = HasApplied terminal place symbols nodes symbols' nodes'
IsStep terminal place symbols nodes symbols' nodes' StepEnds = (symbols' ≡ []) × IsExtended terminal symbols nodes symbols' nodes'
IsStep terminal place symbols nodes symbols' nodes' StepStops = (place < 887) × AreStuck terminal symbols

-- the symbols are stuck before this terminal, after so many tokens
pub record IsStuckAt (kinds : List ℕ) (terminal at : ℕ) : Type 0 where
  pub symbols : List Symbol
  pub nodes : List TreeNode
  pub under : IsUnderWay kinds at symbols nodes
  pub stuck : AreStuck terminal symbols

abbrev pub HasTurned : List ℕ → ℕ → ℕ → List Symbol → List TreeNode → Turn → Type 0
HasTurned kinds terminal at symbols nodes Takes = (terminal < END) × IsUnderWay kinds (suc at) symbols nodes
HasTurned kinds terminal at symbols nodes TurnEnds = IsUnderWay kinds at [] nodes
HasTurned kinds terminal at symbols nodes TurnStops = IsStuckAt kinds terminal at

-- what becomes of these symbols and nodes before this terminal, which is that of the token at a place
abbrev pub IsTurn : ℕ → ℕ → List Symbol → List TreeNode → List Symbol → List TreeNode → Turn → Type 0
IsTurn terminal at symbols nodes symbols' nodes' turn =
    (kinds : List ℕ) → next_of END (drop at kinds) ≡ terminal → IsUnderWay kinds at symbols nodes → HasTurned kinds terminal at symbols' nodes' turn

-- what the first pass of the parser answers: the nodes without their counts, or the number of the token at fault
abbrev pub IsOutcome : List ℕ → Outcome → Type 0
IsOutcome kinds (Whole nodes) = Leftmost ilasm 0 (Nonterminal SOURCE ∷ []) kinds nodes
IsOutcome kinds (Stops at) = IsFaultAt ilasm SOURCE kinds at

-- what the whole parser answers: the derivation of the terminals, or the number of the token at fault
abbrev pub IsParsed : List ℕ → Outcome → Type 0
IsParsed kinds (Whole tree) = Derives ilasm 0 (Nonterminal SOURCE ∷ []) kinds tree
IsParsed kinds (Stops at) = IsFaultAt ilasm SOURCE kinds at
