-- A source is read in one way.
use Rattle.std.proofs.Common.{◌≡◌, ℕ, zero, suc, ◌+◌, ◌<◌, ◌⊎◌, inl, inr, List, [], ◌∷◌, length, get_or, slice_get, pos, ap, sym, subst, ◌∙◌, refl, arith}
use Rattle.std.proofs.lemmas.Grind.{same_number_lists}
use Rattle.il_base.specs.declared.pos.Pos.{Pos}
use Rattle.il_lexer.specs.declared.types.Token.{Token}
use Rattle.il_lexer.specs.Lexing.{IsAccepted, HasFault, place_of}
use Rattle.il_lexer.specs.Laws.{OneOutcome}
use Rattle.ilasm_grammar.specs.declared.nonterminals.TheConstants.{SOURCE}
use Rattle.ilasm_grammar.specs.Grammar.{IsFaultAt, IsSentence}
use Rattle.ilasm_grammar.specs.Ilasm.{ilasm}
use Rattle.ilasm_grammar.specs.Parsing.{terminals_of, IsSyntaxFault, IsSyntaxFaultAt, IsTreeOf, position_of, rule_at}
use Rattle.assembly_tree.specs.declared.assembly.Assembly.{Assembly}
use Rattle.source_model.specs.Denotes.{Denotes}
use Rattle.source_model.specs.Laws.{OneMeaning}
use Rattle.source_model.specs.Forest.{preorder}
use Rattle.source_model.specs.Source.{Source}
use Rattle.source_model.specs.declared.fault.NameClass.{NameClass}
use Rattle.source_assembly.specs.declared.fault.SourceFault.{SourceFault}
use Rattle.source_assembly.specs.declared.fault.SourceFault.TheVariants.{Lexical, Syntax, Named}
use Rattle.source_assembly.specs.Reading.{BreaksRule, HasSyntaxFault, IsAssemblyOf, IsFaultOf}
use Rattle.source_assembly.specs.Laws.{OneReading}

-- ---- one fault

module _ (lex : OneOutcome) (meaning : OneMeaning)
    (whole : (kinds : List ℕ) (at : ℕ) → IsFaultAt ilasm SOURCE kinds at → IsSentence ilasm SOURCE kinds → ⊥)
    (one : (kinds : List ℕ) (j k : ℕ) → IsFaultAt ilasm SOURCE kinds j → IsFaultAt ilasm SOURCE kinds k → j ≡ k) where
  same_tokens : (source : List ℕ) (a b : List Token) → IsAccepted source a → IsAccepted source b → a ≡ b
  same_tokens source a b x y = lex.tokens source a b x.lexes y.lexes

  no_syntax_fault : (source : List ℕ) (tokens : List Token) (place : Pos) (rule : ℕ) → IsAccepted source tokens → IsSentence ilasm SOURCE (terminals_of tokens)
      → HasSyntaxFault source place rule → ⊥
  no_syntax_fault source tokens place rule accepted sentence f =
      let same : f.tokens ≡ tokens = same_tokens source f.tokens tokens f.accepted accepted in
      let stands : IsSyntaxFaultAt tokens f.fault.at = subst (λ (ts : List Token). IsSyntaxFaultAt ts f.fault.at) same f.fault.stands in
      whole (terminals_of tokens) f.fault.at stands sentence

  same_syntax_fault : (source : List ℕ) (p q : Pos) (r s : ℕ) → HasSyntaxFault source p r → HasSyntaxFault source q s → (p ≡ q) × (r ≡ s)
  same_syntax_fault source p q r s x y =
      let end = place_of source (length source) in
      let same : y.tokens ≡ x.tokens = same_tokens source y.tokens x.tokens y.accepted x.accepted in
      let f : IsSyntaxFault x.tokens end q s = subst (λ (ts : List Token). IsSyntaxFault ts end q s) same y.fault in
      let at : x.fault.at ≡ f.at = one (terminals_of x.tokens) x.fault.at f.at x.fault.stands f.stands in (
        x.fault.pos-is ∙ ap (λ k. position_of (slice_get x.tokens k) end) at ∙ sym f.pos-is,
        x.fault.rule-is ∙ ap (λ k. rule_at (slice_get x.tokens k)) at ∙ sym f.rule-is,
      )

  not_both : (source : List ℕ) (a : Assembly) (place : Pos) (rule : ℕ) → IsAssemblyOf source a → HasSyntaxFault source place rule → ⊥
  not_both source a place rule x f =
      no_syntax_fault source x.denotes.source.tokens place rule x.accepted (preorder x.denotes.source.tree, x.denotes.read.derived) f

  derives : (source : List ℕ) (p place : Pos) (class : NameClass) (rule r : ℕ) → BreaksRule source place class rule → HasSyntaxFault source p r → ⊥
  derives source p place class rule r x f =
      no_syntax_fault source x.fault.source.tokens p r x.accepted (preorder x.fault.source.tree, x.fault.read.derived) f

  apart : (source : List ℕ) (a : Assembly) (fault : SourceFault) → IsAssemblyOf source a → IsFaultOf source fault → ⊥
  apart source a (Lexical line rule) x f = lex.apart source x.denotes.source.tokens f.0 rule x.accepted f.1
  apart source a (Syntax line rule) x f = not_both source a f.0 rule x f.1
  apart source a (Named line class rule) x f = meaning.apart source a f.0 class rule x.denotes f.1.fault

  same_fault : (source : List ℕ) (a b : SourceFault) → IsFaultOf source a → IsFaultOf source b → a ≡ b
  same_fault source (Lexical l r) (Lexical m s) x y =
      let same = lex.fault source x.0 y.0 r s x.1 y.1 in
      let lines : l ≡ m = x.2 ∙ ap (λ (p : Pos). p.line) same.0 ∙ sym y.2 in
      ap (λ n. Lexical n r) lines ∙ ap (Lexical m) same.1
  same_fault source (Lexical l r) (Syntax m s) x y = absurd (lex.apart source y.1.tokens x.0 r y.1.accepted x.1)
  same_fault source (Lexical l r) (Named m c s) x y = absurd (lex.apart source y.1.fault.source.tokens x.0 r y.1.accepted x.1)
  same_fault source (Syntax l r) (Lexical m s) x y = absurd (lex.apart source x.1.tokens y.0 s x.1.accepted y.1)
  same_fault source (Syntax l r) (Syntax m s) x y =
      let same = same_syntax_fault source x.0 y.0 r s x.1 y.1 in
      let lines : l ≡ m = x.2 ∙ ap (λ (p : Pos). p.line) same.0 ∙ sym y.2 in
      ap (λ n. Syntax n r) lines ∙ ap (Syntax m) same.1
  same_fault source (Syntax l r) (Named m c s) x y = absurd (derives source x.0 y.0 c s r y.1 x.1)
  same_fault source (Named l c r) (Lexical m s) x y = absurd (lex.apart source x.1.fault.source.tokens y.0 s x.1.accepted y.1)
  same_fault source (Named l c r) (Syntax m s) x y = absurd (derives source y.0 x.0 c r s x.1 y.1)
  same_fault source (Named l c r) (Named m d s) x y =
      let same = meaning.fault source x.0 y.0 c d r s x.1.fault y.1.fault in
      let lines : l ≡ m = x.2 ∙ ap (λ (p : Pos). p.line) same.0 ∙ sym y.2 in
      ap (λ n. Named n c r) lines ∙ ap (λ e. Named m e r) same.1 ∙ ap (Named m d) same.2

  same_assembly : (source : List ℕ) (a b : Assembly) → IsAssemblyOf source a → IsAssemblyOf source b → a ≡ b
  same_assembly source a b x y = meaning.assembly source a b x.denotes y.denotes

  pub read_in_one_way : OneReading
  read_in_one_way = record { assembly = same_assembly; apart = apart; fault = same_fault }
