-- Tokens by their spans.
use Rattle.std.proofs.Common.{◌≡◌, ℕ, zero, suc, List, [], ◌∷◌, map, refl, ap, sym, subst}
use Rattle.std.specs.Prelude.{option_map, slice_get}
use Rattle.il_lexer.specs.declared.types.Span.{Span}
use Rattle.il_lexer.specs.declared.types.Token.{Token}
use Rattle.il_lexer.specs.Lexing.{all_placed, placed, span_of}
use Rattle.il_base.specs.declared.pos.Pos.{Pos}
use Rattle.ilasm_grammar.specs.declared.fault.SyntaxFault.{SyntaxFault}
use Rattle.ilasm_grammar.specs.declared.fault.SyntaxFault.TheVariants.{Bad}
use Rattle.ilasm_grammar.specs.declared.leftmost.Outcome.{Outcome}
use Rattle.ilasm_grammar.specs.Terminals.{terminal_of}
use Rattle.ilasm_grammar.specs.Parsing.{terminals_of_spans, terminals_of, IsCause, IsParsed, IsSyntaxFaultAt, position_of, rule_at}

-- a token has the kind of its span
pub terminals_placed : (source : List ℕ) (spans : List Span) → terminals_of_spans spans ≡ terminals_of (all_placed source spans)
terminals_placed source [] = refl
terminals_placed source (span ∷ spans) = ap (λ ts. terminal_of span.kind ∷ ts) (terminals_placed source spans)

pub terminals_spanned : (tokens : List Token) → terminals_of_spans (map span_of tokens) ≡ terminals_of tokens
terminals_spanned [] = refl
terminals_spanned (token ∷ tokens) = ap (λ ts. terminal_of token.kind ∷ ts) (terminals_spanned tokens)

pub get_placed : (source : List ℕ) (spans : List Span) (at : ℕ) → slice_get (all_placed source spans) at ≡ option_map (placed source) (slice_get spans at)
get_placed source [] zero = refl
get_placed source [] (suc at) = refl
get_placed source (span ∷ spans) zero = refl
get_placed source (span ∷ spans) (suc at) = get_placed source spans at

-- what the parser answered of the spans, of the tokens
pub parsed : (spans : List Span) (tokens : List Token) (o p : Outcome) → terminals_of_spans spans ≡ terminals_of tokens → IsParsed (terminals_of_spans spans) o → o ≡ p →
    IsParsed (terminals_of tokens) p
parsed spans tokens o p e h w = subst (λ kinds. IsParsed kinds p) e (subst (λ (x : Outcome). IsParsed (terminals_of_spans spans) x) w h)

pub cause_at : (tokens : List Token) (end : Pos) (at : ℕ) (fault : SyntaxFault) →
    fault ≡ Bad (position_of (slice_get tokens at) end) (rule_at (slice_get tokens at)) → IsSyntaxFaultAt tokens at → IsCause tokens end fault
cause_at tokens end at fault e h = subst (IsCause tokens end) (sym e) (record { at = at; stands = h; pos-is = refl; rule-is = refl })
