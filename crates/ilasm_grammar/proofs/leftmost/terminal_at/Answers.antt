use Rattle.std.proofs.Common.{◌≡◌, ℕ, zero, suc, List, [], ◌∷◌, Some, length, drop, refl, ap, ◌∙◌}
use Rattle.std.specs.Prelude.{slice_get}
use Rattle.std.proofs.lemmas.Option.{slice_get_read}
use Rattle.il_lexer.specs.declared.types.Span.{Span}
use Rattle.ilasm_grammar.specs.declared.terminals.TheConstants.{END}
use Rattle.ilasm_grammar.specs.Choice.{next_of}
use Rattle.ilasm_grammar.specs.Terminals.{terminal_of}
use Rattle.ilasm_grammar.specs.Parsing.{terminals_of_spans}
use Rattle.ilasm_grammar.proofs.leftmost.terminal_at.Goals as goal

next_at : (spans : List Span) (at : ℕ) (span : Span) → slice_get spans at ≡ Some span →
    terminal_of span.kind ≡ next_of END (drop at (terminals_of_spans spans))
next_at [] zero span e = cc
next_at [] (suc at) span e = cc
next_at (x ∷ spans) zero span e = let h : span ≡ x = cc in ap (λ (t : Span). terminal_of t.kind) h
next_at (x ∷ spans) (suc at) span e = next_at spans at span e

pub returns-in-Some-clause-is : goal.returns-in-Some-clause-is
returns-in-Some-clause-is c =
    let h = c.in-Some.ensures.lookup in
    c.terminal_of.ensures.is ∙ next_at c.args.spans.now c.args.at c.in-Some.span.now
    (slice_get_read c.args.spans.now (length c.args.spans.now) c.args.at c.in-Some.span.now refl h.3.0 h.1)
