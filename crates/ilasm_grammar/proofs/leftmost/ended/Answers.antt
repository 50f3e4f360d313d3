use Rattle.std.proofs.Common.{◌≡◌, ℕ, zero, suc, ◌+◌, ◌<◌, Bool, true, false, length, List, [], ◌∷◌, drop, refl, sym, ap, ◌∙◌, subst, arith}
use Rattle.std.specs.Prelude.{nat_lt, if◌then◌else◌}
use Rattle.std.proofs.lemmas.Bool.{ltb-true}
use Rattle.std.proofs.lemmas.List.{length-map}
use Rattle.il_lexer.specs.declared.types.TokenKind.{TokenKind}
use Rattle.il_lexer.specs.declared.types.TokenKind.TheVariants.{Name, Scope, Int, QString, EqBytes, ByteArray, RealBytes, Hash, Unused, Word}
use Rattle.il_lexer.specs.declared.types.Span.{Span}
use Rattle.ilasm_grammar.specs.declared.tree.TreeNode.{TreeNode}
use Rattle.ilasm_grammar.specs.declared.terminals.TheConstants.{END}
use Rattle.ilasm_grammar.specs.declared.nonterminals.TheConstants.{SOURCE}
use Rattle.ilasm_grammar.specs.Grammar.{IsFaultAt}
use Rattle.ilasm_grammar.specs.Choice.{next_of}
use Rattle.ilasm_grammar.specs.Ilasm.{ilasm, ilasm_sets, picked}
use Rattle.ilasm_grammar.specs.Terminals.{terminal_of}
use Rattle.ilasm_grammar.specs.Parsing.{terminals_of_spans, IsUnderWay}
use Rattle.ilasm_grammar.proofs.CourseLemmas.{emptied, faults, ends}
use Rattle.ilasm_grammar.proofs.IlasmFacts.{ilasm_decided}
use Rattle.ilasm_grammar.proofs.leftmost.ended.Goals as goal

length-terminals : (spans : List Span) → length (terminals_of_spans spans) ≡ length spans
length-terminals spans = length-map spans (λ (span : Span). terminal_of span.kind)

word_low : (n : ℕ) (b : Bool) → nat_lt n 410 ≡ b → (if b then n else 8) < 410
word_low n true e = ltb-true _ _ e
word_low n false e = omega arith

terminal_low : (kind : TokenKind) → terminal_of kind < END
terminal_low Name = omega arith
terminal_low Scope = omega arith
terminal_low Int = omega arith
terminal_low QString = omega arith
terminal_low EqBytes = omega arith
terminal_low ByteArray = omega arith
terminal_low RealBytes = omega arith
terminal_low Hash = omega arith
terminal_low Unused = omega arith
terminal_low (Word number) = word_low (9 + number) (nat_lt (9 + number) 410) refl

low : (spans : List Span) (at : ℕ) → at < length spans → next_of END (drop at (terminals_of_spans spans)) < END
low [] at lt = absurd (omega arith)
low (span ∷ spans) zero lt = terminal_low span.kind
low (span ∷ spans) (suc at) lt = low spans at (omega arith)

-- a token before which no symbols are left
early : (spans : List Span) (at : ℕ) (nodes : List TreeNode) → at < length spans → IsUnderWay (terminals_of_spans spans) at [] nodes →
    IsFaultAt ilasm SOURCE (terminals_of_spans spans) at
early spans at nodes lt under =
    faults ilasm ilasm_sets picked END SOURCE ilasm_decided (terminals_of_spans spans) at [] nodes (omega (arith, length-terminals spans)) under
    (λ rest more same r.
    let e : END ≡ next_of END (drop at (terminals_of_spans spans)) = sym (ap (next_of END) (emptied ilasm r).0) ∙ same in
    omega (arith, e, low spans at lt))

pub returns-then-at-spans : goal.returns-then-at-spans
returns-then-at-spans c =
    let kinds = terminals_of_spans c.args.spans.now in
    let e : c.args.at ≡ length kinds = omega (arith, length-terminals c.args.spans.now) in
    ends ilasm ilasm_sets picked END SOURCE ilasm_decided kinds c.args.nodes
    (subst (λ (k : ℕ). IsUnderWay kinds k [] c.args.nodes) e c.requires.under)

pub returns-else-at-spans : goal.returns-else-at-spans
returns-else-at-spans c =
    early c.args.spans.now c.args.at c.args.nodes (omega (arith, c.requires.within)) c.requires.under
