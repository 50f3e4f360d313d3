use Rattle.std.proofs.Common.{◌≡◌, ◌<◌, ◌≤◌, ◌^◌, ℕ, List, [], ◌∷◌, length, sym, subst, arith}
use Rattle.std.proofs.lemmas.List.{length-map}
use Rattle.il_lexer.specs.declared.types.Span.{Span}
use Rattle.ilasm_grammar.specs.declared.leftmost.Outcome.{Outcome}
use Rattle.ilasm_grammar.specs.declared.leftmost.Outcome.TheVariants.{Whole}
use Rattle.ilasm_grammar.specs.declared.symbol.Symbol.TheVariants.{Nonterminal}
use Rattle.ilasm_grammar.specs.declared.tree.TreeNode.{TreeNode}
use Rattle.ilasm_grammar.specs.declared.nonterminals.TheConstants.{SOURCE}
use Rattle.ilasm_grammar.specs.Grammar.{Derives}
use Rattle.ilasm_grammar.specs.Leftmost.{Leftmost}
use Rattle.ilasm_grammar.specs.Ilasm.{ilasm}
use Rattle.ilasm_grammar.specs.Terminals.{terminal_of}
use Rattle.ilasm_grammar.specs.Parsing.{terminals_of_spans, IsOutcome}
use Rattle.ilasm_grammar.proofs.IlasmFacts.{ilasm_tree, ilasm_raw_nodes}
use Rattle.ilasm_grammar.proofs.LeftmostLemmas.{have_rules}
use Rattle.ilasm_grammar.proofs.outcome.parsed.Goals as goal

-- what the first pass answered
whole : (kinds : List ℕ) (o : Outcome) (nodes : List TreeNode) → IsOutcome kinds o → o ≡ Whole nodes → Leftmost ilasm 0 (Nonterminal SOURCE ∷ []) kinds nodes
whole kinds o nodes h w = subst (λ (x : Outcome). IsOutcome kinds x) w h

few : (spans : List Span) (nodes : List TreeNode) → length spans ≤ 2 ^ 24 → Leftmost ilasm 0 (Nonterminal SOURCE ∷ []) (terminals_of_spans spans) nodes → length nodes < 2 ^ 32
few spans nodes le r =
    omega (arith, ilasm_raw_nodes (terminals_of_spans spans) nodes r, length-map spans (λ (span : Span). terminal_of span.kind))

pub count_nodes-requires-clause-rules : goal.count_nodes-requires-clause-rules
count_nodes-requires-clause-rules c =
    have_rules ilasm (whole (terminals_of_spans c.args.spans.now) _ c.in-Whole.nodes c.in_ok-nodes.ensures c.in-Whole.is)

pub count_nodes-requires-clause-few : goal.count_nodes-requires-clause-few
count_nodes-requires-clause-few c =
    few c.args.spans.now c.in-Whole.nodes c.requires (whole (terminals_of_spans c.args.spans.now) _ c.in-Whole.nodes c.in_ok-nodes.ensures c.in-Whole.is)

pub returns-in-Whole : goal.returns-in-Whole
returns-in-Whole c =
    let kinds = terminals_of_spans c.args.spans.now in
    subst (λ (x : List TreeNode). Derives ilasm 0 (Nonterminal SOURCE ∷ []) kinds x) (sym c.count_nodes.ensures)
    (ilasm_tree kinds c.in-Whole.nodes (whole kinds _ c.in-Whole.nodes c.in_ok-nodes.ensures c.in-Whole.is))
