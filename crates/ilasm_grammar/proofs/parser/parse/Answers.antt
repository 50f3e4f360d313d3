use Rattle.std.proofs.Common.{◌≡◌, ℕ, List, map, Err, Ok, inl, ap, ◌∙◌}
use Rattle.std.specs.Prelude.{slice_get}
use Rattle.il_lexer.specs.declared.types.Token.{Token}
use Rattle.il_lexer.specs.Lexing.{span_of}
use Rattle.ilasm_grammar.specs.declared.leftmost.Outcome.TheVariants.{Whole, Stops}
use Rattle.ilasm_grammar.specs.declared.fault.SyntaxFault.TheVariants.{Bad}
use Rattle.ilasm_grammar.specs.declared.nonterminals.TheConstants.{SOURCE}
use Rattle.ilasm_grammar.specs.Ilasm.{ilasm}
use Rattle.ilasm_grammar.specs.Parsing.{terminals_of_spans, terminals_of, IsTreeOf, IsSyntaxFaultAt, position_of, rule_at}
use Rattle.ilasm_grammar.proofs.CourseLemmas.{no_sentence, one_fault}
use Rattle.ilasm_grammar.proofs.IlasmFacts.{ilasm_one_tree}
use Rattle.ilasm_grammar.proofs.SpanLemmas.{cause_at, parsed, terminals_spanned}
use Rattle.ilasm_grammar.proofs.parser.parse.Goals as goal
use Rattle.ilasm_grammar.proofs.parser.parse.Goals.{In-Whole, In-Stops, After-fault_at}

is_tree : (c : In-Whole) → IsTreeOf c.args.tokens.now c.in-Whole.tree
is_tree c =
    parsed c.as_slice-2.result.now c.args.tokens.now _ (Whole c.in-Whole.tree)
    (ap terminals_of_spans (c.as_slice-2.ensures ∙ c.in_ok-spans.ensures ∙ ap (map span_of) c.as_slice.ensures) ∙ terminals_spanned c.args.tokens.now)
    c.in_ok-tree.ensures c.in-Whole.is

is_fault : (c : In-Stops) → IsSyntaxFaultAt c.args.tokens.now c.in-Stops.at
is_fault c =
    parsed c.as_slice-2.result.now c.args.tokens.now _ (Stops c.in-Stops.at)
    (ap terminals_of_spans (c.as_slice-2.ensures ∙ c.in_ok-spans.ensures ∙ ap (map span_of) c.as_slice.ensures) ∙ terminals_spanned c.args.tokens.now)
    c.in_ok-tree.ensures c.in-Stops.is

fault_is : (c : After-fault_at) → c.fault_at.result ≡ Bad (position_of (slice_get c.args.tokens.now c.in-Stops.at) c.args.end) (rule_at (slice_get c.args.tokens.now c.in-Stops.at))
fault_is c =
    c.fault_at.ensures ∙
    ap (λ (x : List Token). Bad (position_of (slice_get x c.in-Stops.at) c.args.end) (rule_at (slice_get x c.in-Stops.at))) c.as_slice-in-Stops.ensures

pub returns-in-Whole-clause-tree : goal.returns-in-Whole-clause-tree
returns-in-Whole-clause-tree c = is_tree ((goal.at.returns-in-Whole-clause-tree c).In-Whole)

pub returns-in-Whole-clause-derived : goal.returns-in-Whole-clause-derived
returns-in-Whole-clause-derived c tree h =
    inl (ap (λ x. Ok x) (ilasm_one_tree (terminals_of c.args.tokens.now) _ tree (is_tree ((goal.at.returns-in-Whole-clause-derived c).In-Whole)) h))

pub returns-in-Whole-clause-faulty : goal.returns-in-Whole-clause-faulty
returns-in-Whole-clause-faulty c at h =
    absurd (no_sentence ilasm SOURCE (terminals_of c.args.tokens.now) at h (_, is_tree ((goal.at.returns-in-Whole-clause-faulty c).In-Whole)))

pub returns-clause-cause : goal.returns-clause-cause
returns-clause-cause c =
    cause_at c.args.tokens.now c.args.end c.in-Stops.at _ (fault_is ((goal.at.returns-clause-cause c).After-fault_at)) (is_fault ((goal.at.returns-clause-cause c).In-Stops))

pub returns-clause-derived : goal.returns-clause-derived
returns-clause-derived c tree h =
    absurd (no_sentence ilasm SOURCE (terminals_of c.args.tokens.now) c.in-Stops.at (is_fault ((goal.at.returns-clause-derived c).In-Stops)) (tree, h))

pub returns-clause-faulty : goal.returns-clause-faulty
returns-clause-faulty c at h =
    let same = one_fault ilasm SOURCE (terminals_of c.args.tokens.now) c.in-Stops.at at (is_fault ((goal.at.returns-clause-faulty c).In-Stops)) h in
    inl (ap (λ x. Err x) (fault_is ((goal.at.returns-clause-faulty c).After-fault_at) ∙
    ap (λ (x : ℕ). Bad (position_of (slice_get c.args.tokens.now x) c.args.end) (rule_at (slice_get c.args.tokens.now x))) same))
