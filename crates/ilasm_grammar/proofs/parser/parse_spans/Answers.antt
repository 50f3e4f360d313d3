use Rattle.std.proofs.Common.{◌≡◌, List, length, Err, Ok, inl, ap, ◌∙◌, ℕ}
use Rattle.std.specs.Prelude.{slice_get}
use Rattle.il_lexer.specs.declared.types.Span.{Span}
use Rattle.il_lexer.specs.Lexing.{all_placed, place_of}
use Rattle.ilasm_grammar.specs.declared.leftmost.Outcome.TheVariants.{Whole, Stops}
use Rattle.ilasm_grammar.specs.declared.fault.SyntaxFault.TheVariants.{Bad}
use Rattle.ilasm_grammar.specs.declared.nonterminals.TheConstants.{SOURCE}
use Rattle.ilasm_grammar.specs.Ilasm.{ilasm}
use Rattle.ilasm_grammar.specs.Parsing.{terminals_of, terminals_of_spans, IsTreeOf, IsSyntaxFaultAt, position_of, rule_at}
use Rattle.ilasm_grammar.proofs.CourseLemmas.{no_sentence, one_fault}
use Rattle.ilasm_grammar.proofs.IlasmFacts.{ilasm_one_tree}
use Rattle.ilasm_grammar.proofs.SpanLemmas.{cause_at, parsed, terminals_placed}
use Rattle.ilasm_grammar.proofs.parser.parse_spans.Goals as goal
use Rattle.ilasm_grammar.proofs.parser.parse_spans.Goals.{In-Whole, In-Stops, After-fault_in}

is_tree : (c : In-Whole) → IsTreeOf (all_placed c.args.source.now c.args.spans.now) c.in-Whole.tree
is_tree c =
    parsed c.as_slice.result.now (all_placed c.args.source.now c.args.spans.now) _ (Whole c.in-Whole.tree)
    (ap terminals_of_spans c.as_slice.ensures ∙ terminals_placed c.args.source.now c.args.spans.now) c.in_ok-tree.ensures c.in-Whole.is

is_fault : (c : In-Stops) → IsSyntaxFaultAt (all_placed c.args.source.now c.args.spans.now) c.in-Stops.at
is_fault c =
    parsed c.as_slice.result.now (all_placed c.args.source.now c.args.spans.now) _ (Stops c.in-Stops.at)
    (ap terminals_of_spans c.as_slice.ensures ∙ terminals_placed c.args.source.now c.args.spans.now) c.in_ok-tree.ensures c.in-Stops.is

fault_is : (c : After-fault_in) → c.fault_in.result ≡ Bad (position_of (slice_get (all_placed c.args.source.now c.args.spans.now) c.in-Stops.at) (place_of c.args.source.now (length c.args.source.now)))
    (rule_at (slice_get (all_placed c.args.source.now c.args.spans.now) c.in-Stops.at))
fault_is c =
    let source = c.args.source.now in
    let at = c.in-Stops.at in
    let end = place_of source (length source) in
    c.fault_in.ensures ∙
    ap (λ (x : List Span). Bad (position_of (slice_get (all_placed source x) at) end) (rule_at (slice_get (all_placed source x) at))) c.as_slice-in-Stops.ensures

pub returns-in-Whole-clause-tree : goal.returns-in-Whole-clause-tree
returns-in-Whole-clause-tree c = is_tree c

pub returns-in-Whole-clause-derived : goal.returns-in-Whole-clause-derived
returns-in-Whole-clause-derived c tree h =
    inl (ap (λ x. Ok x) (ilasm_one_tree (terminals_of (all_placed c.args.source.now c.args.spans.now)) _ tree (is_tree c) h))

pub returns-in-Whole-clause-faulty : goal.returns-in-Whole-clause-faulty
returns-in-Whole-clause-faulty c at h =
    absurd (no_sentence ilasm SOURCE (terminals_of (all_placed c.args.source.now c.args.spans.now)) at h (_, is_tree c))

pub returns-in-Stops-clause-cause : goal.returns-in-Stops-clause-cause
returns-in-Stops-clause-cause c =
    let source = c.args.source.now in
    cause_at (all_placed source c.args.spans.now) (place_of source (length source)) c.in-Stops.at _ (fault_is c) (is_fault ((goal.at.returns-in-Stops-clause-cause c).In-Stops))

pub returns-in-Stops-clause-derived : goal.returns-in-Stops-clause-derived
returns-in-Stops-clause-derived c tree h =
    absurd (no_sentence ilasm SOURCE (terminals_of (all_placed c.args.source.now c.args.spans.now)) c.in-Stops.at (is_fault ((goal.at.returns-in-Stops-clause-derived c).In-Stops)) (tree, h))

pub returns-in-Stops-clause-faulty : goal.returns-in-Stops-clause-faulty
returns-in-Stops-clause-faulty c at h =
    let ts = all_placed c.args.source.now c.args.spans.now in
    let end = place_of c.args.source.now (length c.args.source.now) in
    let same = one_fault ilasm SOURCE (terminals_of ts) c.in-Stops.at at (is_fault ((goal.at.returns-in-Stops-clause-faulty c).In-Stops)) h in
    inl (ap (λ x. Err x) (fault_is c ∙ ap (λ (x : ℕ). Bad (position_of (slice_get ts x) end) (rule_at (slice_get ts x))) same))
