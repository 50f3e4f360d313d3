use Rattle.std.proofs.Common.{◌≡◌, ℕ, zero, suc, ◌<◌, ◌≤◌, ◌⊎◌, inl, inr, length, List, [], ◌∷◌, drop, refl, sym, ap, ◌∙◌, subst, arith}
use Rattle.std.proofs.lemmas.List.{length-map}
use Rattle.il_lexer.specs.declared.types.Span.{Span}
use Rattle.ilasm_grammar.specs.declared.symbol.Symbol.{Symbol}
use Rattle.ilasm_grammar.specs.declared.symbol.Symbol.TheVariants.{Nonterminal}
use Rattle.ilasm_grammar.specs.declared.tree.TreeNode.{TreeNode}
use Rattle.ilasm_grammar.specs.declared.leftmost.Turn.{Turn}
use Rattle.ilasm_grammar.specs.declared.terminals.TheConstants.{END}
use Rattle.ilasm_grammar.specs.declared.nonterminals.TheConstants.{SOURCE}
use Rattle.ilasm_grammar.specs.Grammar.{IsFaultAt}
use Rattle.ilasm_grammar.specs.Choice.{next_of, AreProductive.none as no_symbols, AreProductive.nonterminal as nonterminal_made}
use Rattle.ilasm_grammar.specs.Ilasm.{ilasm, ilasm_sets, picked}
use Rattle.ilasm_grammar.specs.Terminals.{terminal_of}
use Rattle.ilasm_grammar.specs.Parsing.{terminals_of_spans, IsUnderWay, IsStuckAt, AreStuck, HasTurned}
use Rattle.ilasm_grammar.specs.Stacked.{symbols_at, rest_at}
use Rattle.ilasm_grammar.proofs.CourseLemmas.{begins, faults, faults_at_end, stuck, stuck_at_end, next-drop_past}
use Rattle.ilasm_grammar.proofs.IlasmFacts.{ilasm_decided, ilasm_productive}
use Rattle.ilasm_grammar.proofs.leftmost.derive.Goals as goal
use Rattle.ilasm_grammar.proofs.leftmost.derive.Goals.{In_ok-advance}

length-terminals : (spans : List Span) → length (terminals_of_spans spans) ≡ length spans
length-terminals spans = length-map spans (λ (span : Span). terminal_of span.kind)

-- a token that the stack doesn't take is the fault
stops : (spans : List Span) (at look : ℕ) → at < length spans → look < END → next_of END (drop at (terminals_of_spans spans)) ≡ look →
    IsStuckAt (terminals_of_spans spans) look at → IsFaultAt ilasm SOURCE (terminals_of_spans spans) at
stops spans at look lt low next h =
    faults ilasm ilasm_sets picked END SOURCE ilasm_decided (terminals_of_spans spans) at h.symbols h.nodes (omega (arith, length-terminals spans)) h.under
    (λ rest more same r. stuck ilasm ilasm_sets picked END SOURCE ilasm_decided (terminals_of_spans spans) at look h.symbols h.under.followed
    (λ _ e. absurd (omega (arith, e))) (h.stuck.other low) h.stuck.expanded rest more (same ∙ next) r)

-- at the end it stands behind the last token
stops_at_end : (kinds : List ℕ) (at look : ℕ) → at ≡ length kinds → next_of END (drop at kinds) ≡ look → IsStuckAt kinds look at →
    IsFaultAt ilasm SOURCE kinds at
stops_at_end kinds at look end next h =
    let under = subst (λ (k : ℕ). IsUnderWay kinds k h.symbols h.nodes) end h.under in
    let last : look ≡ END = sym next ∙ ap (λ (k : ℕ). next_of END (drop k kinds)) end ∙ next-drop_past END kinds in
    let s = subst (λ (x : ℕ). AreStuck x h.symbols) last h.stuck in
    subst (λ (k : ℕ). IsFaultAt ilasm SOURCE kinds k) (sym end)
    (faults_at_end ilasm ilasm_sets picked END SOURCE ilasm_decided kinds h.symbols h.nodes under
    (λ more r. stuck_at_end ilasm ilasm_sets picked END SOURCE ilasm_decided kinds (length kinds) h.symbols under.followed s.some s.expanded more r))

split : (a n : ℕ) → a ≤ n → (a < n) ⊎ (a ≡ n)
split zero zero le = inr refl
split zero (suc n) le = inl (omega arith)
split (suc a) zero le = absurd (omega arith)
split (suc a) (suc n) le = elim (split a n (omega arith)) [ inl h ↦ inl (omega arith) | inr e ↦ inr (ap suc e) ]

turned : (c : In_ok-advance) → HasTurned (terminals_of_spans c.args.spans.now) c.terminal_at-terminal.result c.loop-next.at (symbols_at c.advance.new.next c.advance.new.behind) c.advance.new.nodes c.in_ok-advance.field-0
turned c = c.in_ok-advance.ensures.turned (terminals_of_spans c.args.spans.now) (sym c.terminal_at-terminal.ensures.is) c.loop-next.invariant.under

-- the symbol from which a source is derived stands at its place
start_is : symbols_at 886 [] ≡ Nonterminal SOURCE ∷ []
unfolding rest_at
start_is = refl

pub loop-next-init : goal.loop-next-init
loop-next-init c =
    let start : IsUnderWay (terminals_of_spans c.args.spans.now) 0 (Nonterminal SOURCE ∷ []) [] =
    begins ilasm ilasm_sets picked END SOURCE ilasm_decided (terminals_of_spans c.args.spans.now) (nonterminal_made (ilasm_productive SOURCE (omega arith)) no_symbols) in
    record {
      within = omega arith;
      none = λ le. absurd (omega arith);
      under = subst (λ (x : List Symbol). IsUnderWay (terminals_of_spans c.args.spans.now) 0 x c.in_ok-nodes.nodes) (sym (ap (λ x. symbols_at 886 x) c.new-behind.ensures ∙ start_is))
          (subst (λ (x : List TreeNode). IsUnderWay (terminals_of_spans c.args.spans.now) 0 (Nonterminal SOURCE ∷ []) x) (sym c.in_ok-nodes.ensures) start);
    }

pub returns-in-Stops : goal.returns-in-Stops
returns-in-Stops c =
    let kinds = terminals_of_spans c.args.spans.now in
    let h = subst (λ (t : Turn). HasTurned kinds c.terminal_at-terminal.result c.loop-next.at (symbols_at c.advance.new.next c.advance.new.behind) c.advance.new.nodes t) c.in-Stops.is
    (turned ((goal.at.returns-in-Stops c).In_ok-advance)) in
    elim (split c.loop-next.at (length c.args.spans.now) c.loop-next.invariant.within) [
      | inl lt ↦ stops c.args.spans.now c.loop-next.at c.terminal_at-terminal.result lt (c.terminal_at-terminal.ensures.low lt) (sym c.terminal_at-terminal.ensures.is) h
      | inr e ↦ stops_at_end kinds c.loop-next.at c.terminal_at-terminal.result (e ∙ sym (length-terminals c.args.spans.now)) (sym c.terminal_at-terminal.ensures.is) h
    ]
