use Rattle.std.proofs.Common.{◌≡◌, ℕ, zero, suc, ◌<◌, List, ◌∷◌, [], ◌++◌, length, drop, sym, ap, ◌∙◌, subst, arith}
use Rattle.ilasm_grammar.specs.declared.symbol.Symbol.{Symbol}
use Rattle.ilasm_grammar.specs.declared.symbol.Symbol.TheVariants.{Terminal}
use Rattle.ilasm_grammar.specs.declared.tree.TreeNode.{TreeNode}
use Rattle.ilasm_grammar.specs.declared.tree.TreeNode.TheVariants.{Leaf}
use Rattle.ilasm_grammar.specs.declared.terminals.TheConstants.{END}
use Rattle.ilasm_grammar.specs.declared.nonterminals.TheConstants.{SOURCE}
use Rattle.ilasm_grammar.specs.Choice.{next_of}
use Rattle.ilasm_grammar.specs.Ilasm.{ilasm, ilasm_sets, picked}
use Rattle.ilasm_grammar.specs.Parsing.{IsUnderWay}
use Rattle.ilasm_grammar.specs.Stacked.{symbols_at}
use Rattle.ilasm_grammar.proofs.CourseLemmas.{shifts, next-drop}
use Rattle.ilasm_grammar.proofs.IlasmFacts.{ilasm_decided}
use Rattle.ilasm_grammar.proofs.StepLemmas.{first_is, none_takes}
use Rattle.ilasm_grammar.proofs.leftmost.advance.Goals as goal

-- a token stands where its terminal isn't the end
within : (kinds : List ℕ) (at : ℕ) → next_of END (drop at kinds) < END → at < length kinds
within [] zero h = absurd (omega (arith, h))
within [] (suc at) h = absurd (omega (arith, h))
within (x ∷ kinds) zero h = omega arith
within (x ∷ kinds) (suc at) h = let r = within kinds at h in omega arith

-- the token is taken
leaf_made : (kinds : List ℕ) (terminal at : ℕ) (symbols symbols' : List Symbol) (nodes nodes' : List TreeNode) → terminal < END →
    symbols ≡ Terminal terminal ∷ symbols' → nodes' ≡ nodes ++ Leaf at ∷ [] → next_of END (drop at kinds) ≡ terminal →
    IsUnderWay kinds at symbols nodes → (terminal < END) × IsUnderWay kinds (suc at) symbols' nodes'
leaf_made kinds terminal at symbols symbols' nodes nodes' low first made next under =
    let lt = within kinds at (subst (λ (x : ℕ). x < END) (sym next) low) in
    let drops = next-drop END kinds at lt terminal next in
    let under1 = subst (λ (s : List Symbol). IsUnderWay kinds at s nodes) first under in
    let after = shifts ilasm ilasm_sets picked END SOURCE ilasm_decided kinds at terminal symbols' nodes drops under1 in
    (low, subst (λ (x : List TreeNode). IsUnderWay kinds (suc at) symbols' x) (sym made) after)

pub returns-then-symbol-terminal-clause-turned : goal.returns-then-symbol-terminal-clause-turned
returns-then-symbol-terminal-clause-turned c kinds next under = record {
  symbols = symbols_at c.loop-symbol.next c.loop-symbol.behind;
  nodes = c.loop-symbol.nodes;
  under = c.loop-symbol.invariant.extended.keeps kinds c.args.at next under;
  stuck = none_takes c.args.terminal c.in-Terminal.symbol c.loop-symbol.next c.loop-symbol.behind (sym c.symbol_at.ensures.is ∙ c.in-Terminal.is)
      c.loop-symbol.invariant.some c.if-symbol-terminal.true;
}

pub returns-in-Terminal-clause-turned : goal.returns-in-Terminal-clause-turned
returns-in-Terminal-clause-turned c kinds next under =
    let same : c.in-Terminal.symbol ≡ c.args.terminal = c.if-symbol-terminal.false in
    let low : c.args.terminal < 410 = subst (λ (x : ℕ). x < 410) same c.in-Terminal.ensures.known in
    let first = first_is c.loop-symbol.next c.loop-symbol.behind (Terminal c.args.terminal) c.loop-symbol.invariant.some
    (sym c.symbol_at.ensures.is ∙ c.in-Terminal.is ∙ ap (λ (x : ℕ). Terminal x) same) in
    leaf_made kinds c.args.terminal c.args.at (symbols_at c.loop-symbol.next c.loop-symbol.behind)
    (symbols_at c.drop_first.new.next c.drop_first.new.behind) c.loop-symbol.nodes c.push_long.new.self low
    (first ∙ ap (λ (s : List Symbol). Terminal c.args.terminal ∷ s) (sym c.drop_first.ensures.is)) c.in_ok-push_long-in-Terminal.ensures.ok next
    (c.loop-symbol.invariant.extended.keeps kinds c.args.at next under)
