use Rattle.std.proofs.Common.{◌++◌, List, ap, ◌∙◌, sym, arith}
use Rattle.ilasm_grammar.specs.declared.symbol.Symbol.{Symbol}
use Rattle.ilasm_grammar.specs.Stacked.{behind_in, symbols_at}
use Rattle.ilasm_grammar.proofs.PlaceLemmas.{rest_at_past}
use Rattle.ilasm_grammar.proofs.StepLemmas.{fallback_applied, none_applies}
use Rattle.ilasm_grammar.proofs.leftmost.expand.Goals as goal

pub returns-in-Some : goal.returns-in-Some
returns-in-Some c = c.in_ok-descend.ensures

pub returns-in_default-fallback_choice : goal.returns-in_default-fallback_choice
returns-in_default-fallback_choice c = (
  c.requires.some,
  none_applies c.args.terminal c.args.nonterminal c.args.next.now c.args.behind.now c.requires.first c.requires.some c.in_default.ensures
      c.in_default-fallback_choice.ensures,
)

pub returns-then-choice-lt-NOWHERE : goal.returns-then-choice-lt-NOWHERE
returns-then-choice-lt-NOWHERE c =
    let chosen = c.in-Some-fallback_choice.ensures in
    let r = fallback_applied c.args.terminal c.args.nonterminal c.args.next.now c.args.behind.now _ c.args.nodes.now c.push_branch.new.nodes _ _
    c.requires.first c.requires.some c.in_default.ensures chosen.0 chosen.1 c.in_ok-push_branch.ensures c.in_ok-replace_first.ensures.is in
    record {
      some = omega (arith, c.in_ok-replace_first.ensures.next, c.if-choice-lt-NOWHERE.true);
      extended = r.0;
      less = r.1;
    }

pub returns-then-next-lt-NOWHERE : goal.returns-then-next-lt-NOWHERE
returns-then-next-lt-NOWHERE c =
    let chosen = c.in-Some-fallback_choice.ensures in
    let none = rest_at_past c.in-Some-fallback_choice.choice.begin (omega (arith, c.if-choice-lt-NOWHERE.false)) in
    let r = fallback_applied c.args.terminal c.args.nonterminal c.args.next.now c.args.behind.now _ c.args.nodes.now c.push_branch.new.nodes _ _
    c.requires.first c.requires.some c.in_default.ensures chosen.0 chosen.1 c.in_ok-push_branch.ensures
    (c.drop_first.ensures.is ∙ ap (λ (x : List Symbol). x ++ symbols_at (behind_in c.args.next.now) c.args.behind.now) (sym none)) in
    record { some = c.if-next-lt-NOWHERE.true; extended = r.0; less = r.1 }

pub returns-else-next-lt-NOWHERE : goal.returns-else-next-lt-NOWHERE
returns-else-next-lt-NOWHERE c =
    let chosen = c.in-Some-fallback_choice.ensures in
    let none = rest_at_past c.in-Some-fallback_choice.choice.begin (omega (arith, c.if-choice-lt-NOWHERE.false)) in
    let r = fallback_applied c.args.terminal c.args.nonterminal c.args.next.now c.args.behind.now _ c.args.nodes.now c.push_branch.new.nodes _ _
    c.requires.first c.requires.some c.in_default.ensures chosen.0 chosen.1 c.in_ok-push_branch.ensures
    (c.drop_first.ensures.is ∙ ap (λ (x : List Symbol). x ++ symbols_at (behind_in c.args.next.now) c.args.behind.now) (sym none)) in
    (c.drop_first.ensures.none (omega (arith, c.if-next-lt-NOWHERE.false)), r.0)
