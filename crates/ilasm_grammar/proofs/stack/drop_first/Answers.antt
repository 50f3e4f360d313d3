use Rattle.std.proofs.Common.{◌++◌, List, sym, ap, ◌∙◌, arith}
use Rattle.ilasm_grammar.specs.declared.symbol.Symbol.{Symbol}
use Rattle.ilasm_grammar.specs.Stacked.{joined, symbols_at}
use Rattle.ilasm_grammar.proofs.PlaceLemmas.{joined-push, rest_at_past}
use Rattle.ilasm_grammar.proofs.stack.drop_first.Goals as goal

pub loop-next-preserved : goal.loop-next-preserved
loop-next-preserved c =
    let none = rest_at_past c.loop-next.next (omega (arith, c.loop-next-test.true)) in
    sym (joined-push c.pop.new.self c.in-Some.place) ∙ ap joined (sym c.in-Some.ensures) ∙
    sym (ap (λ (x : List Symbol). x ++ joined c.loop-next.behind) none) ∙ c.loop-next.invariant

pub returns-in-None-clause-is : goal.returns-in-None-clause-is
returns-in-None-clause-is c =
    ap (λ x. symbols_at c.loop-next.next x) (c.in-None.ensures.1 ∙ sym c.in-None.ensures.0) ∙ c.loop-next.invariant ∙
    ap (λ x. symbols_at x c.args.behind.now) c.place_behind.ensures

pub returns-in-None-clause-none : goal.returns-in-None-clause-none
returns-in-None-clause-none c le =
    ap (λ x. x ++ joined c.pop.new.self) (rest_at_past c.loop-next.next le) ∙ ap joined c.in-None.ensures.1

pub returns-clause-is : goal.returns-clause-is
returns-clause-is c = c.loop-next.invariant ∙ ap (λ x. symbols_at x c.args.behind.now) c.place_behind.ensures
