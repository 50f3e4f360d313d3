use Rattle.std.proofs.Common.{◌++◌, List, sym, ap, ◌∙◌, arith}
use Rattle.ilasm_grammar.specs.declared.symbol.Symbol.{Symbol}
use Rattle.ilasm_grammar.specs.Stacked.{joined, rest_at}
use Rattle.ilasm_grammar.proofs.PlaceLemmas.{joined-push, rest_at_past}
use Rattle.ilasm_grammar.proofs.stack.replace_first.Goals as goal
use Rattle.ilasm_grammar.proofs.stack.replace_first.Goals.{then-rest-lt-NOWHERE+in_ok-push_long, else-rest-lt-NOWHERE}

pub returns-clause-is : goal.returns-clause-is
returns-clause-is c =
    let rest = c.place_behind-rest.ensures in
    ap (λ (x : List Symbol). rest_at c.args.begin ++ x) (elim c.if-rest-lt-NOWHERE.branch [
      | then-rest-lt-NOWHERE+in_ok-push_long w ↦
          ap joined w.behind-is ∙ ap joined w.in_ok-push_long.ensures.ok ∙ joined-push c.args.behind.now c.place_behind-rest.result ∙
          ap (λ x. rest_at x ++ joined c.args.behind.now) rest
      | else-rest-lt-NOWHERE w ↦
          ap joined w.behind-is ∙
          sym (ap (λ (x : List Symbol). x ++ joined c.args.behind.now) (rest_at_past c.place_behind-rest.result (omega (arith, w.if-rest-lt-NOWHERE.false)))) ∙
          ap (λ x. rest_at x ++ joined c.args.behind.now) rest
    ])
