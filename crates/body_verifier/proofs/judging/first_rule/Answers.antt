use Rattle.std.proofs.Common.{◌≡◌, ◌∙◌, ap, subst, List, Bool}
use Rattle.std.specs.Prelude.{◌&&◌, ◌||◌}
use Rattle.body_verifier.specs.Verdicts.{IsFirst, is_return, is_filter_end}
use Rattle.body_verifier.proofs.VerdictLemmas.{same_tests}
use Rattle.body_verifier.proofs.judging.first_rule.Goals as goal

pub returns : goal.returns
returns c =
    let s = c.args.stack.now in
    let k = c.args.code.now in
    let o = c.args.does in
    let P : List Bool → Type 0 = λ (xs : List Bool). IsFirst xs c.first_true.result in
    let deep : c.either.result ≡ ((is_return o && s.more) || k.returns_inside) =
    c.either.ensures ∙ ap (λ (x : Bool). x || k.returns_inside) (c.both.ensures ∙ ap (λ (x : Bool). x && s.more) c.returns.ensures) in
    let place : c.either-2.result ≡ (k.misplaced || (is_filter_end o && s.more)) =
    c.either-2.ensures ∙ ap (λ (x : Bool). k.misplaced || x) (c.both-3.ensures ∙ ap (λ (x : Bool). x && s.more) c.ends_filter.ensures) in
    subst P (same_tests s k o c.either.result c.both-2.result c.either-2.result deep c.both-2.ensures place) c.first_true.ensures
