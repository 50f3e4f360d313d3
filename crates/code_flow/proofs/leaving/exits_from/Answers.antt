use Rattle.std.proofs.Common.{◌∙◌, ◌++◌, ◌↔◌, subst, sym, ℕ, List}
use Rattle.std.specs.List.{Contains, flat_map}
use Rattle.code_flow.specs.GoingTests.{on_behind}
use Rattle.code_flow.proofs.ExitLemmas.{no_exit}
use Rattle.code_flow.proofs.leaving.exits_from.Goals as goal

pub returns : goal.returns
returns c = λ t.
    let f = on_behind c.args.clauses.now c.args.clause.now.place c.args.clause.now.spans in
    let once = c.in_ok-once.ensures ∙ c.as_slice.ensures.value in
    let all = c.in_ok-add_exits.ensures ∙ (λ i. c.new-targets.ensures.items i ++ flat_map f c.within-inside.result.now)
    ∙ c.within-inside.ensures f (no_exit c.args.clauses.now c.args.clause.now.place c.args.clause.now.spans) in
    subst (λ (l : List ℕ). Contains l t ↔ Contains (flat_map f c.args.leaves.now) t) (sym once)
    (subst (λ (l : List ℕ). Contains c.each_once-targets.result.items t ↔ Contains l t) all (c.each_once-targets.ensures.same t))
