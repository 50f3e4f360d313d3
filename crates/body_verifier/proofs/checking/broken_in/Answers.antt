use Rattle.std.proofs.Common.{◌≡◌, ◌∙◌, refl, sym, ap, subst, ℕ, ◌+◌, ◌<◌, ◌≤◌, ◌^◌, List, [], ◌∷◌, length, map, arith}
use Rattle.std.specs.Prelude.{IfOk}
use Rattle.std.proofs.lemmas.Result.{IfOk-weaker}
use Rattle.type_hierarchy.specs.World.{hierarchy}
use Rattle.body_verifier.specs.declared.report.Broken.{Broken}
use Rattle.code_flow.specs.BlockTests.{spans_of}
use Rattle.body_verifier.specs.Checking.{AreBroken}
use Rattle.body_verifier.specs.Finding.{RisesWithin, typedef_at}
use Rattle.code_flow.specs.Frames.{frame}
use Rattle.code_flow.specs.Methods.{Declared}
use Rattle.body_verifier.specs.Reports.{Fails}
use Rattle.body_verifier.specs.StepBound.{AreEdges, height, step_bound}
use Rattle.body_verifier.proofs.Checked.{known_in, light_in, few_in, forward_all, whole_fails, same_method, set_up_body, ready, fails_all, rises_all, same_edges, same_declared, code_of_frame, bound_of_frame}
use Rattle.body_verifier.proofs.Weighing.{few_clauses}
use Rattle.body_verifier.proofs.checking.broken_in.Goals as goal

pub of-requires : goal.of-requires
of-requires g c =
    let light = light_in g.sources c.args.w.now c.args.a.now c.args.at.now c.requires.1.1.0.0 c.args.body.now c.requires.1.0 c.requires.0 c.requires.1.1.0.1 in
    let few : length c.args.body.now.clauses ≤ 2 ^ 20 = few_clauses c.args.body.now light in
    let e = ap length c.as_slice.ensures in
    let less : length c.as_slice.result.now < 2 ^ 32 = omega (arith, few, e) in
    less

pub whole_rule-requires-clause-forward : goal.whole_rule-requires-clause-forward
whole_rule-requires-clause-forward g c = forward_all (length c.args.body.now.code) c.args.body.now.clauses
    (light_in g.sources c.args.w.now c.args.a.now c.args.at.now c.requires.1.1.0.0 c.args.body.now c.requires.1.0 c.requires.0 c.requires.1.1.0.1).clauses

pub returns-in-Some-clause-ok : goal.returns-in-Some-clause-ok
returns-in-Some-clause-ok g c = λ d has.
    IfOk-weaker c.alone.result (λ (xs : List Broken). xs ≡ record { at = 0; rule = c.in-Some.rule } ∷ []) (λ (xs : List Broken). Fails c.args.a.now (hierarchy c.args.w.now) d c.args.body.now xs) (λ xs e.
    let P : List Broken → Type 0 = λ (ys : List Broken). Fails c.args.a.now (hierarchy c.args.w.now) d c.args.body.now ys in
    subst P (sym e) (whole_fails c.args.a.now (hierarchy c.args.w.now) d c.args.body.now c.args.method.now c.in-Some.rule
    (same_method c.args.a.now c.args.at.now d c.requires.1.1.0.0 c.args.body.now c.args.method.now has c.requires.1.1.0.1 c.requires.1.1.0.2) c.in-Some.ensures)) c.alone.ensures

pub returns-in-Some-clause-rising : goal.returns-in-Some-clause-rising
returns-in-Some-clause-rising g c =
    let some = (light_in g.sources c.args.w.now c.args.a.now c.args.at.now c.requires.1.1.0.0 c.args.body.now c.requires.1.0 c.requires.0 c.requires.1.1.0.1).some in
    IfOk-weaker c.alone.result (λ (xs : List Broken). xs ≡ record { at = 0; rule = c.in-Some.rule } ∷ []) (RisesWithin c.args.body.now.code 0) (λ xs e.
    let P : List Broken → Type 0 = λ (ys : List Broken). RisesWithin c.args.body.now.code 0 ys in
    subst P (sym e) (omega arith, omega arith, tt)) c.alone.ensures

pub parameters_by-parameters-requires : goal.parameters_by-parameters-requires
parameters_by-parameters-requires g c = few_in g.sources c.args.w.now c.args.a.now c.as_slice-places.result.now c.requires.1.0 c.requires.0

pub broken_instructions-requires : goal.broken_instructions-requires
broken_instructions-requires g c =
    let d : Declared = record { path = c.in_ok-path-in-None.path; parameters = c.parameters_by-parameters.result; method = c.args.method.now } in
    let light = light_in g.sources c.args.w.now c.args.a.now c.args.at.now c.requires.1.1.0.0 c.args.body.now c.requires.1.0 c.requires.0 c.requires.1.1.0.1 in (
      set_up_body c.args.a.now d c.args.body.now g.sources c.args.w.now light c.requires.1.0 c.joins_are_least_upper_bounds.ensures.order c.instructions_are_monotone.ensures,
      (ready c.args.a.now (hierarchy c.args.w.now) d c.args.body.now g.sources c.args.w.now c.in_ok-clauses.clauses light c.in-None.ensures.nest (c.in_ok-clauses.ensures ∙ ap (map spans_of) c.as_slice.ensures) c.requires.1.0, (refl, (c.requires.1.1.1, known_in g.sources c.args.w.now c.args.a.now c.requires.0 c.requires.1.0))),
    )

pub returns-clause-ok : goal.returns-clause-ok
returns-clause-ok g c = λ d has.
    let a = c.args.a.now in
    let w = hierarchy c.args.w.now in
    let e : Declared = record { path = c.in_ok-path-in-None.path; parameters = c.parameters_by-parameters.result; method = c.args.method.now } in
    let of = same_method a c.args.at.now d c.requires.1.1.0.0 c.args.body.now c.args.method.now has c.requires.1.1.0.1 c.requires.1.1.0.2 in
    let same = same_declared a c.args.at.now d c.args.method.now c.as_slice-places.result.now c.in_ok-path-in-None.path c.parameters_by-parameters.result has.is of c.as_slice-places.ensures
    c.in_ok-path-in-None.ensures.inner c.in_ok-path-in-None.ensures.outer c.parameters_by-parameters.ensures.some c.parameters_by-parameters.ensures.none in
    IfOk-weaker c.broken_instructions.result (AreBroken (frame a w e c.args.body.now)) (λ (xs : List Broken). Fails a w d c.args.body.now xs)
    (λ xs are. fails_all a w d e c.args.body.now c.args.method.now xs same of c.in-None.ensures are) c.broken_instructions.ensures.ok

pub returns-clause-rising : goal.returns-clause-rising
returns-clause-rising g c =
    let e : Declared = record { path = c.in_ok-path-in-None.path; parameters = c.parameters_by-parameters.result; method = c.args.method.now } in
    IfOk-weaker c.broken_instructions.result (AreBroken (frame c.args.a.now (hierarchy c.args.w.now) e c.args.body.now)) (RisesWithin c.args.body.now.code 0)
    (λ xs are. rises_all c.args.a.now (hierarchy c.args.w.now) e c.args.body.now xs are) c.broken_instructions.ensures.ok

pub returns-clause-bound : goal.returns-clause-bound
returns-clause-bound g c = λ d pairs has edges.
    let a = c.args.a.now in
    let w = hierarchy c.args.w.now in
    let e : Declared = record { path = c.in_ok-path-in-None.path; parameters = c.parameters_by-parameters.result; method = c.args.method.now } in
    let of = same_method a c.args.at.now d c.requires.1.1.0.0 c.args.body.now c.args.method.now has c.requires.1.1.0.1 c.requires.1.1.0.2 in
    let same = same_declared a c.args.at.now d c.args.method.now c.as_slice-places.result.now c.in_ok-path-in-None.path c.parameters_by-parameters.result has.is of c.as_slice-places.ensures
    c.in_ok-path-in-None.ensures.inner c.in_ok-path-in-None.ensures.outer c.parameters_by-parameters.ensures.some c.parameters_by-parameters.ensures.none in
    let P : ℕ → Type 0 = λ (n : ℕ). c.broken_instructions.new.steps ≤ c.args.steps.now + step_bound (length pairs) (n + 1) (height g.sources) in
    subst P (ap length (code_of_frame a w e c.args.body.now)) (c.broken_instructions.ensures.bound pairs (same_edges a w d e c.args.body.now pairs same edges))

pub returns-in-Some-clause-shallow : goal.returns-in-Some-clause-shallow
returns-in-Some-clause-shallow g c = λ d pairs has edges.
    IfOk-weaker c.alone.result (λ (xs : List Broken). xs ≡ record { at = 0; rule = c.in-Some.rule } ∷ [])
    (λ (xs : List Broken). xs ≡ [] → c.args.steps.now ≤ c.args.steps.now + step_bound (length pairs) c.args.body.now.bound (height g.sources)) (λ xs e none. omega arith) c.alone.ensures

pub returns-clause-shallow : goal.returns-clause-shallow
returns-clause-shallow g c = λ d pairs has edges.
    let a = c.args.a.now in
    let w = hierarchy c.args.w.now in
    let e : Declared = record { path = c.in_ok-path-in-None.path; parameters = c.parameters_by-parameters.result; method = c.args.method.now } in
    let of = same_method a c.args.at.now d c.requires.1.1.0.0 c.args.body.now c.args.method.now has c.requires.1.1.0.1 c.requires.1.1.0.2 in
    let same = same_declared a c.args.at.now d c.args.method.now c.as_slice-places.result.now c.in_ok-path-in-None.path c.parameters_by-parameters.result has.is of c.as_slice-places.ensures
    c.in_ok-path-in-None.ensures.inner c.in_ok-path-in-None.ensures.outer c.parameters_by-parameters.ensures.some c.parameters_by-parameters.ensures.none in
    let P : ℕ → Type 0 = λ (n : ℕ). IfOk c.broken_instructions.result (λ (xs : List Broken). xs ≡ [] → c.broken_instructions.new.steps ≤ c.args.steps.now + step_bound (length pairs) n (height g.sources)) in
    subst P (bound_of_frame a w e c.args.body.now) (c.broken_instructions.ensures.shallow pairs (same_edges a w d e c.args.body.now pairs same edges))
