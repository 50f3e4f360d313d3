use Rattle.std.proofs.Common.{◌≡◌, ◌∙◌, sym, ap, ◌+◌, ◌≤◌, List, [], length, map, arith}
use Rattle.std.proofs.lemmas.Result.{IfOk-weaker}
use Rattle.std.specs.List.{sum_by}
use Rattle.assembly_tree.specs.WellFormedBodies.{size_of}
use Rattle.type_hierarchy.specs.World.{hierarchy}
use Rattle.body_verifier.specs.declared.report.Broken.{Broken}
use Rattle.body_verifier.specs.declared.report.Failure.{Failure}
use Rattle.body_verifier.specs.Reports.{Reports, reported}
use Rattle.body_verifier.specs.StepBound.{height, step_bound}
use Rattle.body_verifier.proofs.Checked.{light_in, reports_all, none_reported}
use Rattle.body_verifier.proofs.Sizing.{short_code}
use Rattle.body_verifier.proofs.checking.check_body.Goals as goal

pub report_of-requires-clause-few : goal.report_of-requires-clause-few
report_of-requires-clause-few g c =
    let e = ap (sum_by size_of) c.as_slice.ensures in
    let short = short_code c.args.body.now (light_in g.sources c.args.w.now c.args.a.now c.args.at.now c.requires.1.1.0.0 c.args.body.now c.requires.1.0 c.requires.0 c.requires.1.1.0.1) in
    omega (arith, e, short)

pub returns-clause-ok : goal.returns-clause-ok
returns-clause-ok g c =
    let a = c.args.a.now in
    let w = hierarchy c.args.w.now in
    let d = c.requires.1.1.0.0 in
    let has = c.requires.1.1.0.1 in
    IfOk-weaker c.report_of.result (λ (r : List Failure). r ≡ map (reported c.args.at.now c.args.body.now) c.as_slice-2.result.now) (λ (r : List Failure). Reports a w c.args.at.now r)
    (λ r e. reports_all a w c.args.at.now d c.args.body.now c.in_ok-broken.broken r has (c.in_ok-broken.ensures.ok d has) (e ∙ ap (map (reported c.args.at.now c.args.body.now)) c.as_slice-2.ensures))
    (c.report_of.ensures c.args.body.now (sym c.as_slice.ensures))

pub returns-clause-shallow : goal.returns-clause-shallow
returns-clause-shallow g c = λ d pairs has edges.
    IfOk-weaker c.report_of.result (λ (r : List Failure). r ≡ map (reported c.args.at.now c.args.body.now) c.as_slice-2.result.now)
    (λ (r : List Failure). r ≡ [] → c.broken_in.new.steps ≤ c.args.steps.now + step_bound (length pairs) c.args.body.now.bound (height g.sources))
    (λ r e none. c.in_ok-broken.ensures.shallow d pairs has edges (none_reported c.args.at.now c.args.body.now c.in_ok-broken.broken r (e ∙ ap (map (reported c.args.at.now c.args.body.now)) c.as_slice-2.ensures) none))
    (c.report_of.ensures c.args.body.now (sym c.as_slice.ensures))
