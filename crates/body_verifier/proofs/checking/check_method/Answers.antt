use Rattle.std.proofs.Common.{◌≡◌, ◌∙◌, sym, ap, subst, ℕ, ◌+◌, ◌≤◌, List, [], length, arith}
use Rattle.std.specs.Prelude.{IfOk}
use Rattle.std.proofs.lemmas.Result.{IfOk-weaker}
use Rattle.assembly_tree.specs.declared.body.Body.{Body}
use Rattle.type_hierarchy.specs.World.{hierarchy}
use Rattle.body_verifier.specs.declared.report.Failure.{Failure}
use Rattle.body_verifier.specs.Checking.{HasBody}
use Rattle.code_flow.specs.Frames.{frame}
use Rattle.code_flow.specs.Paths.{NeverWrong}
use Rattle.body_verifier.specs.Reports.{Reports}
use Rattle.body_verifier.specs.StepBound.{AreEdges, height, step_bound}
use Rattle.body_verifier.proofs.Breaking.{one_report, same_body}
use Rattle.body_verifier.proofs.Checked.{formed_in, found_body, one_least_in, paths_in, right_where_none}
use Rattle.body_verifier.proofs.checking.check_method.Goals as goal

pub check_body-requires : goal.check_body-requires
check_body-requires g c = (c.requires.0, (c.requires.1.0, (found_body c.args.a.now c.args.at.now c.in-Some.method.now c.in-Some-body.body c.in-Some.ensures c.in-Some-body.is, c.requires.1.1.1)))

pub returns-in-Some-body-clause-alone : goal.returns-in-Some-body-clause-alone
returns-in-Some-body-clause-alone g c = λ failures other.
    let w = hierarchy c.args.w.now in
    IfOk-weaker c.check_body.result (λ (r : List Failure). Reports c.args.a.now w c.args.at.now r) (λ (r : List Failure). r ≡ failures)
    (λ r these. one_report c.args.a.now w c.args.at.now (one_least_in g.sources c.args.w.now c.args.a.now c.requires.1.0 c.a_body_has_one_least_typing.ensures) r failures these other) c.check_body.ensures.ok

pub returns-in-Some-body-clause-paths : goal.returns-in-Some-body-clause-paths
returns-in-Some-body-clause-paths g c = λ d b has.
    let w = hierarchy c.args.w.now in
    IfOk-weaker c.check_body.result (λ (r : List Failure). Reports c.args.a.now w c.args.at.now r) (λ (r : List Failure). r ≡ [] → NeverWrong (frame c.args.a.now w d b)) (λ r these none.
    right_where_none c.args.a.now w c.args.at.now d b r has (formed_in g.sources c.args.w.now c.args.a.now c.args.at.now d b c.requires.1.0 c.requires.0 has)
    (paths_in g.sources c.args.w.now c.args.a.now c.args.at.now d b c.requires.1.0 c.requires.0 has c.paths_are_right.ensures) these none) c.check_body.ensures.ok

pub returns-in-Some-body-clause-steps : goal.returns-in-Some-body-clause-steps
returns-in-Some-body-clause-steps g c = λ d b pairs has edges.
    let a = c.args.a.now in
    let w = hierarchy c.args.w.now in
    let body = c.in-Some-body.body in
    let found = found_body a c.args.at.now c.in-Some.method.now body c.in-Some.ensures c.in-Some-body.is in
    let same = same_body a c.args.at.now d found.0 b body has found.1 in
    let P : Body → Type 0 = λ (x : Body). HasBody a c.args.at.now d x in
    let Q : Body → Type 0 = λ (x : Body). AreEdges (frame a w d x) pairs in
    let R : Body → Type 0 = λ (x : Body). c.check_body.new.steps ≤ c.args.steps.now + step_bound (length pairs) (length x.code + 1) (height g.sources) in
    subst R (sym same.1) (c.check_body.ensures.bound d pairs (subst P same.1 has) (subst Q same.1 edges))

pub returns-in-Some-body-clause-shallow : goal.returns-in-Some-body-clause-shallow
returns-in-Some-body-clause-shallow g c = λ d b pairs has edges.
    let a = c.args.a.now in
    let w = hierarchy c.args.w.now in
    let body = c.in-Some-body.body in
    let found = found_body a c.args.at.now c.in-Some.method.now body c.in-Some.ensures c.in-Some-body.is in
    let same = same_body a c.args.at.now d found.0 b body has found.1 in
    let P : Body → Type 0 = λ (x : Body). HasBody a c.args.at.now d x in
    let Q : Body → Type 0 = λ (x : Body). AreEdges (frame a w d x) pairs in
    let R : Body → Type 0 = λ (x : Body). IfOk c.check_body.result (λ (r : List Failure). r ≡ [] → c.check_body.new.steps ≤ c.args.steps.now + step_bound (length pairs) x.bound (height g.sources)) in
    subst R (sym same.1) (c.check_body.ensures.shallow d pairs (subst P same.1 has) (subst Q same.1 edges))
