use Rattle.std.proofs.Common.{◌≡◌, List, [], IsTrue, ap, subst, sym, ◌∙◌}
use Rattle.std.specs.Prelude.{is_some}
use Rattle.std.specs.List.{All}
use Rattle.assembly_tree.specs.declared.body.Body.{Body}
use Rattle.assembly_tree.specs.declared.typedef.MethodPath.{MethodPath}
use Rattle.body_verifier.specs.Checking.{HasBody}
use Rattle.body_verifier.specs.Reports.{ReportsAll}
use Rattle.body_verifier.specs.declared.report.Failure.{Failure}
use Rattle.code_flow.specs.Frames.{frame}
use Rattle.code_flow.specs.Methods.{Declared, all_methods}
use Rattle.code_flow.specs.Paths.{NeverWrong}
use Rattle.run_endings.specs.Ends.{prints_only}
use Rattle.run_endings.specs.declared.ending.Ending.{Ending}
use Rattle.listing_model.specs.Canon.{reference_at}
use Rattle.run_reports.specs.Reports.{status_of}
use Rattle.run_reports.specs.Reports.GivesFailures.{report}
use Rattle.run_reports.specs.Texts.{IsRule, report_text}
use Rattle.type_hierarchy.specs.Hierarchy.{Hierarchy}
use Rattle.type_hierarchy.specs.Scopes.{Sources, sources}
use Rattle.type_order.specs.Worlds.{IsWorldSince}
use Rattle.run_reports.proofs.Merited.{due_of_report}
use Rattle.run_reports.proofs.Placed.{all_placed}
use Rattle.run_reports.proofs.Ruled.{all_ruled}
use Rattle.run_reports.proofs.checking.bodies_given.Goals as goal

pub check_all-requires : goal.check_all-requires
check_all-requires g c = (
  ap (λ (x : Sources). x.image) c.requires.0,
  subst (λ (x : Sources). IsWorldSince x c.args.w.now) (sym c.requires.0)
      (c.worlds_go_on.ensures.made c.args.a.now c.args.references.now c.args.w.now c.requires.1.0 c.requires.1.1.0 c.requires.1.1.1.0 c.requires.1.1.1.1),
)

pub report_given-requires : goal.report_given-requires
report_given-requires g c =
    let P : List Failure → Type 0 = λ (l : List Failure). All (λ (f : Failure). IsTrue (is_some (reference_at c.args.a.now f.method))) l in
    let Q : List Failure → Type 0 = λ (l : List Failure). All (λ (f : Failure). IsRule f.rule) l in
    record {
      placed = subst P (sym c.as_slice.ensures) (all_placed c.args.a.now _ (all_methods c.args.a.now) c.in_ok-report.report c.in_ok-report.ensures.report);
      ruled = subst Q (sym c.as_slice.ensures) (all_ruled c.args.a.now _ (all_methods c.args.a.now) c.in_ok-report.report c.in_ok-report.ensures.report);
      small = c.requires.1.0.1;
    }

pub returns-clause-gives : goal.returns-clause-gives
returns-clause-gives g c names =
    let a = c.args.a.now in
    let world = c.requires.1.1.1.1 in
    let failures = c.in_ok-report.report in
    let R : Hierarchy → Type 0 = λ (w : Hierarchy). ReportsAll a w failures in
    let N : Hierarchy → Type 0 = λ (w : Hierarchy). failures ≡ [] → (path : MethodPath) (d : Declared) (b : Body) → HasBody a path d b → NeverWrong (frame a w d b) in
    report failures world.acyclic
    (record { each = subst R world.hierarchy c.in_ok-report.ensures.report; right = subst N world.hierarchy c.in_ok-report.ensures.right })
    (c.in_ok-ending.ensures ∙ ap (λ (l : List Failure). prints_only (status_of l) (report_text a l)) c.as_slice.ensures)

pub returns-clause-merits : goal.returns-clause-merits
returns-clause-merits g c m due =
    let a = c.args.a.now in
    let world = c.requires.1.1.1.1 in
    let failures = c.in_ok-report.report in
    let A : Hierarchy → Type 0 = λ (w : Hierarchy). (others : List Failure) → ReportsAll a w others → failures ≡ others in
    ap (λ (x : Ending). x.number) c.in_ok-ending.ensures ∙ ap status_of c.as_slice.ensures
    ∙ due_of_report (sources a c.args.references.now) failures world.acyclic (subst A world.hierarchy c.in_ok-report.ensures.alone) m due
