-- The rules that failures name have the numbers 1 to 20.
use Rattle.std.proofs.Common.{ℕ, ◌+◌, ◌≤◌, List, [], subst, sym, arith}
use Rattle.std.specs.List.{All}
use Rattle.std.proofs.lemmas.List.Elements.{All-append, All-nil, All-map, All-cons}
use Rattle.assembly_tree.specs.declared.assembly.Assembly.{Assembly}
use Rattle.assembly_tree.specs.declared.body.Body.{Body}
use Rattle.assembly_tree.specs.declared.typedef.MethodPath.{MethodPath}
use Rattle.body_verifier.specs.Reports.{Fails, Lists, ReportsEach, no_methods, method, reported}
use Rattle.body_verifier.specs.Reports.Fails.{unnested, uninitialised, explicit, typed}
use Rattle.body_verifier.specs.Reports.Lists.{none_more, next}
use Rattle.body_verifier.specs.declared.report.Failure.{Failure}
use Rattle.code_flow.specs.Frames.{Frame}
use Rattle.code_flow.specs.Methods.{Declared}
use Rattle.code_flow.specs.Rules.{Breaks, v1, v2, v3_before, v3_after, v4, v5, v5_stored, v6, v7, v8, v9, v10, v11_deep, v11_inside, v12, v13, v14, v15_leave, v15_rethrow, v15_end_finally, v15_end_filter, v15_deep, v17, v18, v18_explicit, v19}
use Rattle.code_flow.specs.Typings.{Typing}
use Rattle.type_hierarchy.specs.Hierarchy.{Hierarchy}
use Rattle.run_reports.specs.Texts.{IsRule}

of_instruction : (f : Frame) (typing : Typing) (k rule : ℕ) → Breaks f typing k rule → (1 ≤ rule) × (rule ≤ 20)
of_instruction f typing k rule (v1 is had few) = (omega arith, omega arith)
of_instruction f typing k rule (v2 clashes) = (omega arith, omega arith)
of_instruction f typing k rule (v3_before had deep) = (omega arith, omega arith)
of_instruction f typing k rule (v3_after is had deep) = (omega arith, omega arith)
of_instruction f typing k rule (v4 n is had asks wrong) = (omega arith, omega arith)
of_instruction f typing k rule (v5 n is had asks fails) = (omega arith, omega arith)
of_instruction f typing k rule (v5_stored is had fails) = (omega arith, omega arith)
of_instruction f typing k rule (v6 does falls last) = (omega arith, omega arith)
of_instruction f typing k rule (v7 is had apart) = (omega arith, omega arith)
of_instruction f typing k rule (v8 does loads none) = (omega arith, omega arith)
of_instruction f typing k rule (v9 does loads none) = (omega arith, omega arith)
of_instruction f typing k rule (v10 does misfits) = (omega arith, omega arith)
of_instruction f typing k rule (v11_deep does had deep) = (omega arith, omega arith)
of_instruction f typing k rule (v11_inside does in_block holds) = (omega arith, omega arith)
of_instruction f typing k rule (v12 does branches goes uneven) = (omega arith, omega arith)
of_instruction f typing k rule (v13 does falls more uneven) = (omega arith, omega arith)
of_instruction f typing k rule (v14 in_clauses starts had some) = (omega arith, omega arith)
of_instruction f typing k rule (v15_leave leaves may) = (omega arith, omega arith)
of_instruction f typing k rule (v15_rethrow does may) = (omega arith, omega arith)
of_instruction f typing k rule (v15_end_finally does may) = (omega arith, omega arith)
of_instruction f typing k rule (v15_end_filter does may) = (omega arith, omega arith)
of_instruction f typing k rule (v15_deep does had deep) = (omega arith, omega arith)
of_instruction f typing k rule (v17 does misfits) = (omega arith, omega arith)
of_instruction f typing k rule (v18 does) = (omega arith, omega arith)
of_instruction f typing k rule (v18_explicit does calls states) = (omega arith, omega arith)
of_instruction f typing k rule (v19 does of by_reference) = (omega arith, omega arith)

module _ (path : MethodPath) (body : Body) where
  of_list : (f : Frame) (typing : Typing) (k : ℕ) (broken : List _) → Lists f typing k broken → All (λ x. IsRule (reported path body x).rule) broken
  of_list f typing k [] (none_more none) = All-nil (λ x. IsRule (reported path body x).rule)
  of_list f typing k _ (next {at} {rule} {more} low there first before rest) =
      All-cons (λ x. IsRule (reported path body x).rule) _ more (of_instruction f typing at rule first.breaks) (of_list f typing (at + 1) more rest)

  of_method : (a : Assembly) (w : Hierarchy) (d : Declared) (b : Body) (broken : List _) → Fails a w d b broken → All (λ x. IsRule (reported path body x).rule) broken
  of_method a w d b _ (unnested crossed) = All-cons (λ x. IsRule (reported path body x).rule) _ [] (omega arith, omega arith) (All-nil (λ x. IsRule (reported path body x).rule))
  of_method a w d b _ (uninitialised nest without) = All-cons (λ x. IsRule (reported path body x).rule) _ [] (omega arith, omega arith) (All-nil (λ x. IsRule (reported path body x).rule))
  of_method a w d b _ (explicit nest with stated) = All-cons (λ x. IsRule (reported path body x).rule) _ [] (omega arith, omega arith) (All-nil (λ x. IsRule (reported path body x).rule))
  of_method a w d b broken (typed {typing = t} nest with implicit least lists) = of_list _ t 0 broken lists

pub all_ruled : (a : Assembly) (w : Hierarchy) (paths : List MethodPath) (failures : List Failure) → ReportsEach a w paths failures
    → All (λ (f : Failure). IsRule f.rule) failures
all_ruled a w paths failures no_methods = All-nil (λ (f : Failure). IsRule f.rule)
all_ruled a w paths failures (method {path} {paths = rest} {failures = own} {more} r others) =
    All-append (λ (f : Failure). IsRule f.rule) own more
    (subst (λ fs. All (λ (f : Failure). IsRule f.rule) fs) (sym r.all)
    (All-map (λ (f : Failure). IsRule f.rule) (reported path r.body) r.broken (of_method path r.body a w r.declared r.body r.broken r.fails)))
    (all_ruled a w rest more others)
