use Rattle.std.proofs.Common.{List, length, Bool, sym, ◌∙◌, ap, subst}
use Rattle.assembly_tree.specs.declared.body.Ins.{Ins}
use Rattle.code_flow.specs.declared.blocks.Spans.{Spans}
use Rattle.code_flow.specs.Marks.{HaveMarks, all_marks}
use Rattle.code_flow.proofs.Marking.{have_marks, marks_long}
use Rattle.code_flow.proofs.marks.marks_of.Goals as goal

pub returns-clause-are : goal.returns-clause-are
returns-clause-are c = λ f code clauses.
    let e = c.in_ok-marks.ensures ∙ ap (λ (z : List Ins). all_marks z c.args.clauses.now) (sym code) ∙ ap (λ (z : List Spans). all_marks f.code z) clauses in
    subst (λ (m : List Bool). HaveMarks f m) (sym e) (have_marks f)

pub returns-clause-count : goal.returns-clause-count
returns-clause-count c = ap (λ (m : List Bool). length m) c.in_ok-marks.ensures ∙ marks_long c.args.code.now c.args.clauses.now
