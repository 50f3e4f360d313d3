use Rattle.std.proofs.Common.{ℕ, List, Bool, false, sym, ◌∙◌, ap, subst, length}
use Rattle.std.specs.Prelude.{replicate}
use Rattle.code_flow.specs.declared.blocks.Spans.{Spans}
use Rattle.body_verifier.specs.CodeMarks.{HaveTries, marked_tries}
use Rattle.body_verifier.proofs.TryMarks.{have_tries, tries_long}
use Rattle.body_verifier.proofs.code_marks.tries_of.Goals as goal

pub returns-clause-are : goal.returns-clause-are
returns-clause-are c = λ f count clauses.
    let e =
    c.in_ok-marks.ensures ∙ ap (λ (n : ℕ). marked_tries (replicate n false) c.args.clauses.now) (sym count)
    ∙ ap (λ (z : List Spans). marked_tries (replicate (length f.code) false) z) clauses in
    subst (λ (m : List Bool). HaveTries f m) (sym e) (have_tries f)

pub returns-clause-count : goal.returns-clause-count
returns-clause-count c = ap (λ (m : List Bool). length m) c.in_ok-marks.ensures ∙ tries_long c.args.count c.args.clauses.now
