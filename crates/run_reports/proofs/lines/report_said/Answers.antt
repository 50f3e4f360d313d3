use Rattle.std.proofs.Common.{sym, subst, ◌∙◌, IsTrue, rules}
use Rattle.std.specs.Prelude.{is_some}
use Rattle.std.proofs.lemmas.List.Elements.{All-get_or}
use Rattle.body_verifier.specs.declared.report.Failure.{Failure}
use Rattle.listing_model.specs.Canon.{reference_at}
use Rattle.run_reports.specs.Texts.{IsRule, failure_text}
use Rattle.run_reports.proofs.LineLemmas.{next_line}
use Rattle.run_reports.proofs.lines.report_said.Goals as goal

pub add_failure-requires : goal.add_failure-requires
add_failure-requires c =
    let P : Failure → Type 0 = λ (f : Failure). IsTrue (is_some (reference_at c.args.a.now f.method)) in
    let Q : Failure → Type 0 = λ (f : Failure). IsRule f.rule in
    let ruled = subst Q (sym c.failure-item.is) (All-get_or Q c.args.report.now c.loop-failure.failure-index c.failure-item.result (search rules) c.requires.ruled) in
    record {
      placed = subst P (sym c.failure-item.is) (All-get_or P c.args.report.now c.loop-failure.failure-index c.failure-item.result (search rules) c.requires.placed);
      low = ruled.0;
      high = ruled.1;
      same = c.in_ok-externs.ensures ∙ c.as_slice.ensures;
    }

pub loop-failure-preserved : goal.loop-failure-preserved
loop-failure-preserved c =
    next_line (failure_text c.args.a.now) c.args.report.now c.loop-failure.failure-index c.loop-failure.paper c.add_failure.new.paper c.failure-item.result
    (search rules) c.failure-item.is c.loop-failure.invariant c.in_ok-add_failure.ensures
