use Rattle.std.proofs.Common.{ℕ, ◌≤◌, ◌^◌, ◌∷◌, List, length, ap, ◌∙◌, arith}
use Rattle.std.proofs.lemmas.List.Elements.{All-cons}
use Rattle.run_endings.specs.declared.ending.Ending.{Ending}
use Rattle.run_reports.specs.Reports.IsFirstFault.{here}
use Rattle.run_reports.specs.Reports.GivesReport.{faulty}
use Rattle.run_reports.proofs.Merited.{due_of_fault}
use Rattle.run_reports.proofs.reporting.reported.Goals as goal

pub with_others-requires : goal.with_others-requires
with_others-requires c =
    let reads = c.in-Ok.ensures.reads in
    let weight = reads.weight in
    record { reads = reads; fit = (c.in-Ok.ensures.formed, omega (arith, weight)); small = c.requires.small; smalls = c.requires.smalls; few = c.requires.few }

pub image_fault_said-requires : goal.image_fault_said-requires
image_fault_said-requires c =
    let range = c.faults_are_numbered.ensures c.args.image.now c.in-Err-Bad.rule c.in-Err-Bad.at (rw c.in-Err-Bad.field-0-is at c.in-Err-Bad.ensures.fault) in
    record { first = range.0; last = range.1 }

pub returns-in_ok-ending-in-Err-Bad-clause-gives : goal.returns-in_ok-ending-in-Err-Bad-clause-gives
returns-in_ok-ending-in-Err-Bad-clause-gives c =
    faulty 0 c.in-Err-Bad.rule c.in-Err-Bad.at (here (rw c.in-Err-Bad.field-0-is at c.in-Err-Bad.ensures.fault)) c.in_ok-ending-in-Err-Bad.ensures

pub returns-in_ok-ending-in-Err-Bad-clause-merits : goal.returns-in_ok-ending-in-Err-Bad-clause-merits
returns-in_ok-ending-in-Err-Bad-clause-merits c m due =
    let small = All-cons (λ (image : List ℕ). length image ≤ 2 ^ 26) c.args.image.now c.args.others.now c.requires.small c.requires.smalls in
    ap (λ (x : Ending). x.number) c.in_ok-ending-in-Err-Bad.ensures
    ∙ due_of_fault c.an_image_has_one_outcome.ensures (c.args.image.now ∷ c.args.others.now) small 0 c.in-Err-Bad.rule c.in-Err-Bad.at
    (here (rw c.in-Err-Bad.field-0-is at c.in-Err-Bad.ensures.fault)) m due
