use Rattle.std.proofs.Common.{ℕ, suc, ◌≤◌, ◌^◌, ◌∷◌, [], List, length, add-one, ap, ◌∙◌, arith}
use Rattle.std.specs.Prelude.{slice_index_or}
use Rattle.std.proofs.lemmas.List.Elements.{All-cons}
use Rattle.run_endings.specs.Ends.{says_only}
use Rattle.run_endings.specs.declared.ending.Ending.{Ending}
use Rattle.run_images.specs.Texts.{image_text}
use Rattle.run_reports.specs.Reports.IsFirstFault.{later}
use Rattle.run_reports.specs.Reports.GivesReport.{faulty, read}
use Rattle.run_reports.proofs.Merited.{due_of_fault, due_of_reading}
use Rattle.run_reports.proofs.Zips.{fault_low, fault_range, zip_length}
use Rattle.run_reports.proofs.reporting.with_others.Goals as goal

pub checked-requires : goal.checked-requires
checked-requires c =
    let count = zip_length c.args.others.now c.in-Ok.references c.in-Ok.ensures.read in
    let few = c.requires.few in
    record { image = c.requires.fit; references = c.in-Ok.ensures.fit; few = omega (arith, count, few) }

pub returns-in_ok-ending-in-Ok-clause-gives : goal.returns-in_ok-ending-in-Ok-clause-gives
returns-in_ok-ending-in-Ok-clause-gives c =
    read c.args.a.now c.in-Ok.references (c.requires.reads, c.in-Ok.ensures.read) c.in_ok-ending-in-Ok.ensures.gives

pub returns-in_ok-ending-in-Ok-clause-merits : goal.returns-in_ok-ending-in-Ok-clause-merits
returns-in_ok-ending-in-Ok-clause-merits c m due =
    let small = All-cons (λ (image : List ℕ). length image ≤ 2 ^ 26) c.args.image.now c.args.others.now c.requires.small c.requires.smalls in
    due_of_reading c.an_image_has_one_outcome.ensures (c.args.image.now ∷ c.args.others.now) small c.args.a.now c.in-Ok.references c.in_ok-ending-in-Ok.ending.number
    (c.requires.reads, c.in-Ok.ensures.read) c.in_ok-ending-in-Ok.ensures.merits m due

pub overflow_add-number : goal.overflow_add-number
overflow_add-number c =
    let low = fault_low c.args.others.now c.in-Err-Faulty.number c.in-Err-Faulty.rule c.in-Err-Faulty.at (rw c.in-Err-Faulty.field-0-is at c.in-Err-Faulty.ensures.stop) in
    let few = c.requires.few in
    omega (arith, low, few)

pub image_fault_said-requires : goal.image_fault_said-requires
image_fault_said-requires c =
    let range = fault_range c.args.others.now c.in-Err-Faulty.number c.in-Err-Faulty.rule c.in-Err-Faulty.at c.faults_are_numbered.ensures (rw c.in-Err-Faulty.field-0-is at c.in-Err-Faulty.ensures.stop) in
    record { first = range.0; last = range.1 }

pub returns-in_ok-ending-in-Err-Faulty-clause-gives : goal.returns-in_ok-ending-in-Err-Faulty-clause-gives
returns-in_ok-ending-in-Err-Faulty-clause-gives c =
    let is = c.in_ok-ending-in-Err-Faulty.ensures in
    let name = c.name_by-name.ensures in
    faulty (suc c.in-Err-Faulty.number) c.in-Err-Faulty.rule c.in-Err-Faulty.at (later c.args.a.now c.requires.reads (rw c.in-Err-Faulty.field-0-is at c.in-Err-Faulty.ensures.stop))
    (is ∙ ap (λ (file : List ℕ). says_only 1 (image_text file c.in-Err-Faulty.rule c.in-Err-Faulty.at))
    (name ∙ ap (λ (k : ℕ). slice_index_or (c.args.file.now ∷ c.args.names.now) k []) (add-one c.in-Err-Faulty.number)))

pub returns-in_ok-ending-in-Err-Faulty-clause-merits : goal.returns-in_ok-ending-in-Err-Faulty-clause-merits
returns-in_ok-ending-in-Err-Faulty-clause-merits c m due =
    let small = All-cons (λ (image : List ℕ). length image ≤ 2 ^ 26) c.args.image.now c.args.others.now c.requires.small c.requires.smalls in
    ap (λ (x : Ending). x.number) c.in_ok-ending-in-Err-Faulty.ensures
    ∙ due_of_fault c.an_image_has_one_outcome.ensures (c.args.image.now ∷ c.args.others.now) small (suc c.in-Err-Faulty.number) c.in-Err-Faulty.rule c.in-Err-Faulty.at
    (later c.args.a.now c.requires.reads (rw c.in-Err-Faulty.field-0-is at c.in-Err-Faulty.ensures.stop)) m due
