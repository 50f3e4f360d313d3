use Rattle.il_tools.proofs.CommandLemmas.{due_to_image, image_given}
use Rattle.il_tools.specs.Commands.{a_fault}
use Rattle.il_tools.proofs.assembling.assembled.Goals as goal

pub returns-in-Ok-clause-gives : goal.returns-in-Ok-clause-gives
returns-in-Ok-clause-gives c =
    image_given c.one_reading.ensures c.args.file.now c.args.kind c.args.optimize c.args.output c.args.source.now c.in_ok-ending-in-Ok.ending c.in-Ok.image c.from_bytes.result
    c.in-Ok.ensures.image c.from_bytes.ensures c.in_ok-ending-in-Ok.ensures

pub returns-in-Ok-clause-merits : goal.returns-in-Ok-clause-merits
returns-in-Ok-clause-merits c m due =
    due_to_image c.one_reading.ensures c.args.file.now c.args.kind c.args.optimize c.args.output c.args.source.now c.in_ok-ending-in-Ok.ending
    (image_given c.one_reading.ensures c.args.file.now c.args.kind c.args.optimize c.args.output c.args.source.now c.in_ok-ending-in-Ok.ending c.in-Ok.image c.from_bytes.result
    c.in-Ok.ensures.image c.from_bytes.ensures c.in_ok-ending-in-Ok.ensures) m due

pub returns-in-Err-Content-clause-gives : goal.returns-in-Err-Content-clause-gives
returns-in-Err-Content-clause-gives c =
    a_fault c.in-Err-Content.fault (rw c.in-Err-Content.field-0-is at c.in-Err-Content.ensures.fault) (rw c.in-Err-Content.field-0-is at c.in_ok-ending-in-Err-Content.ensures)

pub returns-in-Err-Content-clause-merits : goal.returns-in-Err-Content-clause-merits
returns-in-Err-Content-clause-merits c m due =
    due_to_image c.one_reading.ensures c.args.file.now c.args.kind c.args.optimize c.args.output c.args.source.now c.in_ok-ending-in-Err-Content.ending
    (a_fault c.in-Err-Content.fault (rw c.in-Err-Content.field-0-is at c.in-Err-Content.ensures.fault) (rw c.in-Err-Content.field-0-is at c.in_ok-ending-in-Err-Content.ensures)) m due
