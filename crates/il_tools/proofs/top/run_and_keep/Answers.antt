use Rattle.std.proofs.Common.{refl}
use Rattle.il_tools.proofs.CommandLemmas.{ran_by, ran_lacking}
use Rattle.il_tools.proofs.top.run_and_keep.Goals as goal

pub returns-in-Ok-clause-ran : goal.returns-in-Ok-clause-ran
returns-in-Ok-clause-ran g c =
    let before = c.planned.ensures in
    ran_by c.args.words.now _ _ _ c.in-Ok.ending c.perform.result _
    (record { tells = before.same_tells; before = before.same_files; now = refl; writes = before.same_writes; writes_now = refl })
    c.perform.ensures.same_reads c.in-Ok.ensures.planned c.perform.ensures.performed

pub returns-in-Err-clause-ran : goal.returns-in-Err-clause-ran
returns-in-Err-clause-ran g c = ran_lacking c.args.words.now _ _ (c.planned.ensures.same_files, λ t. (refl, refl))
