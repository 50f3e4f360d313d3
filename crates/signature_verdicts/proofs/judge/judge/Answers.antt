use Rattle.std.proofs.Common.{sym, ◌∙◌}
use Rattle.signature_verdicts.proofs.Verdicts.{judged_found, judged_lacks}
use Rattle.signature_verdicts.proofs.judge.judge.Goals as goal

pub returns-in-None : goal.returns-in-None
returns-in-None g c = sym (judged_lacks c.args.image.now (g.O.Owners.facts c.args.owners.now) c.args.kind c.args.index (rw c.blobs.ensures at c.in-None.ensures.none))

pub returns-in-Some : goal.returns-in-Some
returns-in-Some g c =
    c.judge_blob.ensures ∙ sym (judged_found c.args.image.now (g.O.Owners.facts c.args.owners.now) c.args.kind c.args.index c.in-Some.blob.now (rw c.blobs.ensures at c.in-Some.ensures.found))
