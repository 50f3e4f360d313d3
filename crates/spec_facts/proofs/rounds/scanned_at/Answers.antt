use Rattle.std.proofs.Common.{sym, ◌∙◌}
use Rattle.spec_facts.proofs.Blobs.{scanned_some, scanned_none}
use Rattle.spec_facts.proofs.rounds.scanned_at.Goals as goal

pub returns-in_err-blob : goal.returns-in_err-blob
returns-in_err-blob g c = rw c.from_residual.ensures (sym (scanned_none c.args.image.now (g.O.Owners.facts c.args.owners.now) c.args.index (rw c.blobs.ensures at c.in_err-blob.ensures.none)))

pub returns : goal.returns
returns g c =
    c.scan_type.ensures.steps ∙ sym (scanned_some c.args.image.now (g.O.Owners.facts c.args.owners.now) c.args.index c.in_ok-blob.blob.now (rw c.blobs.ensures at c.in_ok-blob.ensures.found))
