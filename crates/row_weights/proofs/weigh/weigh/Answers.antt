use Rattle.std.proofs.Common.{sym, ◌∙◌}
use Rattle.row_weights.proofs.Weighing.{weighed_found, weighed_lacks}
use Rattle.row_weights.proofs.weigh.weigh.Goals as goal

pub returns-in-None : goal.returns-in-None
returns-in-None g c = sym (weighed_lacks c.args.image.now (g.O.Owners.facts c.args.owners.now) c.args.kind c.args.index (rw c.blobs.ensures at c.in-None.ensures.none))

pub returns-in-Some : goal.returns-in-Some
returns-in-Some g c =
    c.weigh_blob.ensures ∙ sym (weighed_found c.args.image.now (g.O.Owners.facts c.args.owners.now) c.args.kind c.args.index c.in-Some.blob.now (rw c.blobs.ensures at c.in-Some.ensures.found))
