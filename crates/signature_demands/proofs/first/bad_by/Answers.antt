use Rattle.std.proofs.Common.{ap, sym, ◌∙◌}
use Rattle.signature_demands.proofs.Finding.{seen_as}
use Rattle.signature_demands.proofs.first.bad_by.Goals as goal

pub new-demand-requires-clause-image : goal.new-demand-requires-clause-image
new-demand-requires-clause-image g c = c.requires.same ∙ sym c.in_ok-all.ensures.image

pub new-demand-requires-clause-members : goal.new-demand-requires-clause-members
new-demand-requires-clause-members g c = rw c.in_ok-all.ensures.image c.requires.members

pub returns : goal.returns
returns g c =
    let d = c.new-demand.result in
    seen_as c.args.image.now d.all.now.image.now (g.O.Owners.facts c.args.owners.now) (g.O.Owners.facts d.all.now.owners.now) (c.new-demand.ensures.image ∙ c.in_ok-all.ensures.image)
    (ap g.O.Owners.facts (c.new-demand.ensures.owners ∙ c.in_ok-all.ensures.owners)) c.first_bad.result c.first_bad.ensures.bad c.first_bad.ensures.none
