use Rattle.il_shrink.proofs.Formed.{assembly_formed}
use Rattle.il_shrink.proofs.Results.{on_ok}
use Rattle.il_shrink.proofs.Sums.{weight_same, room_same}
use Rattle.il_shrink.proofs.assemblies.shrink_in_place.Goals as goal

pub returns-clause-formed : goal.returns-clause-formed
returns-clause-formed c =
    on_ok c.shrink_bodies.result (λ h. assembly_formed c.args.a.now c.shrink_bodies.new.a h c.requires) c.shrink_bodies.ensures

pub returns-clause-weight : goal.returns-clause-weight
returns-clause-weight c = on_ok c.shrink_bodies.result (λ h. weight_same c.args.a.now c.shrink_bodies.new.a h) c.shrink_bodies.ensures

pub returns-clause-room : goal.returns-clause-room
returns-clause-room c = on_ok c.shrink_bodies.result (λ h. room_same c.args.a.now c.shrink_bodies.new.a h) c.shrink_bodies.ensures
