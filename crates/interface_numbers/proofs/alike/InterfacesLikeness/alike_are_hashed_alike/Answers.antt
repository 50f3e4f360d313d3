use Rattle.std.specs.Prelude.{slice_index}
use Rattle.interface_numbers.proofs.Likening.{hashed_alike}
use Rattle.interface_numbers.proofs.alike.InterfacesLikeness.alike_are_hashed_alike.Goals as goal

pub returns : goal.returns
returns g c = λ one other x y within there same a b.
    hashed_alike c.args.self.now.image.now (g.O.Owners.facts c.args.self.now.facts.now) (g.N.Numbering.canon c.args.self.now.numbers.now) c.requires.0 c.blob_is_computed.ensures
    (slice_index c.args.self.now.heads.now one) (slice_index c.args.self.now.heads.now other) x y same a b
