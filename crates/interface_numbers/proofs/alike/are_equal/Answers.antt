use Rattle.interface_numbers.proofs.Likening.{one_term}
use Rattle.interface_numbers.proofs.alike.are_equal.Goals as goal

pub returns : goal.returns
returns g c =
    one_term c.args.image.now (g.N.Numbering.canon c.args.numbers.now) c.args.one c.args.other c.blob_of-a.result.now c.blob_of-b.result.now c.same_type.result c.blob_of-a.ensures c.blob_of-b.ensures c.same_type.ensures
