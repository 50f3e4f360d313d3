use Rattle.il_base.proofs.Places.{packed-at, packed_signed-at}
use Rattle.il_base.proofs.laws.one_packed_stands_at_a_place.Goals as goal

pub returns-clause-packed : goal.returns-clause-packed
returns-clause-packed c = packed-at

pub returns-clause-signed : goal.returns-clause-signed
returns-clause-signed c = packed_signed-at
