use Rattle.std.proofs.Common.{ap}
use Rattle.std.specs.Prelude.{not, ◌==◌, bit_and}
use Rattle.elaborate.proofs.class_heads.is_interface.Goals as goal

pub returns : goal.returns
returns c s f e = ap (λ n. not (bit_and n 0x20 == 0)) e
