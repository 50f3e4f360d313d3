use Rattle.std.proofs.Common.{ap}
use Rattle.std.specs.Prelude.{not, ◌==◌}
use Rattle.source_model.specs.Flags.{type_flags}
use Rattle.source_flags.proofs.FlagLemmas.{bit_of_low}
use Rattle.source_flags.proofs.declared_flags.is_interface.Goals as goal

pub returns : goal.returns
returns c s f r e = ap (λ n. not (n == 0)) (bit_of_low (type_flags s f) c.type_flags.result (c.type_flags.ensures.low s f r e))
