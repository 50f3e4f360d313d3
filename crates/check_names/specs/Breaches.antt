-- What is broken, as the code holds it.
use Rattle.std.specs.Prelude.{Option, option_map}
use Rattle.source_model.specs.Faults.{Broken}
use Rattle.check_names.specs.declared.merging.Breach.{Breach}

abbrev pub broken_of : Breach → Broken
broken_of b = record { token = b.token; rule = b.rule }

abbrev pub any_broken : Option Breach → Option Broken
any_broken o = option_map broken_of o
