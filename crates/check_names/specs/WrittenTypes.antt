-- Types' names as the code holds them.
use Rattle.std.specs.Prelude.{Option, option_map}
use Rattle.source_model.specs.Names.{Written}
use Rattle.check_names.specs.declared.written.WrittenName.{WrittenName}

abbrev pub written_of : WrittenName → Written
written_of w = record { scope = w.scope; path = w.path }

abbrev pub any_written : Option WrittenName → Option Written
any_written o = option_map written_of o
