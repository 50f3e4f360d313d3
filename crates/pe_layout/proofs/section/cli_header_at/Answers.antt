use Rattle.std.proofs.Common.{arith}
use Rattle.std.proofs.lemmas.Bool.Decides.{nat_tests}
use Rattle.pe_layout.specs.CliHeader.{cli_header_of}
use Rattle.pe_layout.specs.Faults.{has_cli_header}
use Rattle.pe_layout.proofs.section.cli_header_at.Goals as goal

pub returns-in_err-bytes-clause-found : goal.returns-in_err-bytes-clause-found
unfolding has_cli_header
returns-in_err-bytes-clause-found c = grind (arith, nat_tests)

pub returns-then-bytes-lt72-clause-found : goal.returns-then-bytes-lt72-clause-found
unfolding has_cli_header
returns-then-bytes-lt72-clause-found c = grind (arith, nat_tests)

pub returns-clause-found : goal.returns-clause-found
unfolding has_cli_header
returns-clause-found c = grind (arith, nat_tests)

pub returns-clause-bytes : goal.returns-clause-bytes
unfolding cli_header_of
returns-clause-bytes c = grind (arith, nat_tests)
