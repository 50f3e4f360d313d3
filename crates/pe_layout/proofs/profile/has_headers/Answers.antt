use Rattle.std.proofs.Common.{arith}
use Rattle.std.proofs.lemmas.Bool.Decides.{nat_tests}
use Rattle.pe_layout.specs.Faults.{has_headers}
use Rattle.pe_layout.proofs.profile.has_headers.Goals as goal

pub returns-then-file-lt64-clause-value : goal.returns-then-file-lt64-clause-value
unfolding has_headers
returns-then-file-lt64-clause-value c = grind (arith, nat_tests)

pub returns-then-file-signature-clause-value : goal.returns-then-file-signature-clause-value
unfolding has_headers
returns-then-file-signature-clause-value c = grind (arith, nat_tests)

pub returns-clause-value : goal.returns-clause-value
unfolding has_headers
returns-clause-value c = grind (arith, nat_tests)
