use Rattle.std.proofs.Common.{arith}
use Rattle.std.proofs.lemmas.Bool.Decides.{nat_tests}
use Rattle.pe_layout.specs.Faults.{is_in_profile}
use Rattle.pe_layout.proofs.profile.is_in_profile.Goals as goal

pub returns-then-u16_at-ne332-clause-value : goal.returns-then-u16_at-ne332-clause-value
unfolding is_in_profile
returns-then-u16_at-ne332-clause-value c = grind (arith, nat_tests)

pub returns-then-directories-ge-LEAST_DIRECTORIES-clause-value : goal.returns-then-directories-ge-LEAST_DIRECTORIES-clause-value
unfolding is_in_profile
returns-then-directories-ge-LEAST_DIRECTORIES-clause-value c = grind (arith, nat_tests)

pub returns-else-directories-ge-LEAST_DIRECTORIES-clause-value : goal.returns-else-directories-ge-LEAST_DIRECTORIES-clause-value
unfolding is_in_profile
returns-else-directories-ge-LEAST_DIRECTORIES-clause-value c = grind (arith, nat_tests)
