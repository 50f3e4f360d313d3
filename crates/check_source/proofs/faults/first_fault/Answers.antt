use Rattle.check_source.proofs.faults.first_fault.Goals as goal

pub first_fault_by-requires-clause-counted : goal.first_fault_by-requires-clause-counted
first_fault_by-requires-clause-counted c = record { counts = c.census_of-census.ensures.counts; long-types = c.census_of-census.ensures.long }
