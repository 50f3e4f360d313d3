use Rattle.cases_reader.proofs.counts.+add_types.Given as goal

abbrev pub decreases-add_types : goal.decreases-add_types
decreases-add_types l = l.levels
