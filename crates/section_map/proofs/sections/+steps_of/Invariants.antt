use Rattle.section_map.proofs.sections.+steps_of.Given as goal

abbrev pub decreases-steps_of : goal.decreases-steps_of
decreases-steps_of l = l.count
