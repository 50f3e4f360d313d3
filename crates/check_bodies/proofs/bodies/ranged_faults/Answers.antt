use Rattle.check_bodies.proofs.bodies.ranged_faults.Goals as goal

pub returns : goal.returns
returns c s n r m e are =
    let known = c.in_ok-variables.ensures s n r m e are in
    record { variable-is = c.in_ok-variable.ensures s n r m are known; number-is = c.in_ok-number.ensures s n r m are known }
