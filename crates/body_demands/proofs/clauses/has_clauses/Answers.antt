use Rattle.std.proofs.Common.{refl, not}
use Rattle.body_demands.proofs.Meeting.{clauses_tell}
use Rattle.body_demands.proofs.clauses.has_clauses.Goals as goal

pub returns : goal.returns
returns c =
    clauses_tell c.args.image.now c.args.states.now c.args.row _ c.fails_clauses.result (not c.fails_clauses.result) c.requires.asked c.requires.there c.fails_clauses.ensures refl
