use Rattle.std.proofs.Common.{◌≡◌}
use Rattle.type_order.specs.OwnTypes.{variables}
use Rattle.class_faces.proofs.declaring.own_parameters.Given as goal

abbrev pub invariant-loop-k : goal.invariant-loop-k
invariant-loop-k l = l.parameters ≡ variables 0 l.k
