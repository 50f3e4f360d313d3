use Rattle.std.proofs.Common.{drop}
use Rattle.image_rows.proofs.MethodRowLemmas.{MethodsTo}
use Rattle.image_rows.proofs.method_rows.push_methods.Given as goal

abbrev pub invariant-loop-method : goal.invariant-loop-method
invariant-loop-method l = MethodsTo l.params l.refs l.initial.rows l.rows l.place l.param l.bodies l.methods (drop l.method-index l.methods)
