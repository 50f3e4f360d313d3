use Rattle.std.proofs.Common.{drop}
use Rattle.image_rows.proofs.InterfaceLemmas.{InterfacesTo}
use Rattle.image_rows.proofs.interface_rows.push_all_interfaces.Given as goal

abbrev pub invariant-loop-class : goal.invariant-loop-class
invariant-loop-class l = InterfacesTo l.row l.initial.refs l.refs l.initial.rows l.rows l.classes (drop l.class-index l.classes)
