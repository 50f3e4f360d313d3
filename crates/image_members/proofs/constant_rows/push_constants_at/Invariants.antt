use Rattle.std.proofs.Common.{List, drop}
use Rattle.image_members.specs.ConstantRows.{constants_in, constants_at}
use Rattle.image_members.specs.declared.constant_rows.Valued.{Valued}
use Rattle.image_members.proofs.KindLemmas.{Pushing}
use Rattle.image_members.proofs.ConstantLemmas.{constant_kind}
use Rattle.image_members.proofs.constant_rows.push_constants_at.Given as goal

abbrev pub invariant-loop-table : goal.invariant-loop-table
invariant-loop-table l = Pushing constant_kind l.initial.refs l.refs l.initial.rows l.rows ((λ (ts : List Valued). constants_at ts l.place) l.tables) ((λ (ts : List Valued). constants_at ts l.place) (drop l.table-index l.tables))
