use Rattle.std.proofs.Common.{List, drop}
use Rattle.image_members.specs.GenericRows.{generics_in, generics_at}
use Rattle.image_members.specs.declared.generic_rows.Parametric.{Parametric}
use Rattle.image_members.proofs.KindLemmas.{Pushing}
use Rattle.image_members.proofs.GenericLemmas.{generic_kind}
use Rattle.image_members.proofs.generic_rows.push_generics_at.Given as goal

abbrev pub invariant-loop-table : goal.invariant-loop-table
invariant-loop-table l = Pushing generic_kind l.initial.refs l.refs l.initial.rows l.rows ((λ (ts : List Parametric). generics_at ts l.place) l.tables) ((λ (ts : List Parametric). generics_at ts l.place) (drop l.table-index l.tables))
