use Rattle.std.proofs.Common.{drop}
use Rattle.image_rows.proofs.TypeRowLemmas.{TypesTo}
use Rattle.image_rows.proofs.type_rows.push_types.Given as goal

abbrev pub invariant-loop-class : goal.invariant-loop-class
invariant-loop-class l =
    TypesTo l.counts.fields l.counts.methods l.initial.field l.initial.method l.initial.refs l.refs l.initial.rows l.rows l.place l.field l.method l.classes (drop l.class-index l.classes)
