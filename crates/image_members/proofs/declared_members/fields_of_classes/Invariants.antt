use Rattle.std.proofs.Common.{drop}
use Rattle.image_members.specs.DeclaredMembers.{class_fields, IsFieldOf, field_bytes, IsFieldDeclarable}
use Rattle.image_members.proofs.DeclaredLemmas.{ClassesTo, field_kept, field_still}
use Rattle.image_members.proofs.declared_members.fields_of_classes.Given as goal

abbrev pub invariant-loop-class : goal.invariant-loop-class
invariant-loop-class l =
    ClassesTo IsFieldOf field_bytes field_kept IsFieldDeclarable field_still class_fields l.row l.initial.refs l.refs l.initial.rows l.rows l.classes (drop l.class-index l.classes)
