use Rattle.std.proofs.Common.{drop}
use Rattle.image_members.specs.DeclaredMembers.{IsFieldOf, field_bytes, IsFieldDeclarable}
use Rattle.image_members.proofs.DeclaredLemmas.{OwnedTo, field_kept, field_still}
use Rattle.image_members.proofs.declared_members.fields_of.Given as goal

abbrev pub invariant-loop-field : goal.invariant-loop-field
invariant-loop-field l =
    OwnedTo IsFieldOf field_bytes field_kept IsFieldDeclarable field_still l.row l.initial.refs l.refs l.initial.rows l.rows l.fields (drop l.field-index l.fields)
