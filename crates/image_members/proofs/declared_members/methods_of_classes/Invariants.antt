use Rattle.std.proofs.Common.{drop}
use Rattle.image_members.specs.DeclaredMembers.{class_methods, IsMethodOf, method_bytes, IsMethodDeclarable}
use Rattle.image_members.proofs.DeclaredLemmas.{ClassesTo, method_kept, method_still}
use Rattle.image_members.proofs.declared_members.methods_of_classes.Given as goal

abbrev pub invariant-loop-class : goal.invariant-loop-class
invariant-loop-class l =
    ClassesTo IsMethodOf method_bytes method_kept IsMethodDeclarable method_still class_methods l.row l.initial.refs l.refs l.initial.rows l.rows l.classes (drop l.class-index l.classes)
