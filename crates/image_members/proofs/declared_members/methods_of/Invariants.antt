use Rattle.std.proofs.Common.{drop}
use Rattle.image_members.specs.DeclaredMembers.{IsMethodOf, method_bytes, IsMethodDeclarable}
use Rattle.image_members.proofs.DeclaredLemmas.{OwnedTo, method_kept, method_still}
use Rattle.image_members.proofs.declared_members.methods_of.Given as goal

abbrev pub invariant-loop-method : goal.invariant-loop-method
invariant-loop-method l =
    OwnedTo IsMethodOf method_bytes method_kept IsMethodDeclarable method_still l.row l.initial.refs l.refs l.initial.rows l.rows l.methods (drop l.method-index l.methods)
