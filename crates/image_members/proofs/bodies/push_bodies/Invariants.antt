use Rattle.std.proofs.Common.{drop}
use Rattle.std.specs.Prelude.{map}
use Rattle.image_members.specs.CodeBytes.{body_of}
use Rattle.image_members.specs.Places.{lent}
use Rattle.image_members.proofs.CodeLemmas.{BodiesTo}
use Rattle.image_members.proofs.bodies.push_bodies.Given as goal

abbrev pub invariant-loop-method : goal.invariant-loop-method
invariant-loop-method l = BodiesTo l.initial.refs l.refs l.initial.code l.code l.rvas (map body_of (lent l.methods)) (map body_of (lent (drop l.method-index l.methods)))
