use Rattle.std.proofs.Common.{◌≡◌, subst, sym}
use Rattle.std.specs.Prelude.{IfOk}
use Rattle.source_nodes.specs.Derived.{FitsBody}
use Rattle.check_members.specs.MemberKinds.{production_of, unbroken_member}
use Rattle.check_members.proofs.member_reading.Signatures.member.Goals as goal

pub returns-in-Method : goal.returns-in-Method
returns-in-Method g c s a f v r p h e fits bodies =
    subst (λ k. IfOk c.method.result (λ m. m ≡ unbroken_member s a k f)) (sym c.in-Method.is) (c.method.ensures s a f v r p h e bodies)

pub returns-in-Event : goal.returns-in-Event
returns-in-Event g c s a f v r p h e fits bodies =
    subst (λ k. IfOk c.event.result (λ m. m ≡ unbroken_member s a k f)) (sym c.in-Event.is)
    (c.event.ensures s a f r e (subst (λ k. FitsBody s (production_of k) f) c.in-Event.is fits))
