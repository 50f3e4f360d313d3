use Rattle.std.proofs.Common.{◌≡◌, ap, sym, refl, ◌∙◌}
use Rattle.std.specs.Prelude.{true}
use Rattle.std.specs.List.{flat_map}
use Rattle.source_model.specs.BodyFaults.{clause_backwards}
use Rattle.source_model.specs.Forest.{none, preorder}
use Rattle.source_nodes.specs.Least.{least}
use Rattle.check_bodies.specs.PlainBodies.{is_plain}
use Rattle.check_bodies.proofs.BodyLemmas.{none_guarded}
use Rattle.check_bodies.proofs.bodies.clause_fault.Goals as goal

pub returns-then-plain : goal.returns-then-plain
returns-then-plain c s n r m e plain =
    let is : is_plain (preorder n.below) ≡ true = ap is_plain e ∙ plain c.if-plain.true in
    sym (ap (λ gs. least (flat_map (clause_backwards s n) gs)) (none_guarded none n.below is))

pub returns : goal.returns
returns c s n r m e plain =
    c.first_backwards.ensures s n none n.below r (c.in_ok-places.ensures s n r m e) tt m.bodies refl e
