use Rattle.std.proofs.Common.{◌≡◌, [], ◌∷◌, length, Some}
use Rattle.assembly_tree.specs.declared.typedef.TypeDef.TheViews.{out-TypeDef}
use Rattle.code_flow.specs.Methods.{inwards, Nested}
use Rattle.body_verifier.proofs.finding.inner_path.Given as goal

abbrev pub invariant-loop-rest : goal.invariant-loop-rest
invariant-loop-rest l = (t : Nested) → inwards l.places (record { path = (out-TypeDef l.outer).id ∷ []; typedef = l.outer }) ≡ Some t → inwards l.rest (record { path = l.path; typedef = l.inner }) ≡ Some t

abbrev pub decreases-loop-rest : goal.decreases-loop-rest
decreases-loop-rest l = length l.rest
