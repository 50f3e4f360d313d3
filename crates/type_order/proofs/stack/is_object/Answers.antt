use Rattle.std.proofs.Common.{◌≡◌, sym, ◌∙◌, ap, Some, rules}
use denote.Enum.Bare.{same_true}
use Rattle.type_terms.specs.contracts.term.Primitive.{the_type}
use Rattle.type_terms.specs.declared.term.Primitive.TheVariants as prim
use Rattle.type_hierarchy.proofs.Climbing.{none_some}
use Rattle.type_order.proofs.FitLemmas.{object_is, object_primitive}
use Rattle.type_order.proofs.stack.is_object.Goals as goal

pub returns-in-Some : goal.returns-in-Some
returns-in-Some c = (
  λ h. object_is _ (sym c.primitive.ensures ∙ c.in-Some.is ∙ ap Some (same_true the_type (search rules) _ _ (sym c.eq.ensures ∙ h))),
  λ e.
      let q : Some c.in-Some.prim ≡ Some prim.Object = sym c.in-Some.is ∙ c.primitive.ensures ∙ object_primitive _ e in
      let same : c.in-Some.prim ≡ prim.Object = cc in
      rw same at c.eq.ensures,
)

pub returns-in-None : goal.returns-in-None
returns-in-None c = (λ h. absurd (let f : ⊥ = cc in f), λ e. absurd (none_some (sym c.primitive.ensures ∙ c.in-None.is) (object_primitive _ e)))
