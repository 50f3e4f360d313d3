-- Methods that are overridden.
use Rattle.std.proofs.Common.{◌≡◌, List, ℕ, None, ap, sym, ◌∙◌}
use Rattle.std.specs.Prelude.{Bool, true, false, ◌==◌, if◌then◌else◌}
use Rattle.type_terms.specs.declared.reference.MethodRef.{MethodRef}
use Rattle.type_terms.specs.declared.reference.MethodSig.{MethodSig}
use Rattle.type_terms.specs.declared.term.Owner.{Owner}
use Rattle.ilasm_grammar.specs.declared.productions.TheConstants.{METHOD_REF, OVERRIDDEN_METHOD}
use Rattle.source_model.specs.Forest.{Forest, Part, the}
use Rattle.source_model.specs.Members.{overridden}
use Rattle.source_model.specs.Nodes.{Around}
use Rattle.source_model.specs.References.{method_name, method_ref, method_signature}
use Rattle.source_model.specs.Source.{Source}
use Rattle.source_model.specs.Types.{the_owner}

abbrev made : Owner → List ℕ → MethodSig → MethodRef
made owner name sig = record { owner = owner; name = name; sig = sig; args = None }

module _ (s : Source) (a : Around) (f : Forest) (p : Part) where
  abbrev chosen : Bool → MethodRef
  chosen c = if c then method_ref s a (the METHOD_REF p.below) else made (the_owner s a p.below) (method_name s p.below) (method_signature s a f)

  pub is_whole : (p.production == OVERRIDDEN_METHOD) ≡ true → method_ref s a (the METHOD_REF p.below) ≡ overridden s a f p
  is_whole e = sym (ap chosen e)

  pub is_named : (p.production == OVERRIDDEN_METHOD) ≡ false → (owner : Owner) (name : List ℕ) (sig : MethodSig) → owner ≡ the_owner s a p.below
      → name ≡ method_name s p.below → sig ≡ method_signature s a f → made owner name sig ≡ overridden s a f p
  is_named e owner name sig o n g =
      ap (λ x. made x name sig) o ∙ ap (λ x. made (the_owner s a p.below) x sig) n ∙ ap (made (the_owner s a p.below) (method_name s p.below)) g
      ∙ sym (ap chosen e)
