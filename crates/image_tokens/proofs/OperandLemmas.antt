-- What an instruction names and what a clause catches, by their variants.
use Rattle.std.proofs.Common.{◌≡◌, ap, sym, subst, ℕ, List, arith}
use Rattle.assembly_tree.specs.Weight.{owner_weight, method_ref_weight, field_ref_weight, handled_weight}
use Rattle.assembly_tree.specs.declared.body.ClauseKind.{ClauseKind}
use Rattle.assembly_tree.specs.declared.body.ClauseKind.TheVariants as kind
use Rattle.assembly_tree.specs.declared.body.Operand.{Operand}
use Rattle.assembly_tree.specs.declared.body.Operand.TheVariants as operand
use Rattle.type_terms.specs.declared.reference.FieldRef.{FieldRef}
use Rattle.type_terms.specs.declared.reference.MethodRef.{MethodRef}
use Rattle.type_terms.specs.declared.term.Owner.{Owner}
use Rattle.image_tokens.specs.BodyTokens.{HasOperandToken, HasHandledToken, Notes}
use Rattle.image_tokens.specs.Members.{Leaves, HasField, HasMethod, HasLoaded}
use Rattle.image_tokens.specs.NamesWeight.{named_weight}
use Rattle.image_tokens.specs.Noted.{IsOwned}
use Rattle.image_tokens.specs.declared.references.References.{References}
use Rattle.image_tokens.proofs.BodyLemmas.{owner_noted, noted}

-- ---- weights

pub weight_of_method : (o : Operand) (m : MethodRef) → o ≡ operand.Method m → named_weight o ≡ method_ref_weight m
unfolding named_weight
weight_of_method o m e = ap named_weight e

pub weight_of_field : (o : Operand) (f : FieldRef) → o ≡ operand.Field f → named_weight o ≡ field_ref_weight f
unfolding named_weight
weight_of_field o f e = ap named_weight e

pub weight_of_owner : (o : Operand) (x : Owner) → o ≡ operand.Of x → named_weight o ≡ owner_weight x
unfolding named_weight
weight_of_owner o x e = ap named_weight e

pub weight_of_caught : (k : ClauseKind) (x : Owner) → k ≡ kind.Catch x → handled_weight k ≡ owner_weight x
unfolding handled_weight
weight_of_caught k x e = ap handled_weight e

-- ---- tokens

module _ (a b : References) (o : Operand) where
  to_operand : (x : Operand) → o ≡ x → Notes (λ r. HasOperandToken r x) a b (named_weight o) → Notes (λ r. HasOperandToken r o) a b (named_weight o)
  to_operand x e h = subst (λ (y : Operand). Notes (λ r. HasOperandToken r y) a b (named_weight o)) (sym e) h

  pub method_noted : (m : MethodRef) (token : ℕ) → o ≡ operand.Method m → Leaves (HasMethod m) a b (method_ref_weight m) token → Notes (λ r. HasOperandToken r o) a b (named_weight o)
  method_noted m token e h =
      let weighs = weight_of_method o m e in
      to_operand (operand.Method m) e (noted (HasMethod m) a b (method_ref_weight m) token (named_weight o) h (omega arith))

  pub field_noted : (f : FieldRef) (token : ℕ) → o ≡ operand.Field f → Leaves (HasField f) a b (field_ref_weight f) token → Notes (λ r. HasOperandToken r o) a b (named_weight o)
  field_noted f token e h =
      let weighs = weight_of_field o f e in
      to_operand (operand.Field f) e (noted (HasField f) a b (field_ref_weight f) token (named_weight o) h (omega arith))

  pub of_noted : (x : Owner) (token : ℕ) → o ≡ operand.Of x → IsOwned a b x token → Notes (λ r. HasOperandToken r o) a b (named_weight o)
  of_noted x token e h = to_operand (operand.Of x) e (owner_noted a b x token (named_weight o) h (weight_of_owner o x e))

  pub text_noted : (units : List ℕ) (token : ℕ) → o ≡ operand.Text units → Leaves (HasLoaded units) a b 0 token → Notes (λ r. HasOperandToken r o) a b (named_weight o)
  text_noted units token e h = to_operand (operand.Text units) e (noted (HasLoaded units) a b 0 token (named_weight o) h (omega arith))

pub caught_noted : (a b : References) (k : ClauseKind) (x : Owner) (token : ℕ) → k ≡ kind.Catch x → IsOwned a b x token → Notes (λ r. HasHandledToken r k) a b (handled_weight k)
caught_noted a b k x token e h =
    subst (λ (y : ClauseKind). Notes (λ r. HasHandledToken r y) a b (handled_weight k)) (sym e) (owner_noted a b x token (handled_weight k) h (weight_of_caught k x e))
