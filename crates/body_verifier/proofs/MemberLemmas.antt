-- What an instruction names tells whether it fits (V10), and whether a pointer to it is allowed (V19).
use Rattle.std.proofs.Common.{◌≡◌, ℕ, zero, suc, Bool, true, not, List, [], ◌∷◌, map, refl, sym, ◌∙◌, ap, subst, Option, None, Some}
use Rattle.std.specs.Prelude.{◌↔◌, IsTrue, slice_get}
use Rattle.std.proofs.lemmas.Option.{same_Some}
use Rattle.type_terms.specs.declared.reference.FieldRef.{FieldRef}
use Rattle.type_terms.specs.declared.term.SigType.{SigType}
use Rattle.assembly_tree.specs.declared.body.Ins.{Ins}
use Rattle.sig_pool.specs.declared.node.Node.{Node}
use Rattle.sig_pool.specs.Terms.{term_of}
use Rattle.stack_rows.specs.declared.frame.CodeFrame.{CodeFrame}
use Rattle.code_flow.specs.declared.operation.Operation.{Operation}
use Rattle.code_flow.specs.declared.operation.Operation.TheVariants as does
use Rattle.code_flow.specs.Frames.{Frame}
use Rattle.body_verifier.specs.Judging.{Misfits, PointsToReference}
use Rattle.body_verifier.specs.MemberTests.{HasOther, is_reference_there, addresses_reference}
use Rattle.type_order.specs.Fields.{fields_meant}
use Rattle.code_flow.specs.Methods.{is_static}
use Rattle.code_flow.specs.Operations.{operation}
use Rattle.stack_rows.specs.RowMeanings.{type_option, MeansFrame}
use Rattle.code_flow.specs.Rows.{variable, argument, local}
use Rattle.code_flow.specs.Rules.{wants_static, MisfitsField, MisfitsMember, is_by_reference, addressed}
use Rattle.code_flow.proofs.PairLemmas.{one_item}

-- ---- fields

pub field_exact : (f : Frame) (o : Operation) (r : FieldRef) (wanted : Bool) → wants_static o ≡ Some wanted
    → HasOther (fields_meant f.image f.types r.owner) r wanted ↔ MisfitsField f o r
field_exact f o r wanted e = (
  λ h. record {
    field = h.field;
    declared = record { here = h.is; name = h.other.name; type = h.other.type };
    wanted = e ∙ ap Some h.other.differs;
  },
  λ m. record {
    field = m.field;
    is = m.declared.here;
    other = record { name = m.declared.name; type = m.declared.type; differs = same_Some wanted (not (is_static m.field)) (sym e ∙ m.wanted) };
  },
)

pub no_field : (f : Frame) (o : Operation) (r : FieldRef) → wants_static o ≡ None → MisfitsField f o r → ⊥
no_field f o r e m = let x : None ≡ Some (not (is_static m.field)) = sym e ∙ m.wanted in cc

-- ---- members

pub member_exact : (f : Frame) (k : ℕ) (i : Ins) → slice_get f.code k ≡ Some i → MisfitsMember f (operation i.op) i.operand ↔ Misfits f k
member_exact f k i is = (
  λ h. record { ins = i; operation = operation i.op; does = record { is = is; does = refl }; misfits = h },
  λ m.
      let same = one_item f.code k k i m.ins refl is m.does.is in
      let P : Ins → Type 0 = λ (z : Ins). MisfitsMember f (operation z.op) z.operand in
      let Q : Operation → Type 0 = λ (o : Operation). MisfitsMember f o m.ins.operand in
      subst P (sym same) (subst Q (sym m.does.does) m.misfits),
)

-- ---- pointers to variables

type_at : (ns : List Node) (ks : List ℕ) (n : ℕ) → type_option ns (slice_get ks n) ≡ slice_get (map (term_of ns) ks) n
type_at ns [] n = refl
type_at ns (k ∷ ks) zero = refl
type_at ns (k ∷ ks) (suc n) = type_at ns ks n

variable_is : (ns : List Node) (ks : List ℕ) (ts : List SigType) (n : ℕ) → map (term_of ns) ks ≡ ts → type_option ns (slice_get ks n) ≡ slice_get ts n
variable_is ns ks ts n e = type_at ns ks n ∙ ap (λ (l : List SigType). slice_get l n) e

there_by : (x : Option SigType) → is_reference_there x ≡ true → (t : SigType) × (x ≡ Some t) × IsTrue (is_by_reference t)
there_by None h = absurd (let z : ⊥ = cc in z)
there_by (Some t) h = (t, refl, h)

module _ (f : Frame) (ns : List Node) (v : CodeFrame) (means : MeansFrame ns v f) where
  argument_is : (i : Ins) → type_option ns (slice_get v.arguments (variable i)) ≡ argument f i
  argument_is i = variable_is ns v.arguments f.arguments (variable i) means.arguments.terms

  local_is : (i : Ins) → type_option ns (slice_get v.locals (variable i)) ≡ local f i
  local_is i = variable_is ns v.locals f.locals (variable i) means.locals.terms

  points_to : (k : ℕ) (i : Ins) → slice_get f.code k ≡ Some i → (o : Operation) → operation i.op ≡ o → addresses_reference ns v (variable i) o ≡ true → PointsToReference f k
  points_to k i is does.ArgumentAddress d h =
      let r = there_by (argument f i) (ap is_reference_there (sym (argument_is i)) ∙ h) in
      record { ins = i; operation = does.ArgumentAddress; type = r.0; does = record { is = is; does = d }; addressed = r.1; by_reference = r.2 }
  points_to k i is does.LocalAddress d h =
      let r = there_by (local f i) (ap is_reference_there (sym (local_is i)) ∙ h) in
      record { ins = i; operation = does.LocalAddress; type = r.0; does = record { is = is; does = d }; addressed = r.1; by_reference = r.2 }
  points_to k i is o d h = absurd (let z : ⊥ = cc in z)

  to_points : (i : Ins) (t : SigType) (o : Operation) → addressed f i o ≡ Some t → is_by_reference t ≡ true → addresses_reference ns v (variable i) o ≡ true
  to_points i t does.ArgumentAddress e b = ap is_reference_there (argument_is i ∙ e) ∙ b
  to_points i t does.LocalAddress e b = ap is_reference_there (local_is i ∙ e) ∙ b
  to_points i t o e b = absurd (let z : ⊥ = cc in z)

  pub points_exact : (k : ℕ) (i : Ins) → slice_get f.code k ≡ Some i → IsTrue (addresses_reference ns v (variable i) (operation i.op)) ↔ PointsToReference f k
  points_exact k i is = (
    λ h. points_to k i is (operation i.op) refl h,
    λ p.
        let same = one_item f.code k k i p.ins refl is p.does.is in
        let P : Ins → Type 0 = λ (z : Ins). addresses_reference ns v (variable z) (operation z.op) ≡ true in
        let Q : Operation → Type 0 = λ (o : Operation). addresses_reference ns v (variable p.ins) o ≡ true in
        subst P (sym same) (subst Q (sym p.does.does) (to_points p.ins p.type p.operation p.addressed p.by_reference)),
  )
