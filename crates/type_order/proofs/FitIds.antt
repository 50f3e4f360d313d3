-- Which values of a pool fit, where they are equal or a boxed value is wanted.
use Rattle.std.proofs.Common.{◌≡◌, ◌↔◌, refl, sym, ◌∙◌, ap, subst, ℕ, not, List, IsTrue}
use Rattle.sig_pool.specs.declared.node.Node.{Node}
use Rattle.sig_pool.specs.Terms.{term_of}
use Rattle.type_hierarchy.specs.declared.stack_type.StackType.{StackType}
use Rattle.type_hierarchy.specs.declared.stack_type.StackType.TheVariants.{I4, I8, N, F, Null, Ref, Boxed, Val, Ptr, Bad}
use Rattle.type_order.specs.Answers.{is_bad}
use Rattle.type_hierarchy.specs.Hierarchy.{Hierarchy}
use Rattle.type_order.specs.Joining.{is_null}
use Rattle.type_hierarchy.specs.Meaning.{meant}
use Rattle.type_hierarchy.specs.Relations.{Assignable, null_boxed}
use Rattle.type_hierarchy.specs.Stack as stack
use Rattle.type_order.proofs.FitLemmas.{equal_fits, boxed_kind}
use Rattle.type_order.proofs.JoinIds.{null_is, stack_null, null_meant}

not_bad : (ns : List Node) (s : StackType) → IsTrue (not (is_bad s)) ↔ (meant ns s ≡ stack.bad → ⊥)
not_bad ns Bad = (λ h. absurd (let f : ⊥ = cc in f), λ f. absurd (f refl))
not_bad ns I4 = (λ h e. let f : ⊥ = cc in f, λ f. refl)
not_bad ns I8 = (λ h e. let f : ⊥ = cc in f, λ f. refl)
not_bad ns N = (λ h e. let f : ⊥ = cc in f, λ f. refl)
not_bad ns F = (λ h e. let f : ⊥ = cc in f, λ f. refl)
not_bad ns Null = (λ h e. let f : ⊥ = cc in f, λ f. refl)
not_bad ns (Ref k) = (λ h e. let f : ⊥ = cc in f, λ f. refl)
not_bad ns (Boxed k) = (λ h e. let f : ⊥ = cc in f, λ f. refl)
not_bad ns (Val k) = (λ h e. let f : ⊥ = cc in f, λ f. refl)
not_bad ns (Ptr k) = (λ h e. let f : ⊥ = cc in f, λ f. refl)

pub equal_ids : (w : Hierarchy) (ns : List Node) (s t : StackType) → meant ns s ≡ meant ns t → IsTrue (not (is_bad s)) ↔ Assignable w (meant ns s) (meant ns t)
equal_ids w ns s t e = equal_fits w (meant ns s) (meant ns t) (not (is_bad s)) e (not_bad ns s)

pub null_fits : (w : Hierarchy) (ns : List Node) (s t : StackType) (k : ℕ) → t ≡ Boxed k → (meant ns s ≡ meant ns t → ⊥) → IsTrue (is_null s) ↔ Assignable w (meant ns s) (meant ns t)
null_fits w ns s t k e apart = (to, back)
  where
    to : IsTrue (is_null s) → Assignable w (meant ns s) (meant ns t)
    to h = subst (λ (x : StackType). Assignable w (meant ns s) (meant ns x)) (sym e) (subst (λ (x : StackType). Assignable w (meant ns x) (meant ns (Boxed k))) (sym (null_is s h)) null_boxed)

    back : Assignable w (meant ns s) (meant ns t) → IsTrue (is_null s)
    back a =
        let b : Assignable w (meant ns s) (stack.boxed (term_of ns k)) = subst (λ (x : StackType). Assignable w (meant ns s) (meant ns x)) e a in
        let n : meant ns s ≡ stack.null = boxed_kind w (λ h. apart (h ∙ sym (ap (meant ns) e))) b in
        sym (null_meant ns s) ∙ ap stack_null n
