-- Owners that tie in the order of owners are one.
use Rattle.std.proofs.Common.{◌≡◌, ◌∙◌, ap, sym, refl}
use Rattle.std.specs.declared.cmp.Ordering.{Ordering}
use Rattle.std.specs.declared.cmp.Ordering.TheVariants.{Less, Equal, Greater}
use Rattle.std.specs.Ordering.{is_eq, nat_cmp, ordering_then}
use Rattle.type_terms.specs.Order.{place, fields_order, name_order, owner_step, term_step, term_order, owner_order, owner_layers}
use Rattle.type_terms.specs.Same.{is_same_type}
use Rattle.type_terms.specs.declared.name.TypeName.{TypeName}
use Rattle.type_terms.specs.declared.term.Owner.{Owner}
use Rattle.type_terms.specs.declared.term.Owner.TheVariants as owner
use Rattle.type_terms.specs.declared.term.Owner.TheOpen as layer
use Rattle.type_terms.specs.declared.term.SigType.{SigType, out-SigType}
use Rattle.type_terms.specs.declared.term.SigType.TheVariants as type
use Rattle.type_terms.proofs.Layers.{fold-Name, fold-Spec, fold-Class}
use Rattle.type_terms.proofs.SameLaws.{equal_types}

type_tie : (s t : SigType) → term_order s t ≡ Equal → s ≡ t
type_tie s t e = (equal_types s t (is_same_type s t) refl).0 (ap is_eq e)

names_order : (n m : TypeName) → owner_order (owner.Name n) (owner.Name m) ≡ name_order n m
names_order n m =
    ap (λ (f : Owner → Ordering). f (owner.Name m)) (fold-Name (Owner → Ordering) (SigType → Ordering) owner_step term_step n) ∙ ap (owner_layers (layer.Name n)) (owner.outs-Name m)

classes_order : (n m : TypeName) → term_order (type.Class n) (type.Class m) ≡ name_order n m
classes_order n m =
    ap (λ (f : SigType → Ordering). f (type.Class m)) (fold-Class (Owner → Ordering) (SigType → Ordering) owner_step term_step n)
    ∙ ap (λ (l : layer.SigType-F Owner SigType). ordering_then (nat_cmp 1 (place l)) (fields_order (layer.Class n) l)) (type.outs-Class m)

specs_order : (s t : SigType) → owner_order (owner.Spec s) (owner.Spec t) ≡ term_order s t
specs_order s t =
    ap (λ (f : Owner → Ordering). f (owner.Spec t)) (fold-Spec (Owner → Ordering) (SigType → Ordering) owner_step term_step s) ∙ ap (owner_layers (layer.Spec (term_order s))) (owner.outs-Spec t)

name_spec : (n : TypeName) (t : SigType) → owner_order (owner.Name n) (owner.Spec t) ≡ Less
name_spec n t =
    ap (λ (f : Owner → Ordering). f (owner.Spec t)) (fold-Name (Owner → Ordering) (SigType → Ordering) owner_step term_step n) ∙ ap (owner_layers (layer.Name n)) (owner.outs-Spec t)

spec_name : (s : SigType) (n : TypeName) → owner_order (owner.Spec s) (owner.Name n) ≡ Greater
spec_name s n =
    ap (λ (f : Owner → Ordering). f (owner.Name n)) (fold-Spec (Owner → Ordering) (SigType → Ordering) owner_step term_step s) ∙ ap (owner_layers (layer.Spec (term_order s))) (owner.outs-Name n)

class_name : (n m : TypeName) → type.Class n ≡ type.Class m → n ≡ m
class_name n m e =
    let f : layer.Class n ≡ layer.Class m = sym (type.outs-Class n) ∙ ap out-SigType e ∙ type.outs-Class m in
    cc

pub owner_tie : (a b : Owner) → owner_order a b ≡ Equal → a ≡ b
owner_tie (owner.Name n) (owner.Name m) e = ap owner.Name (class_name n m (type_tie (type.Class n) (type.Class m) (classes_order n m ∙ sym (names_order n m) ∙ e)))
owner_tie (owner.Name n) (owner.Spec t) e = absurd (let f = sym (name_spec n t) ∙ e in cc)
owner_tie (owner.Spec s) (owner.Name m) e = absurd (let f = sym (spec_name s m) ∙ e in cc)
owner_tie (owner.Spec s) (owner.Spec t) e = ap owner.Spec (type_tie s t (sym (specs_order s t) ∙ e))
