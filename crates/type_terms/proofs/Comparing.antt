-- The order of the fields of two instances, from that of their heads and that of their arguments.
use Rattle.std.proofs.Common.{◌≡◌, ap, refl, sym, ◌∙◌, Bool, List, [], ◌∷◌, map}
use Rattle.std.specs.declared.cmp.Ordering.{Ordering}
use Rattle.std.specs.declared.cmp.Ordering.TheVariants.{Less, Equal, Greater}
use Rattle.std.specs.Ordering.{ordering_then, bool_cmp}
use Rattle.std.specs.Cmp.Lexicographic.{slice_cmp}
use Rattle.type_terms.specs.declared.name.TypeName.{TypeName}
use Rattle.type_terms.specs.declared.term.SigType.{SigType}
use Rattle.type_terms.specs.declared.term.SigType.TheVariants as t
use Rattle.type_terms.specs.Order.{name_order, term_order, term_fields}

pub slice_cmp_map : {A B : Type 0} (R : A → B → Ordering) (xs : List A) (ys : List B) → slice_cmp (λ f y. f y) (map R xs) ys ≡ slice_cmp R xs ys
slice_cmp_map R [] [] = refl
slice_cmp_map R [] (y ∷ ys) = refl
slice_cmp_map R (x ∷ xs) [] = refl
slice_cmp_map R (x ∷ xs) (y ∷ ys) = ap (ordering_then (R x y)) (slice_cmp_map R xs ys)

then_assoc : (r s u : Ordering) → ordering_then (ordering_then r s) u ≡ ordering_then r (ordering_then s u)
then_assoc Less s u = refl
then_assoc Equal s u = refl
then_assoc Greater s u = refl

pub inst_fields : (v w : Bool) (n m : TypeName) (xs ys : List SigType) → ordering_then (bool_cmp v w) (name_order n m) ≡ Equal → slice_cmp term_order xs ys ≡ term_fields (t.Inst v n xs) (t.Inst w m ys)
inst_fields v w n m xs ys e =
    let args : Ordering = slice_cmp (λ a y. a y) (map term_order xs) ys in
    let head : ordering_then (bool_cmp v w) (ordering_then (name_order n m) args) ≡ args =
    sym (then_assoc (bool_cmp v w) (name_order n m) args) ∙ ap (λ r. ordering_then r args) e in
    rw (t.outs-Inst v n xs, t.outs-Inst w m ys) (sym (head ∙ slice_cmp_map term_order xs ys))
