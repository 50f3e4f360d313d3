-- Types and signatures are the same whichever way they are asked.
use Rattle.std.proofs.Common.{◌≡◌, ℕ, ◌==◌, ◌&&◌, Bool, true, false, inl, inr, List, [], ◌∷◌, Option, None, Some, refl, ap, sym, ◌∙◌}
use Rattle.std.proofs.lemmas.Bool.{cases_Bool, false≢true}
use Rattle.std.proofs.lemmas.Bool.Decides.{Decides-eqb}
use Rattle.std.specs.Bool.{beq}
use Rattle.std.specs.Cmp.{IsTotalOrder}
use Rattle.std.specs.Ordering.{is_eq, ordering_reverse}
use Rattle.std.specs.declared.cmp.Ordering.{Ordering}
use Rattle.std.specs.declared.cmp.Ordering.TheVariants.{Less, Equal, Greater}
use lib.Pointwise.{pointwise}
use Rattle.type_terms.specs.Order.{term_order}
use Rattle.type_terms.specs.Same as terms
use Rattle.type_terms.specs.Same.{is_same_type, is_same_sentinel, is_same_signature}
use Rattle.type_terms.specs.declared.reference.MethodSig.{MethodSig}
use Rattle.type_terms.specs.declared.term.SigType.{SigType}

reversed : (o : Ordering) → is_eq (ordering_reverse o) ≡ is_eq o
reversed Less = refl
reversed Equal = refl
reversed Greater = refl

and_same : (x y z w : Bool) → x ≡ y → z ≡ w → (x && z) ≡ (y && w)
and_same x y z w e f = ap (λ c. c && z) e ∙ ap (λ c. y && c) f

bool_turned : (x y : Bool) → beq x y ≡ beq y x
bool_turned true true = refl
bool_turned true false = refl
bool_turned false true = refl
bool_turned false false = refl

number_turned : (m n : ℕ) → (m == n) ≡ (n == m)
number_turned m n = elim (cases_Bool (m == n)) [
  | inl is ↦ is ∙ sym ((Decides-eqb n m).1 (sym ((Decides-eqb m n).0 is)))
  | inr other ↦ elim (cases_Bool (n == m)) [
    | inl is ↦ absurd (false≢true (sym other ∙ (Decides-eqb m n).1 (sym ((Decides-eqb n m).0 is))))
    | inr apart ↦ other ∙ sym apart
  ]
]

sentinel_turned : (x y : Option ℕ) → is_same_sentinel x y ≡ is_same_sentinel y x
sentinel_turned None None = refl
sentinel_turned (Some j) (Some k) = number_turned j k
sentinel_turned None (Some k) = refl
sentinel_turned (Some j) None = refl

module _ (total : IsTotalOrder term_order) where
  pub type_turned : (x y : SigType) → is_same_type x y ≡ is_same_type y x
  type_turned x y = ap is_eq (total.antisymm x y) ∙ reversed (term_order y x)

  types_turned : (xs ys : List SigType) → pointwise is_same_type xs ys ≡ pointwise is_same_type ys xs
  types_turned [] [] = refl
  types_turned [] (y ∷ ys) = refl
  types_turned (x ∷ xs) [] = refl
  types_turned (x ∷ xs) (y ∷ ys) = and_same (is_same_type x y) (is_same_type y x) (pointwise is_same_type xs ys) (pointwise is_same_type ys xs) (type_turned x y) (types_turned xs ys)

  pub signature_turned : (x y : MethodSig) → is_same_signature x y ≡ is_same_signature y x
  unfolding terms.is_same_signature
  signature_turned x y =
      and_same _ _ (pointwise is_same_type x.params y.params) (pointwise is_same_type y.params x.params)
      (and_same _ _ (is_same_type x.ret y.ret) (is_same_type y.ret x.ret)
      (and_same _ _ (is_same_sentinel x.sentinel y.sentinel) (is_same_sentinel y.sentinel x.sentinel)
      (and_same _ _ (x.generic == y.generic) (y.generic == x.generic)
      (and_same _ _ (beq x.vararg y.vararg) (beq y.vararg x.vararg)
      (and_same _ _ (beq x.explicit_this y.explicit_this) (beq y.explicit_this x.explicit_this) (bool_turned x.has_this y.has_this) (bool_turned x.explicit_this y.explicit_this))
      (bool_turned x.vararg y.vararg)) (number_turned x.generic y.generic)) (sentinel_turned x.sentinel y.sentinel)) (type_turned x.ret y.ret)) (types_turned x.params y.params)
