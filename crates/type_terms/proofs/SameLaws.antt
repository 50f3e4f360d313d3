-- Types and signatures that are the same are equal, and equal ones are the same.
use Rattle.std.proofs.Common.{◌≡◌, ◌↔◌, ℕ, List, [], ◌∷◌, Option, Some, None, refl, ap, sym, ◌∙◌}
use Rattle.std.specs.Prelude.{Bool, true, false, ◌&&◌, ◌==◌, IsTrue}
use Rattle.std.specs.Bool.{beq}
use Rattle.std.specs.Ordering.{is_eq}
use Rattle.std.specs.declared.cmp.Ordering.{Ordering}
use Rattle.std.specs.declared.cmp.Ordering.TheVariants.{Less, Equal, Greater}
use Rattle.std.proofs.lemmas.Bool.{and_from, and_parts}
use Rattle.std.proofs.lemmas.Bool.Decides.{Decides-eqb}
use lib.Pointwise.{pointwise}
use Rattle.type_terms.specs.Order.{term_order}
use Rattle.type_terms.specs.Same.{is_same_type, is_same_sentinel, is_same_signature}
use Rattle.type_terms.specs.declared.reference.MethodSig.{MethodSig}
use Rattle.type_terms.specs.declared.term.SigType.{SigType}
use Rattle.type_terms.proofs.OrderLaws.{equal_terms}

-- ---- types

tied : (o : Ordering) → is_eq o ≡ true → o ≡ Equal
tied Less e = absurd cc
tied Equal e = refl
tied Greater e = absurd cc

type_same : (t u : SigType) → is_same_type t u ≡ true → t ≡ u
type_same t u e = (equal_terms t u (term_order t u) refl).0 (tied (term_order t u) e)

type_itself : (t : SigType) → is_same_type t t ≡ true
type_itself t = ap is_eq ((equal_terms t t (term_order t t) refl).1 refl)

types_same : (ts us : List SigType) → pointwise is_same_type ts us ≡ true → ts ≡ us
types_same [] [] e = refl
types_same [] (u ∷ us) e = absurd cc
types_same (t ∷ ts) [] e = absurd cc
types_same (t ∷ ts) (u ∷ us) e =
    let b = and_parts (is_same_type t u) (pointwise is_same_type ts us) e in
    ap (λ x. x ∷ ts) (type_same t u b.0) ∙ ap (λ xs. u ∷ xs) (types_same ts us b.1)

types_itself : (ts : List SigType) → pointwise is_same_type ts ts ≡ true
types_itself [] = refl
types_itself (t ∷ ts) = and_from (is_same_type t t) (pointwise is_same_type ts ts) (type_itself t) (types_itself ts)

-- ---- signatures

flag_same : (a b : Bool) → beq a b ≡ true → a ≡ b
flag_same true true e = refl
flag_same false false e = refl
flag_same true false e = absurd cc
flag_same false true e = absurd cc

flag_itself : (a : Bool) → beq a a ≡ true
flag_itself true = refl
flag_itself false = refl

sentinel_same : (j k : Option ℕ) → is_same_sentinel j k ≡ true → j ≡ k
sentinel_same None None e = refl
sentinel_same (Some j) (Some k) e = ap Some ((Decides-eqb j k).0 e)
sentinel_same None (Some k) e = absurd cc
sentinel_same (Some j) None e = absurd cc

sentinel_itself : (k : Option ℕ) → is_same_sentinel k k ≡ true
sentinel_itself None = refl
sentinel_itself (Some k) = (Decides-eqb k k).1 refl

pub signature_same : (s u : MethodSig) → is_same_signature s u ≡ true → s ≡ u
unfolding is_same_signature
signature_same s u e =
    let has = beq s.has_this u.has_this in
    let given = beq s.explicit_this u.explicit_this in
    let varied = beq s.vararg u.vararg in
    let number = s.generic == u.generic in
    let sentinel = is_same_sentinel s.sentinel u.sentinel in
    let ret = is_same_type s.ret u.ret in
    let g = and_parts (has && given && varied && number && sentinel && ret) (pointwise is_same_type s.params u.params) e in
    let f = and_parts (has && given && varied && number && sentinel) ret g.0 in
    let d = and_parts (has && given && varied && number) sentinel f.0 in
    let c = and_parts (has && given && varied) number d.0 in
    let b = and_parts (has && given) varied c.0 in
    let a = and_parts has given b.0 in
    let has_this = flag_same s.has_this u.has_this a.0 in
    let explicit_this = flag_same s.explicit_this u.explicit_this a.1 in
    let vararg = flag_same s.vararg u.vararg b.1 in
    let generic = (Decides-eqb s.generic u.generic).0 c.1 in
    let before = sentinel_same s.sentinel u.sentinel d.1 in
    let of = type_same s.ret u.ret f.1 in
    let params = types_same s.params u.params g.1 in
    λ k. record { has_this = has_this k; explicit_this = explicit_this k; vararg = vararg k; generic = generic k; ret = of k; params = params k; sentinel = before k }

pub signature_itself : (s : MethodSig) → is_same_signature s s ≡ true
unfolding is_same_signature
signature_itself s =
    and_from _ _ (and_from _ _ (and_from _ _ (and_from _ _ (and_from _ _ (and_from _ _ (flag_itself s.has_this) (flag_itself s.explicit_this)) (flag_itself s.vararg))
    ((Decides-eqb s.generic s.generic).1 refl)) (sentinel_itself s.sentinel)) (type_itself s.ret)) (types_itself s.params)

-- ---- an answer that says whether they are the same says whether they are equal

pub equal_types : (t u : SigType) (r : Bool) → r ≡ is_same_type t u → IsTrue r ↔ (t ≡ u)
equal_types t u r e = (λ h. type_same t u (sym e ∙ h), λ h. e ∙ ap (λ x. is_same_type x u) h ∙ type_itself u)

pub equal_lists : (ts us : List SigType) (r : Bool) → r ≡ pointwise is_same_type ts us → IsTrue r ↔ (ts ≡ us)
equal_lists ts us r e = (λ h. types_same ts us (sym e ∙ h), λ h. e ∙ ap (λ x. pointwise is_same_type x us) h ∙ types_itself us)

pub equal_signatures : (s u : MethodSig) (r : Bool) → r ≡ is_same_signature s u → IsTrue r ↔ (s ≡ u)
equal_signatures s u r e = (λ h. signature_same s u (sym e ∙ h), λ h. e ∙ ap (λ x. is_same_signature x u) h ∙ signature_itself u)
