-- Different nodes have different keys.
use Rattle.std.proofs.Common.{◌≡◌, ap, refl, sym, ◌∙◌, ℕ, ℤ, pos, negsuc, Bool, true, false, true≢false, List, [], ◌∷◌, ◌++◌, length, get_or, append_assoc, arith, int_lt, unsigned_abs}
use Rattle.std.proofs.lemmas.Bool.Decides.{nat_tests}
use Rattle.type_terms.specs.declared.name.Scope.{Scope}
use Rattle.type_terms.specs.declared.name.Scope.TheVariants.{Here, Extern}
use Rattle.type_terms.specs.declared.name.TypeId.{TypeId}
use Rattle.type_terms.specs.declared.name.TypeName.{TypeName}
use Rattle.type_terms.specs.declared.term.Primitive as prim
use Rattle.type_terms.specs.declared.term.Primitive.TheVariants as prim_is
use Rattle.type_terms.specs.Order.{prim_place}
use Rattle.sig_pool.specs.declared.node.Node.{Node}
use Rattle.sig_pool.specs.declared.node.Node.TheVariants.{Prim, Class, Value, Inst, Var, MVar, SzArray, Array, ByRef, Pointer, Mod, Pinned}
use Rattle.sig_pool.specs.declared.node.NodeOwner.{NodeOwner}
use Rattle.sig_pool.specs.declared.node.NodeOwner.TheVariants.{Name, Spec}
use Rattle.sig_pool.specs.Key.{flag, list_key, id_key, path_key, scope_key, name_key, all_signed_key, owner_key, node_key}

-- whatever follows `u` and `v`, equal wholes show P and equal rests
record Parts (u v : List ℕ) (P : Type 0) : Type 0 where
  tells : (x y : List ℕ) → u ++ x ≡ v ++ y → P × (x ≡ y)

both : {u v u' v' : List ℕ} {P Q : Type 0} → Parts u v P → Parts u' v' Q → Parts (u ++ u') (v ++ v') (P × Q)
both {u} {v} {u'} {v'} {P} {Q} p q = record { tells = λ x y e. joined x y e }
  where
    joined : (x y : List ℕ) → (u ++ u') ++ x ≡ (v ++ v') ++ y → (P × Q) × (x ≡ y)
    joined x y e =
        let a = p.tells (u' ++ x) (v' ++ y) (rw (append_assoc u u' x, append_assoc v v' y) at e) in
        let b = q.tells x y a.1 in
        ((a.0, b.0), b.1)

means : {u v : List ℕ} {P Q : Type 0} → (P → Q) → Parts u v P → Parts u v Q
means f p = record { tells = λ x y e. let a = p.tells x y e in (f a.0, a.1) }

ends : {u v : List ℕ} {P : Type 0} → Parts u v P → u ≡ v → P
ends {u} {v} p e = (p.tells [] [] (ap (λ l. l ++ []) e)).0

head : {a b : ℕ} {x y : List ℕ} → a ∷ x ≡ b ∷ y → a ≡ b
head e = cc

rest : {a b : ℕ} {x y : List ℕ} → a ∷ x ≡ b ∷ y → x ≡ y
rest e = cc

fronts : (xs ys x y : List ℕ) → length xs ≡ length ys → xs ++ x ≡ ys ++ y → (xs ≡ ys) × (x ≡ y)
fronts [] [] x y l e = (refl, e)
fronts [] (b ∷ ys) x y l e = absurd (omega arith)
fronts (a ∷ xs) [] x y l e = absurd (omega arith)
fronts (a ∷ xs) (b ∷ ys) x y l e =
    let t = fronts xs ys x y (omega arith) (rest e) in
    let h : a ≡ b = head e in
    (λ i. h i ∷ t.0 i, t.1)

lists : (xs ys : List ℕ) → Parts (list_key xs) (list_key ys) (xs ≡ ys)
lists xs ys = record { tells = λ x y e. fronts xs ys x y (head e) (rest e) }

ids : (a b : TypeId) → Parts (id_key a) (id_key b) (a ≡ b)
ids a b = means (λ (p : (a.space ≡ b.space) × (a.name ≡ b.name)). λ i. record { space = p.0 i; name = p.1 i }) (both (lists a.space b.space) (lists a.name b.name))

paths : (p q : List TypeId) → length p ≡ length q → Parts (path_key p) (path_key q) (p ≡ q)
paths [] [] l = record { tells = λ x y e. (refl, e) }
paths [] (b ∷ q) l = absurd (omega arith)
paths (a ∷ p) [] l = absurd (omega arith)
paths (a ∷ p) (b ∷ q) l = means (λ (h : (a ≡ b) × (p ≡ q)). λ i. h.0 i ∷ h.1 i) (both (ids a b) (paths p q (omega arith)))

counted : (p q : List TypeId) → Parts (length p ∷ path_key p) (length q ∷ path_key q) (p ≡ q)
counted p q = record { tells = λ x y e. (paths p q (head e)).tells x y (rest e) }

scopes : (a b : Scope) → Parts (scope_key a) (scope_key b) (a ≡ b)
scopes Here Here = record { tells = λ x y e. (refl, rest e) }
scopes Here (Extern m) = record { tells = λ x y e. absurd (omega (arith, head e)) }
scopes (Extern n) Here = record { tells = λ x y e. absurd (omega (arith, head e)) }
scopes (Extern n) (Extern m) = record { tells = λ x y e. (ap Extern (head (rest e)), rest (rest e)) }

names : (a b : TypeName) → Parts (name_key a) (name_key b) (a ≡ b)
names a b = means (λ (p : (a.scope ≡ b.scope) × (a.path ≡ b.path)). λ i. record { scope = p.0 i; path = p.1 i }) (both (scopes a.scope b.scope) (counted a.path b.path))

flags : (v w : Bool) → flag v ≡ flag w → v ≡ w
flags false false e = refl
flags false true e = absurd (omega arith)
flags true false e = absurd (omega arith)
flags true true e = refl

ltb-zero : (n : ℕ) → int_lt (pos n) (pos 0) ≡ false
ltb-zero n = grind (arith, nat_tests)

signs : (y z : ℤ) → int_lt y (pos 0) ≡ int_lt z (pos 0) → unsigned_abs y ≡ unsigned_abs z → y ≡ z
signs (pos n) (pos m) s e = ap pos e
signs (pos n) (negsuc m) s e = absurd (true≢false (sym s ∙ ltb-zero n))
signs (negsuc n) (pos m) s e = absurd (true≢false (s ∙ ltb-zero m))
signs (negsuc n) (negsuc m) s e = ap negsuc (omega arith)

all_signs : (ys zs : List ℤ) → all_signed_key ys ≡ all_signed_key zs → ys ≡ zs
all_signs [] [] e = refl
all_signs [] (z ∷ zs) e = cc
all_signs (y ∷ ys) [] e = cc
all_signs (y ∷ ys) (z ∷ zs) e =
    let h : y ≡ z = signs y z (flags (int_lt y (pos 0)) (int_lt z (pos 0)) (head e)) (head (rest e)) in
    let t : ys ≡ zs = all_signs ys zs (rest (rest e)) in
    λ i. h i ∷ t i

owners : (a b : NodeOwner) → owner_key a ≡ owner_key b → a ≡ b
owners (Name n) (Name m) e = ap Name (ends (names n m) (rest e))
owners (Name n) (Spec k) e = absurd (omega (arith, head e))
owners (Spec k) (Name m) e = absurd (omega (arith, head e))
owners (Spec k) (Spec j) e = ap Spec (head (rest e))

abbrev prims : List prim.Primitive
prims = prim_is.Void ∷ prim_is.Bool ∷ prim_is.Char ∷ prim_is.I1 ∷ prim_is.U1 ∷ prim_is.I2 ∷ prim_is.U2 ∷ prim_is.I4 ∷ prim_is.U4 ∷ prim_is.I8 ∷ prim_is.U8 ∷ prim_is.R4 ∷ prim_is.R8 ∷ prim_is.Str ∷ prim_is.Object ∷ prim_is.TypedRef ∷ prim_is.NInt ∷ prim_is.NUint ∷ []

prim_back : (p : prim.Primitive) → get_or prims (prim_place p) prim_is.Void ≡ p
prim_back prim_is.Void = refl
prim_back prim_is.Bool = refl
prim_back prim_is.Char = refl
prim_back prim_is.I1 = refl
prim_back prim_is.U1 = refl
prim_back prim_is.I2 = refl
prim_back prim_is.U2 = refl
prim_back prim_is.I4 = refl
prim_back prim_is.U4 = refl
prim_back prim_is.I8 = refl
prim_back prim_is.U8 = refl
prim_back prim_is.R4 = refl
prim_back prim_is.R8 = refl
prim_back prim_is.Str = refl
prim_back prim_is.Object = refl
prim_back prim_is.TypedRef = refl
prim_back prim_is.NInt = refl
prim_back prim_is.NUint = refl

prim_ties : (p q : prim.Primitive) → prim_place p ≡ prim_place q → p ≡ q
prim_ties p q e = sym (prim_back p) ∙ ap (λ n. get_or prims n prim_is.Void) e ∙ prim_back q

pub same_key : (a b : Node) → node_key a ≡ node_key b → a ≡ b
same_key (Prim p) (Prim q) e = ap Prim (prim_ties p q (head (rest e)))
same_key (Class n) (Class m) e = ap Class (ends (names n m) (rest e))
same_key (Value n) (Value m) e = ap Value (ends (names n m) (rest e))
same_key (Inst v n xs) (Inst w m ys) e =
    let f : v ≡ w = flags v w (head (rest e)) in
    let r = (names n m).tells xs ys (rest (rest e)) in
    λ i. Inst (f i) (r.0 i) (r.1 i)
same_key (Var n) (Var m) e = ap Var (head (rest e))
same_key (MVar n) (MVar m) e = ap MVar (head (rest e))
same_key (SzArray k) (SzArray j) e = ap SzArray (head (rest e))
same_key (Array k r s l) (Array j q z w) e =
    let a : k ≡ j = head (rest e) in
    let b : r ≡ q = head (rest (rest e)) in
    let c = (lists s z).tells (all_signed_key l) (all_signed_key w) (rest (rest (rest e))) in
    let d : l ≡ w = all_signs l w c.1 in
    λ i. Array (a i) (b i) (c.0 i) (d i)
same_key (ByRef k) (ByRef j) e = ap ByRef (head (rest e))
same_key (Pointer k) (Pointer j) e = ap Pointer (head (rest e))
same_key (Mod r o k) (Mod q p j) e =
    let a : r ≡ q = flags r q (head (rest e)) in
    let b : k ≡ j = head (rest (rest e)) in
    let c : o ≡ p = owners o p (rest (rest (rest e))) in
    λ i. Mod (a i) (c i) (b i)
same_key (Pinned k) (Pinned j) e = ap Pinned (head (rest e))
same_key a b e = absurd (omega (arith, head e))
