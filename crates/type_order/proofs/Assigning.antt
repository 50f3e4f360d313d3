-- Assignable is reflexive but for Bad, and transitive.
use Rattle.std.proofs.Common.{◌≡◌, ◌⊎◌, inl, inr, refl, sym, ◌∙◌, ap, subst, ℕ, true, false, Option, None, Some, IsTrue}
use Rattle.std.specs.List.{Contains}
use Rattle.type_terms.specs.declared.term.Primitive.{Primitive}
use Rattle.type_terms.specs.declared.term.Primitive.TheVariants as prim
use Rattle.type_terms.specs.declared.term.Owner.{Owner}
use Rattle.type_terms.specs.declared.term.Owner.TheOpen.{SigType-F, Prim, Class, Value, Inst, Var, MVar, SzArray, Array, ByRef, Pointer, Mod, Pinned}
use Rattle.type_terms.specs.declared.term.SigType.{SigType, out-SigType}
use Rattle.type_terms.specs.declared.term.SigType.TheVariants as type
use Rattle.type_hierarchy.specs.Names.{is_integral}
use Rattle.type_hierarchy.specs.Hierarchy.{Hierarchy, object, parent, interfaces, Up, Elements, elements, layer_elements, underlying, layer_underlying}
use Rattle.type_hierarchy.specs.Stack.{Stack, null, ref, boxed, bad, is_reference, layer_is_reference, reduced_type, changed, counts_as, or_else, primitive, layer_primitive, signed}
use Rattle.type_hierarchy.specs.Relations.{AreAlike, Assignable, same, null_ref, null_boxed, ref_object, boxed_object, ref_up, boxed_parent, boxed_interface, by_elements, by_reduced}
use Rattle.type_hierarchy.specs.Laws.{IsGrounded}
use Rattle.type_hierarchy.proofs.Climbing.{up_trans, chain_up, chain_object, only_object, first_step, First, at_once, by_parent, by_interface, same_layer, some_same, none_some, array_itself, above_arrays}

abbrev Layer : Type 0
Layer = SigType-F Owner SigType

-- ---- reduced reference types

-- a primitive type that an integer type reduces to is no reference
integral_signed : (p : Primitive) → IsTrue (is_integral p) → layer_is_reference (Prim (signed p)) ≡ false
integral_signed prim.Bool h = refl
integral_signed prim.Char h = refl
integral_signed prim.I1 h = refl
integral_signed prim.U1 h = refl
integral_signed prim.I2 h = refl
integral_signed prim.U2 h = refl
integral_signed prim.I4 h = refl
integral_signed prim.U4 h = refl
integral_signed prim.I8 h = refl
integral_signed prim.U8 h = refl
integral_signed prim.NInt h = refl
integral_signed prim.NUint h = refl
integral_signed prim.Void h = absurd (let f : ⊥ = cc in f)
integral_signed prim.R4 h = absurd (let f : ⊥ = cc in f)
integral_signed prim.R8 h = absurd (let f : ⊥ = cc in f)
integral_signed prim.Str h = absurd (let f : ⊥ = cc in f)
integral_signed prim.Object h = absurd (let f : ⊥ = cc in f)
integral_signed prim.TypedRef h = absurd (let f : ⊥ = cc in f)

-- a reference type that a primitive type reduces to is that type
reference_signed : (p : Primitive) → layer_is_reference (Prim (signed p)) ≡ true → signed p ≡ p
reference_signed prim.Str h = refl
reference_signed prim.Object h = refl
reference_signed prim.Void h = refl
reference_signed prim.Bool h = refl
reference_signed prim.Char h = refl
reference_signed prim.I1 h = refl
reference_signed prim.U1 h = absurd (let f : ⊥ = cc in f)
reference_signed prim.I2 h = refl
reference_signed prim.U2 h = absurd (let f : ⊥ = cc in f)
reference_signed prim.I4 h = refl
reference_signed prim.U4 h = absurd (let f : ⊥ = cc in f)
reference_signed prim.I8 h = refl
reference_signed prim.U8 h = absurd (let f : ⊥ = cc in f)
reference_signed prim.R4 h = refl
reference_signed prim.R8 h = refl
reference_signed prim.TypedRef h = refl
reference_signed prim.NInt h = refl
reference_signed prim.NUint h = absurd (let f : ⊥ = cc in f)

-- the layer of a type that is known to be a primitive one
prim_layer : (t : SigType) (p : Primitive) → type.Prim p ≡ t → out-SigType t ≡ Prim p
prim_layer t p e = ap out-SigType (sym e) ∙ type.outs-Prim p

reference_at : (t : SigType) (l : Layer) → out-SigType t ≡ l → IsTrue (is_reference t) → layer_is_reference l ≡ true
unfolding is_reference
reference_at t l e h = subst (λ (x : Layer). layer_is_reference x ≡ true) e h

back_enum : (w : Hierarchy) → (height : SigType → ℕ) → IsGrounded w height → (g t : SigType) (p : Primitive) → underlying w g ≡ Some p → type.Prim (signed p) ≡ t → IsTrue (is_reference t) → ⊥
back_enum w height k g t p u e h =
    let no : layer_is_reference (Prim (signed p)) ≡ false = integral_signed p (k.integral g p u) in
    let yes : layer_is_reference (Prim (signed p)) ≡ true = reference_at t (Prim (signed p)) (prim_layer t (signed p) e) h in
    cc

back_prim : (g t : SigType) (p : Primitive) → out-SigType g ≡ Prim p → type.Prim (signed p) ≡ t → IsTrue (is_reference t) → g ≡ t
back_prim g t p l e h =
    let same : signed p ≡ p = reference_signed p (reference_at t (Prim (signed p)) (prim_layer t (signed p) e) h) in
    same_layer g t (l ∙ sym (prim_layer t (signed p) e ∙ ap Prim same))

back_layer : (g t : SigType) (l : Layer) → out-SigType g ≡ l → changed signed g (layer_primitive l) ≡ t → IsTrue (is_reference t) → g ≡ t
back_layer g t (Prim p) l e h = back_prim g t p l e h
back_layer g t (Class n) l e h = e
back_layer g t (Value n) l e h = e
back_layer g t (Inst v n args) l e h = e
back_layer g t (Var n) l e h = e
back_layer g t (MVar n) l e h = e
back_layer g t (SzArray of) l e h = e
back_layer g t (Array of r s b) l e h = e
back_layer g t (ByRef of) l e h = e
back_layer g t (Pointer of) l e h = e
back_layer g t (Mod r by of) l e h = e
back_layer g t (Pinned of) l e h = e

back : (w : Hierarchy) → (height : SigType → ℕ) → IsGrounded w height → (g t : SigType) (o : Option Primitive) → underlying w g ≡ o → changed signed g (or_else o (layer_primitive (out-SigType g))) ≡ t → IsTrue (is_reference t) → g ≡ t
back w height k g t None u e h = back_layer g t (out-SigType g) refl e h
back w height k g t (Some p) u e h = absurd (back_enum w height k g t p u e h)

-- what reduces to a reference type is that type
reduced_back : (w : Hierarchy) → (height : SigType → ℕ) → IsGrounded w height → (g t : SigType) → reduced_type w g ≡ t → IsTrue (is_reference t) → g ≡ t
unfolding reduced_type counts_as primitive
reduced_back w height k g t e h = back w height k g t (underlying w g) refl e h

no_underlying : (w : Hierarchy) (l : Layer) → layer_is_reference l ≡ true → layer_underlying w l ≡ None
no_underlying w (Prim p) h = refl
no_underlying w (Class n) h = refl
no_underlying w (Value n) h = absurd (let f : ⊥ = cc in f)
no_underlying w (Inst true n args) h = absurd (let f : ⊥ = cc in f)
no_underlying w (Inst false n args) h = refl
no_underlying w (Var n) h = refl
no_underlying w (MVar n) h = refl
no_underlying w (SzArray of) h = refl
no_underlying w (Array of r s b) h = refl
no_underlying w (ByRef of) h = refl
no_underlying w (Pointer of) h = refl
no_underlying w (Mod r by of) h = refl
no_underlying w (Pinned of) h = refl

stays_prim : (t : SigType) (p : Primitive) → out-SigType t ≡ Prim p → layer_is_reference (Prim p) ≡ true → type.Prim (signed p) ≡ t
stays_prim t prim.Str e h = same_layer (type.Prim prim.Str) t (type.outs-Prim prim.Str ∙ sym e)
stays_prim t prim.Object e h = same_layer (type.Prim prim.Object) t (type.outs-Prim prim.Object ∙ sym e)
stays_prim t p e h = absurd (let f : ⊥ = cc in f)

stays_layer : (t : SigType) (l : Layer) → out-SigType t ≡ l → layer_is_reference l ≡ true → changed signed t (layer_primitive l) ≡ t
stays_layer t (Prim p) e h = stays_prim t p e h
stays_layer t (Class n) e h = refl
stays_layer t (Value n) e h = refl
stays_layer t (Inst v n args) e h = refl
stays_layer t (Var n) e h = refl
stays_layer t (MVar n) e h = refl
stays_layer t (SzArray of) e h = refl
stays_layer t (Array of r s b) e h = refl
stays_layer t (ByRef of) e h = refl
stays_layer t (Pointer of) e h = refl
stays_layer t (Mod r by of) e h = refl
stays_layer t (Pinned of) e h = refl

-- a reference type reduces to itself
reduced_itself : (w : Hierarchy) (t : SigType) → IsTrue (is_reference t) → reduced_type w t ≡ t
unfolding reduced_type counts_as primitive underlying
reduced_itself w t h =
    let r : layer_is_reference (out-SigType t) ≡ true = reference_at t (out-SigType t) refl h in
    ap (λ o. changed signed t (or_else o (layer_primitive (out-SigType t)))) (no_underlying w (out-SigType t) r) ∙ stays_layer t (out-SigType t) refl r

-- ---- arrays

abbrev pair : Option ℕ → SigType → Elements
pair r t = record { rank = r; of = t }

meet : {a b c s t v u : SigType} (p : AreAlike a b s t) (q : AreAlike b c v u) → pair p.rank t ≡ pair q.rank v
meet p q = some_same p.right q.left

alike_same : {a b c s t v u : SigType} → AreAlike a b s t → AreAlike b c v u → t ≡ v
alike_same p q = ap (λ (e : Elements). e.of) (meet p q)

alike_trans : {a b c s t v u : SigType} → AreAlike a b s t → AreAlike b c v u → AreAlike a c s u
alike_trans {c = c} {u = u} p q =
    let rank : p.rank ≡ q.rank = ap (λ (e : Elements). e.rank) (meet p q) in
    record {
      rank = p.rank;
      left = p.left;
      right = subst (λ (r : Option ℕ). elements c ≡ Some (record { rank = r; of = u })) (sym rank) q.right;
    }

-- with elements of another type that is equal
alike_left : {a b s t v : SigType} → s ≡ v → AreAlike a b s t → AreAlike a b v t
alike_left {a = a} {b = b} {t = t} e p = subst (λ (x : SigType). AreAlike a b x t) e p

alike_right : {a b s t v : SigType} → t ≡ v → AreAlike a b s t → AreAlike a b s v
alike_right {a = a} {b = b} {s = s} e p = subst (λ (x : SigType). AreAlike a b s x) e p

object_elements : elements object ≡ None
unfolding elements
object_elements = ap (λ l. layer_elements l) (type.outs-Prim prim.Object)

not_object : (s : SigType) (x : Elements) → s ≡ object → elements s ≡ Some x → ⊥
not_object s x e f = none_some object_elements (subst (λ (v : SigType). elements v ≡ Some x) e f)

-- ---- going on from a reference

module _ (w : Hierarchy) (height : SigType → ℕ) (g : IsGrounded w height) where
  -- from a reference to what is above it
  from_up : {s t : SigType} → Up w s t → {u : Stack} → Assignable w (ref t) u → Assignable w (ref s) u
  from_up a (same h) = ref_up a
  from_up a (ref_object e) = ref_object e
  from_up a (ref_up b) = ref_up (up_trans w a b)
  from_up {s = s} {t = t} a (by_elements {b = b} p x y c) =
      subst (λ (v : SigType). Assignable w (ref v) (ref b)) (sym (array_itself w height g _ a p.left)) (by_elements p x y c)
  from_up {s = s} {t = t} a (by_reduced {b = b} p e) =
      subst (λ (v : SigType). Assignable w (ref v) (ref b)) (sym (array_itself w height g _ a p.left)) (by_reduced p e)

  -- no array is a parent or an interface, or above one
  not_above : {t p : SigType} (x : Elements) → elements p ≡ None → Up w p t → elements t ≡ Some x → ⊥
  not_above x h a e = none_some h (subst (λ (v : SigType). elements v ≡ Some x) (sym (array_itself w height g x a e)) e)

  from_boxed_parent : {s t p : SigType} → parent w s ≡ Some p → Up w p t → {u : Stack} → Assignable w (ref t) u → Assignable w (boxed s) u
  from_boxed_parent f a (same h) = boxed_parent f a
  from_boxed_parent f a (ref_object e) = boxed_object e
  from_boxed_parent f a (ref_up b) = boxed_parent f (up_trans w a b)
  from_boxed_parent {s = s} {t = t} {p = p} f a (by_elements q x y c) = absurd (not_above {t = t} {p = p} _ (g.no_parent_array s p f) a q.left)
  from_boxed_parent {s = s} {t = t} {p = p} f a (by_reduced q e) = absurd (not_above {t = t} {p = p} _ (g.no_parent_array s p f) a q.left)

  from_boxed_interface : {s t p : SigType} → Contains (interfaces w s) p → Up w p t → {u : Stack} → Assignable w (ref t) u → Assignable w (boxed s) u
  from_boxed_interface f a (same h) = boxed_interface f a
  from_boxed_interface f a (ref_object e) = boxed_object e
  from_boxed_interface f a (ref_up b) = boxed_interface f (up_trans w a b)
  from_boxed_interface {s = s} {t = t} {p = p} f a (by_elements q x y c) = absurd (not_above {t = t} {p = p} _ (g.no_interface_array s p f) a q.left)
  from_boxed_interface {s = s} {t = t} {p = p} f a (by_reduced q e) = absurd (not_above {t = t} {p = p} _ (g.no_interface_array s p f) a q.left)

  -- from a boxed value to Object: it has a parent, or is a boxed Object
  boxed_last : (s : SigType) → s ≡ object → {t : SigType} → First w s t → Assignable w (boxed s) (ref t)
  boxed_last s e (at_once h) = boxed_object (h ∙ e)
  boxed_last s e (by_parent f a) = boxed_parent f a
  boxed_last s e (by_interface f a) = boxed_interface f a

  from_last : (s : SigType) → s ≡ object → {u : Stack} → Assignable w (ref s) u → Assignable w (boxed s) u
  from_last s e (same h) = boxed_object e
  from_last s e (ref_object f) = boxed_object f
  from_last s e (ref_up b) = boxed_last s e (first_step w b)
  from_last s e (by_elements q x y c) = absurd (not_object s _ e q.left)
  from_last s e (by_reduced q c) = absurd (not_object s _ e q.left)

  from_boxed_object : (s t : SigType) → t ≡ object → (o : Option SigType) → parent w s ≡ o → {u : Stack} → Assignable w (ref t) u → Assignable w (boxed s) u
  from_boxed_object s t e None f {u = u} b =
      let last : s ≡ object = only_object w s f in
      from_last s last (subst (λ (v : SigType). Assignable w (ref v) u) (e ∙ sym last) b)
  from_boxed_object s t e (Some p) f {u = u} b =
      from_boxed_parent f (chain_up w (chain_object w height g p)) (subst (λ (v : SigType). Assignable w (ref v) u) e b)

  from_null : {t : SigType} {u : Stack} → Assignable w (ref t) u → Assignable w null u
  from_null (same h) = null_ref
  from_null (ref_object e) = null_ref
  from_null (ref_up b) = null_ref
  from_null (by_elements p x y c) = null_ref
  from_null (by_reduced p e) = null_ref

  from_null_boxed : {t : SigType} {u : Stack} → Assignable w (boxed t) u → Assignable w null u
  from_null_boxed (same h) = null_boxed
  from_null_boxed (boxed_object e) = null_ref
  from_null_boxed (boxed_parent f a) = null_ref
  from_null_boxed (boxed_interface f a) = null_ref

  -- from an array to what is above another one
  up_from : {a b s t c : SigType} → AreAlike a b s t → Assignable w (ref a) (ref b) → (c ≡ b) ⊎ Up w a c → Assignable w (ref a) (ref c)
  up_from {a = a} p h (inl e) = subst (λ (v : SigType). Assignable w (ref a) (ref v)) (sym e) h
  up_from p h (inr r) = ref_up r

  from_array : {a b s t c : SigType} → AreAlike a b s t → Assignable w (ref a) (ref b) → Up w b c → Assignable w (ref a) (ref c)
  from_array {a = a} {b = b} p h r = up_from p h (above_arrays w a b _ _ p.left p.right r)

  from_reduced : {a b s t : SigType} → AreAlike a b s t → reduced_type w s ≡ reduced_type w t → {u : Stack} → Assignable w (ref b) u → Assignable w (ref a) u
  from_reduced p e (same h) = by_reduced p e
  from_reduced p e (ref_object f) = ref_object f
  from_reduced p e (ref_up r) = from_array p (by_reduced p e) r
  from_reduced {s = s} {t = t} p e (by_elements {s = v} q x y c) =
      let one : t ≡ v = alike_same p q in
      let back : reduced_type w s ≡ v = e ∙ ap (reduced_type w) one ∙ reduced_itself w v x in
      let left : s ≡ v = reduced_back w height g s v back x in
      by_elements (alike_left left (alike_trans p q)) x y c
  from_reduced p e (by_reduced q f) = by_reduced (alike_trans p q) (e ∙ ap (reduced_type w) (alike_same p q) ∙ f)

  from_elements : {a b s t : SigType} → AreAlike a b s t → IsTrue (is_reference s) → IsTrue (is_reference t) → Assignable w (ref s) (ref t) → ((u : Stack) → Assignable w (ref t) u → Assignable w (ref s) u) → {u : Stack} → Assignable w (ref b) u → Assignable w (ref a) u
  from_elements p x y c more (same h) = by_elements p x y c
  from_elements p x y c more (ref_object f) = ref_object f
  from_elements p x y c more (ref_up r) = from_array p (by_elements p x y c) r
  from_elements {t = t} p x y c more (by_elements {s = v} {t = u} q x' y' c') =
      let one : t ≡ v = alike_same p q in
      by_elements (alike_trans p q) x y' (more (ref u) (subst (λ (z : SigType). Assignable w (ref z) (ref u)) (sym one) c'))
  from_elements {t = t} p x y c more (by_reduced {s = v} {t = u} q e) =
      let one : t ≡ v = alike_same p q in
      let back : reduced_type w u ≡ t = sym e ∙ ap (reduced_type w) (sym one) ∙ reduced_itself w t y in
      let right : u ≡ t = reduced_back w height g u t back y in
      by_elements (alike_right right (alike_trans p q)) x y c

  pub transitive : {s t u : Stack} → Assignable w s t → Assignable w t u → Assignable w s u
  transitive (same h) b = b
  transitive null_ref b = from_null b
  transitive null_boxed b = from_null_boxed b
  transitive {u = u} (ref_object {s = s} e) b =
      from_up (chain_up w (chain_object w height g s)) (subst (λ (v : SigType). Assignable w (ref v) u) e b)
  transitive (boxed_object {s = s} {t = t} e) b = from_boxed_object s t e (parent w s) refl b
  transitive (ref_up a) b = from_up a b
  transitive (boxed_parent f a) b = from_boxed_parent f a b
  transitive (boxed_interface f a) b = from_boxed_interface f a b
  transitive (by_elements p x y c) b = from_elements p x y c (λ v d. transitive c d) b
  transitive (by_reduced p e) b = from_reduced p e b

pub reflexive : (w : Hierarchy) (s : Stack) → (s ≡ bad → ⊥) → Assignable w s s
reflexive w s h = same h
