-- What the order of stack types and "may stand for" have in common: the kinds of stack types, and the elements of vectors.
use Rattle.std.proofs.Common.{◌≡◌, ℕ, refl, sym, ◌∙◌, ap, subst, Option, None, Some, IsTrue}
use Rattle.std.specs.List.{Contains}
use Rattle.type_terms.specs.declared.term.Primitive.TheVariants as prim
use Rattle.type_terms.specs.declared.term.SigType.{SigType}
use Rattle.type_terms.specs.declared.term.SigType.TheVariants as type
use Rattle.type_hierarchy.specs.Hierarchy.{Hierarchy, object, parent, interfaces, Up, itself, to_parent, to_interface, Chain, alone, further, Elements, elements, layer_elements}
use Rattle.type_hierarchy.specs.Stack.{Stack, i4, i8, native, float, null, ref, boxed, val, ptr, bad, is_reference, reduced_type, verification_type, verified}
use Rattle.type_hierarchy.specs.Relations.{AreAlike, Assignable, same, null_ref, null_boxed, ref_object, boxed_object, ref_up, boxed_parent, boxed_interface, by_elements, by_reduced, Below, equal, below_bad, null_below_ref, null_below_boxed, ref_chain, boxed_chain}
use Rattle.type_hierarchy.specs.Laws.{IsGrounded, IsTransitive, JoinLaws}
use Rattle.code_flow.specs.declared.operation.Numeric.{Numeric}
use Rattle.code_flow.specs.Demands.{is_object, element}
use Rattle.type_order.specs.Keys.{vector_elements}
use Rattle.code_flow.specs.Rows.{primitive_of}
use Rattle.code_flow.specs.Laws.{Under, assigned, under_bad}
use Rattle.body_verifier.proofs.Reduced.{no_numeric, verified_from_reduced, reduced_back}

-- the kinds of two types, where the first is lower
pub data Kinds (s t : Stack) : Type 0 where
  the_same : s ≡ t → Kinds s t
  above : t ≡ bad → Kinds s t
  objects : IsTrue (is_object s) → IsTrue (is_object t) → Kinds s t

-- elements of a lower vector
pub record LowerElement (w : Hierarchy) (R : Stack → Stack → Type 0) (d e : SigType) : Type 0 where
  pub object : IsTrue (is_reference e) → IsTrue (is_reference d) × R (ref d) (ref e)
  pub numeric : (n : Numeric) → verification_type w e ≡ type.Prim (verified (primitive_of n)) → verification_type w d ≡ type.Prim (verified (primitive_of n))

pub data LowerVector (w : Hierarchy) (R : Stack → Stack → Type 0) (s : Stack) (e : SigType) : Type 0 where
  is_null : s ≡ null → LowerVector w R s e
  is_vector : {d : SigType} → element s ≡ Some d → LowerElement w R d e → LowerVector w R s e

pub record Refines (w : Hierarchy) (R : Stack → Stack → Type 0) : Type 0 where
  pub itself : (s : Stack) → R s s
  pub top : (s : Stack) → R s bad
  pub kinds : (s t : Stack) → R s t → Kinds s t
  pub null_only : (s : Stack) → R s null → s ≡ null
  pub null_lower : (t : SigType) → R null (ref t)
  pub assign : (s t u : Stack) → R s t → Assignable w t u → Assignable w s u
  pub vectors : (s t : Stack) (e : SigType) → R s t → element t ≡ Some e → LowerVector w R s e

-- ---- vectors

the_same_element : (w : Hierarchy) (R : Stack → Stack → Type 0) → ((s : Stack) → R s s) → (d e : SigType) → d ≡ e → LowerElement w R d e
the_same_element w R r d e is = record {
  object = λ h. (subst (λ (t : SigType). IsTrue (is_reference t)) (sym is) h, subst (λ (t : SigType). R (ref t) (ref e)) (sym is) (r (ref e)));
  numeric = λ n h. ap (verification_type w) is ∙ h;
}

abbrev array_of : Option ℕ → SigType → Elements
array_of r t = record { rank = r; of = t }

of_vector_parts : (r : Option ℕ) (t e : SigType) → vector_elements (Some (array_of r t)) ≡ Some e → Some (array_of r t) ≡ Some (array_of None e)
of_vector_parts None t e g = let is : t ≡ e = cc in ap (λ (u : SigType). Some (array_of None u)) is
of_vector_parts (Some k) t e g = absurd (let f : ⊥ = cc in f)

of_vector_some : (o : Option Elements) (e : SigType) → vector_elements o ≡ Some e → o ≡ Some (array_of None e)
of_vector_some None e h = absurd (let f : ⊥ = cc in f)
of_vector_some (Some x) e h = of_vector_parts x.rank x.of e h

none_some : {A : Type 0} {o : Option A} {x : A} → o ≡ None → o ≡ Some x → ⊥
none_some a b = let f : ⊥ = cc in f

no_elements : elements object ≡ None
unfolding elements
no_elements = ap layer_elements (type.outs-Prim prim.Object)

-- ---- the order

below_kinds : (w : Hierarchy) (s t : Stack) → Below w s t → Kinds s t
below_kinds w s t equal = the_same refl
below_kinds w s t below_bad = above refl
below_kinds w s t null_below_ref = objects refl refl
below_kinds w s t null_below_boxed = objects refl refl
below_kinds w s t (ref_chain c) = objects refl refl
below_kinds w s t (boxed_chain e c) = objects refl refl

below_null : (w : Hierarchy) (s : Stack) → Below w s null → s ≡ null
below_null w s equal = refl

bad_low : (w : Hierarchy) {u : Stack} → Assignable w bad u → ⊥
bad_low w (same h) = h refl

module _ (w : Hierarchy) (height : SigType → ℕ) (g : IsGrounded w height) where
  chain_array : {s t : SigType} {x : Elements} → Chain w s t → elements t ≡ Some x → s ≡ t
  chain_array alone e = refl
  chain_array (further {s = u} {u = t} c p) e = absurd (none_some (g.no_parent_array u t p) e)

  parent_array : (s p t : SigType) {x : Elements} → parent w s ≡ Some p → Chain w p t → elements t ≡ Some x → ⊥
  parent_array s p t h c e =
      let is : p ≡ t = chain_array c e in
      let top : parent w s ≡ Some t = h ∙ ap Some is in
      none_some (g.no_parent_array s t top) e

  up_array : {s t : SigType} {x : Elements} → Up w s t → elements t ≡ Some x → s ≡ t
  up_array itself e = refl
  up_array (to_parent {s = u} {u = t} r p) e = absurd (none_some (g.no_parent_array u t p) e)
  up_array (to_interface {s = u} {u = t} r p) e = absurd (none_some (g.no_interface_array u t p) e)

  -- below a vector stands null, or that vector
  below_ref_vector : (t e : SigType) {s : Stack} → Below w s (ref t) → element (ref t) ≡ Some e → LowerVector w (Below w) s e
  below_ref_vector t e equal h = is_vector h (the_same_element w (Below w) (λ s. equal) e e refl)
  below_ref_vector t e null_below_ref h = is_null refl
  below_ref_vector t e (ref_chain {s = u} c) h =
      let is : u ≡ t = chain_array c (of_vector_some (elements t) e h) in
      is_vector (ap (λ (x : SigType). element (ref x)) is ∙ h) (the_same_element w (Below w) (λ s. equal) e e refl)
  below_ref_vector t e (boxed_chain {s = u} {p = p} q c) h = absurd (parent_array u p t q c (of_vector_some (elements t) e h))

  below_vector : (s t : Stack) (e : SigType) → Below w s t → element t ≡ Some e → LowerVector w (Below w) s e
  below_vector s i4 e b h = absurd (let f : ⊥ = cc in f)
  below_vector s i8 e b h = absurd (let f : ⊥ = cc in f)
  below_vector s native e b h = absurd (let f : ⊥ = cc in f)
  below_vector s float e b h = absurd (let f : ⊥ = cc in f)
  below_vector s null e b h = absurd (let f : ⊥ = cc in f)
  below_vector s (ref t) e b h = below_ref_vector t e b h
  below_vector s (boxed t) e b h = absurd (let f : ⊥ = cc in f)
  below_vector s (val t) e b h = absurd (let f : ⊥ = cc in f)
  below_vector s (ptr t) e b h = absurd (let f : ⊥ = cc in f)
  below_vector s bad e b h = absurd (let f : ⊥ = cc in f)

  -- what is below a type may stand for it, unless that is Bad
  below_assignable : JoinLaws w → (s t : Stack) → Below w s t → (t ≡ bad → ⊥) → Assignable w s t
  below_assignable laws s t b h = laws.assignable s t t (record { left = b; right = equal; least = λ u p q. q }) h

  below_assign : JoinLaws w → IsTransitive w → (s t u : Stack) → Below w s t → Assignable w t u → Assignable w s u
  below_assign laws trans s t u b a =
      trans s t u (below_assignable laws s t b (λ e. bad_low w (subst (λ (x : Stack). Assignable w x u) e a))) a

  pub below_refines : JoinLaws w → IsTransitive w → Refines w (Below w)
  below_refines laws trans = record {
    itself = λ s. equal;
    top = λ s. below_bad;
    kinds = below_kinds w;
    null_only = below_null w;
    null_lower = λ t. null_below_ref;
    assign = below_assign laws trans;
    vectors = below_vector;
  }

  -- ---- standing for others

  assignable_kinds : (s t : Stack) → Assignable w s t → Kinds s t
  assignable_kinds s t (same h) = the_same refl
  assignable_kinds s t null_ref = objects refl refl
  assignable_kinds s t null_boxed = objects refl refl
  assignable_kinds s t (ref_object e) = objects refl refl
  assignable_kinds s t (boxed_object e) = objects refl refl
  assignable_kinds s t (ref_up u) = objects refl refl
  assignable_kinds s t (boxed_parent p u) = objects refl refl
  assignable_kinds s t (boxed_interface p u) = objects refl refl
  assignable_kinds s t (by_elements l a b c) = objects refl refl
  assignable_kinds s t (by_reduced l e) = objects refl refl

  under_kinds : (s t : Stack) → Under w s t → Kinds s t
  under_kinds s t (assigned a) = assignable_kinds s t a
  under_kinds s t under_bad = above refl

  assignable_null : (s : Stack) → Assignable w s null → s ≡ null
  assignable_null s (same h) = refl

  under_null : (s : Stack) → Under w s null → s ≡ null
  under_null s (assigned a) = assignable_null s a

  under_assign : IsTransitive w → (s t u : Stack) → Under w s t → Assignable w t u → Assignable w s u
  under_assign trans s t u (assigned a) b = trans s t u a b
  under_assign trans s t u under_bad b = absurd (bad_low w b)

  -- neither is a reference type
  reference_elements : (d e : SigType) → IsTrue (is_reference d) → IsTrue (is_reference e) → Assignable w (ref d) (ref e) → LowerElement w (Under w) d e
  reference_elements d e a b c = record {
    object = λ h. (a, assigned c);
    numeric = λ n h. absurd (no_numeric w e n b h);
  }

  pub self_under : (s : Stack) → (s ≡ bad → ⊥) → Under w s s
  self_under s h = assigned (same h)

  reduced_elements : (d e : SigType) → reduced_type w d ≡ reduced_type w e → LowerElement w (Under w) d e
  reduced_elements d e r = record {
    object = λ h.
        let is : d ≡ e = reduced_back w height g d e r h in (
          subst (λ (t : SigType). IsTrue (is_reference t)) (sym is) h,
          subst (λ (t : SigType). Under w (ref t) (ref e)) (sym is) (self_under (ref e) (λ f. let x : ⊥ = cc in x)),
        );
    numeric = λ n h. verified_from_reduced w d e r ∙ h;
  }

  same_elements : (t : SigType) {x y : Elements} → elements t ≡ Some x → elements t ≡ Some y → x ≡ y
  same_elements t a b = cc

  -- the elements of two arrays of one rank, the second of which is a vector
  left_vector : (a b d e c : SigType) → AreAlike a b d e → element (ref b) ≡ Some c → (element (ref a) ≡ Some d) × (e ≡ c)
  left_vector a b d e c l h =
      let x = of_vector_some (elements b) c h in
      let both = same_elements b l.right x in
      let rank : l.rank ≡ None = ap (λ (y : Elements). y.rank) both in
      (ap vector_elements (l.left ∙ ap (λ (r : Option ℕ). Some (array_of r d)) rank), ap (λ (y : Elements). y.of) both)

  under_element : (a d e c : SigType) → element (ref a) ≡ Some d → e ≡ c → LowerElement w (Under w) d e → LowerVector w (Under w) (ref a) c
  under_element a d e c h is low = is_vector h (subst (λ (t : SigType). LowerElement w (Under w) d t) is low)

  under_same : (t e : SigType) → element (ref t) ≡ Some e → LowerVector w (Under w) (ref t) e
  under_same t e h = is_vector h (record {
    object = λ r. (r, self_under (ref e) (λ f. let x : ⊥ = cc in x));
    numeric = λ n v. v;
  })

  under_ref_vector : (t e : SigType) {s : Stack} → Assignable w s (ref t) → element (ref t) ≡ Some e → LowerVector w (Under w) s e
  under_ref_vector t e (same x) h = under_same t e h
  under_ref_vector t e null_ref h = is_null refl
  under_ref_vector t e (ref_object x) h = absurd (none_some no_elements (ap elements (sym x) ∙ of_vector_some (elements t) e h))
  under_ref_vector t e (boxed_object x) h = absurd (none_some no_elements (ap elements (sym x) ∙ of_vector_some (elements t) e h))
  under_ref_vector t e (ref_up {s = u} c) h =
      let is : u ≡ t = up_array c (of_vector_some (elements t) e h) in
      subst (λ (x : SigType). LowerVector w (Under w) (ref x) e) (sym is) (under_same t e h)
  under_ref_vector t e (boxed_parent {s = u} {p = p} q c) h =
      let x = of_vector_some (elements t) e h in
      let is : p ≡ t = up_array c x in
      absurd (none_some (g.no_parent_array u t (q ∙ ap Some is)) x)
  under_ref_vector t e (boxed_interface {s = u} {p = p} q c) h =
      let x = of_vector_some (elements t) e h in
      let is : p ≡ t = up_array c x in
      absurd (none_some (g.no_interface_array u t (subst (λ (y : SigType). Contains (interfaces w u) y) is q)) x)
  under_ref_vector t e (by_elements {a = a} {s = d} {t = f} l x y z) h =
      let p = left_vector a t d f e l h in under_element a d f e p.0 p.1 (reference_elements d f x y z)
  under_ref_vector t e (by_reduced {a = a} {s = d} {t = f} l r) h =
      let p = left_vector a t d f e l h in under_element a d f e p.0 p.1 (reduced_elements d f r)

  under_vector : (s t : Stack) (e : SigType) → Under w s t → element t ≡ Some e → LowerVector w (Under w) s e
  under_vector s i4 e b h = absurd (let f : ⊥ = cc in f)
  under_vector s i8 e b h = absurd (let f : ⊥ = cc in f)
  under_vector s native e b h = absurd (let f : ⊥ = cc in f)
  under_vector s float e b h = absurd (let f : ⊥ = cc in f)
  under_vector s null e b h = absurd (let f : ⊥ = cc in f)
  under_vector s (ref t) e (assigned a) h = under_ref_vector t e a h
  under_vector s (boxed t) e b h = absurd (let f : ⊥ = cc in f)
  under_vector s (val t) e b h = absurd (let f : ⊥ = cc in f)
  under_vector s (ptr t) e b h = absurd (let f : ⊥ = cc in f)
  under_vector s bad e b h = absurd (let f : ⊥ = cc in f)

  pub under_itself : (s : Stack) → Under w s s
  under_itself bad = under_bad
  under_itself i4 = self_under i4 (λ f. let x : ⊥ = cc in x)
  under_itself i8 = self_under i8 (λ f. let x : ⊥ = cc in x)
  under_itself native = self_under native (λ f. let x : ⊥ = cc in x)
  under_itself float = self_under float (λ f. let x : ⊥ = cc in x)
  under_itself null = self_under null (λ f. let x : ⊥ = cc in x)
  under_itself (ref t) = self_under (ref t) (λ f. let x : ⊥ = cc in x)
  under_itself (boxed t) = self_under (boxed t) (λ f. let x : ⊥ = cc in x)
  under_itself (val t) = self_under (val t) (λ f. let x : ⊥ = cc in x)
  under_itself (ptr t) = self_under (ptr t) (λ f. let x : ⊥ = cc in x)

  pub under_refines : IsTransitive w → Refines w (Under w)
  under_refines trans = record {
    itself = under_itself;
    top = λ s. under_bad;
    kinds = under_kinds;
    null_only = under_null;
    null_lower = λ t. assigned null_ref;
    assign = under_assign trans;
    vectors = under_vector;
  }
