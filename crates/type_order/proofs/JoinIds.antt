-- Joins of values of a pool.
use Rattle.std.proofs.Common.{◌≡◌, ◌⊎◌, refl, sym, ◌∙◌, ap, subst, ℕ, arith, Bool, true, false, List, length, None, Some, if◌then◌else◌}
use Rattle.sig_pool.specs.declared.node.Node.{Node}
use Rattle.sig_pool.specs.Pool.{Extends}
use Rattle.sig_pool.specs.Terms.{term_of}
use Rattle.type_hierarchy.specs.declared.stack_type.StackType.{StackType}
use Rattle.type_hierarchy.specs.declared.stack_type.StackType.TheVariants.{I4, I8, N, F, Null, Ref, Boxed, Val, Ptr, Bad}
use Rattle.type_order.specs.Common.{HasNearest}
use Rattle.type_hierarchy.specs.Hierarchy.{Hierarchy}
use Rattle.type_order.specs.Joining.{is_null, as_object, beside_null, JoinsAs}
use Rattle.type_hierarchy.specs.Meaning.{meant, IsWithin}
use Rattle.type_hierarchy.specs.Pooled.{HasOption}
use Rattle.type_hierarchy.specs.Relations.{IsJoin, null_below_ref, null_below_boxed}
use Rattle.type_hierarchy.specs.Stack as stack
use Rattle.type_order.specs.Starts.{start}
use Rattle.type_hierarchy.proofs.Climbing.{none_some}
use Rattle.type_hierarchy.proofs.GrowLemmas.{extends_long}
use Rattle.type_order.proofs.JoinLemmas.{join_equal, join_above, join_under, join_starts, join_bad, NoNull, IsObjectLike}

-- ---- as the pool grows

pub within_kept : (ns ms : List Node) (s : StackType) → Extends ns ms → IsWithin (length ns) s → IsWithin (length ms) s
within_kept ns ms (Ref k) x h = let l = extends_long ns ms x in omega arith
within_kept ns ms (Boxed k) x h = let l = extends_long ns ms x in omega arith
within_kept ns ms (Val k) x h = let l = extends_long ns ms x in omega arith
within_kept ns ms (Ptr k) x h = let l = extends_long ns ms x in omega arith
within_kept ns ms I4 x h = tt
within_kept ns ms I8 x h = tt
within_kept ns ms N x h = tt
within_kept ns ms F x h = tt
within_kept ns ms Null x h = tt
within_kept ns ms Bad x h = tt

pub meant_kept : (ns ms : List Node) (s : StackType) → Extends ns ms → IsWithin (length ns) s → meant ms s ≡ meant ns s
meant_kept ns ms (Ref k) x h = ap stack.ref (x.terms k h)
meant_kept ns ms (Boxed k) x h = ap stack.boxed (x.terms k h)
meant_kept ns ms (Val k) x h = ap stack.val (x.terms k h)
meant_kept ns ms (Ptr k) x h = ap stack.ptr (x.terms k h)
meant_kept ns ms I4 x h = refl
meant_kept ns ms I8 x h = refl
meant_kept ns ms N x h = refl
meant_kept ns ms F x h = refl
meant_kept ns ms Null x h = refl
meant_kept ns ms Bad x h = refl

-- ---- equal types

pub joins_equal : (w : Hierarchy) (ns : List Node) (s t : StackType) → meant ns s ≡ meant ns t → IsWithin (length ns) s → JoinsAs w ns s t ns s
joins_equal w ns s t e h = record { within = h; is = join_equal w (meant ns s) (meant ns t) e }

-- ---- null

pub null_is : (s : StackType) → is_null s ≡ true → s ≡ Null
null_is Null e = refl
null_is (Ref k) e = absurd (let h : ⊥ = cc in h)
null_is (Boxed k) e = absurd (let h : ⊥ = cc in h)
null_is (Val k) e = absurd (let h : ⊥ = cc in h)
null_is (Ptr k) e = absurd (let h : ⊥ = cc in h)
null_is I4 e = absurd (let h : ⊥ = cc in h)
null_is I8 e = absurd (let h : ⊥ = cc in h)
null_is N e = absurd (let h : ⊥ = cc in h)
null_is F e = absurd (let h : ⊥ = cc in h)
null_is Bad e = absurd (let h : ⊥ = cc in h)

abbrev pub stack_null : stack.Stack → Bool
stack_null stack.null = true
stack_null (stack.ref t) = false
stack_null (stack.boxed t) = false
stack_null (stack.val t) = false
stack_null (stack.ptr t) = false
stack_null stack.i4 = false
stack_null stack.i8 = false
stack_null stack.native = false
stack_null stack.float = false
stack_null stack.bad = false

pub null_meant : (ns : List Node) (s : StackType) → stack_null (meant ns s) ≡ is_null s
null_meant ns Null = refl
null_meant ns (Ref k) = refl
null_meant ns (Boxed k) = refl
null_meant ns (Val k) = refl
null_meant ns (Ptr k) = refl
null_meant ns I4 = refl
null_meant ns I8 = refl
null_meant ns N = refl
null_meant ns F = refl
null_meant ns Bad = refl

true_false : {b : Bool} → b ≡ true → b ≡ false → ⊥
true_false e f = let h : ⊥ = cc in h

not_null : (ns : List Node) (s : StackType) → is_null s ≡ false → meant ns s ≡ stack.null → ⊥
not_null ns s e f = true_false (sym (null_meant ns s) ∙ ap stack_null f) e

-- beside null stands the reference or boxed value
under_object : (w : Hierarchy) (ns : List Node) (t j : StackType) → as_object t ≡ Some j → IsWithin (length ns) t
    → (IsWithin (length ns) j × IsJoin w stack.null (meant ns t) (meant ns j)) × IsJoin w (meant ns t) stack.null (meant ns j)
under_object w ns (Ref k) j e h =
    let same : Ref k ≡ j = cc in
    subst (λ (x : StackType). (IsWithin (length ns) x × IsJoin w stack.null (stack.ref (term_of ns k)) (meant ns x)) × IsJoin w (stack.ref (term_of ns k)) stack.null (meant ns x)) same
    ((h, join_above w stack.null (stack.ref (term_of ns k)) null_below_ref), join_under w (stack.ref (term_of ns k)) stack.null null_below_ref)
under_object w ns (Boxed k) j e h =
    let same : Boxed k ≡ j = cc in
    subst (λ (x : StackType). (IsWithin (length ns) x × IsJoin w stack.null (stack.boxed (term_of ns k)) (meant ns x)) × IsJoin w (stack.boxed (term_of ns k)) stack.null (meant ns x)) same
    ((h, join_above w stack.null (stack.boxed (term_of ns k)) null_below_boxed), join_under w (stack.boxed (term_of ns k)) stack.null null_below_boxed)
under_object w ns I4 j e h = absurd (none_some refl e)
under_object w ns I8 j e h = absurd (none_some refl e)
under_object w ns N j e h = absurd (none_some refl e)
under_object w ns F j e h = absurd (none_some refl e)
under_object w ns Null j e h = absurd (none_some refl e)
under_object w ns (Val k) j e h = absurd (none_some refl e)
under_object w ns (Ptr k) j e h = absurd (none_some refl e)
under_object w ns Bad j e h = absurd (none_some refl e)

pub joins_null : (w : Hierarchy) (ns : List Node) (s t j : StackType) → beside_null s t ≡ Some j → IsWithin (length ns) s → IsWithin (length ns) t → JoinsAs w ns s t ns j
joins_null w ns s t j e p q = go (is_null s) refl (is_null t) refl e
  where
    go : (b : Bool) → is_null s ≡ b → (c : Bool) → is_null t ≡ c → (if b then as_object t else if c then as_object s else None) ≡ Some j → JoinsAs w ns s t ns j
    go true f c g h =
        let u = under_object w ns t j h q in
        record { within = u.0.0; is = subst (λ (x : StackType). IsJoin w (meant ns x) (meant ns t) (meant ns j)) (sym (null_is s f)) u.0.1 }
    go false f true g h =
        let u = under_object w ns s j h p in
        record { within = u.0.0; is = subst (λ (x : StackType). IsJoin w (meant ns s) (meant ns x) (meant ns j)) (sym (null_is t g)) u.1 }
    go false f false g h = absurd (none_some refl h)

no_object : (ns : List Node) (t : StackType) → as_object t ≡ None → IsObjectLike (meant ns t) → ⊥
no_object ns (Ref k) e h = none_some e refl
no_object ns (Boxed k) e h = none_some e refl
no_object ns I4 e h = h
no_object ns I8 e h = h
no_object ns N e h = h
no_object ns F e h = h
no_object ns Null e h = h
no_object ns (Val k) e h = h
no_object ns (Ptr k) e h = h
no_object ns Bad e h = h

no_null : (ns : List Node) (s t : StackType) → (meant ns s ≡ meant ns t → ⊥) → beside_null s t ≡ None → NoNull (meant ns s) (meant ns t)
no_null ns s t apart e = go (is_null s) refl (is_null t) refl e
  where
    go : (b : Bool) → is_null s ≡ b → (c : Bool) → is_null t ≡ c → (if b then as_object t else if c then as_object s else None) ≡ None → NoNull (meant ns s) (meant ns t)
    go true f true g h = absurd (apart (ap (meant ns) (null_is s f ∙ sym (null_is t g))))
    go true f false g h = record { left = λ k. no_object ns t h; right = λ k. absurd (not_null ns t g k) }
    go false f true g h = record { left = λ k. absurd (not_null ns s f k); right = λ k. no_object ns s h }
    go false f false g h = record { left = λ k. absurd (not_null ns s f k); right = λ k. absurd (not_null ns t g k) }

-- ---- the rest

pub joins_bad : (w : Hierarchy) (ns ms : List Node) (s t : StackType) → (meant ns s ≡ meant ns t → ⊥) → beside_null s t ≡ None
    → (start w (meant ns s) ≡ None) ⊎ (start w (meant ns t) ≡ None) → JoinsAs w ns s t ms Bad
joins_bad w ns ms s t apart e none = record { within = tt; is = join_bad w (meant ns s) (meant ns t) apart (no_null ns s t apart e) none }

-- two starts, found one after the other, and the nearest type above both
pub joins_starts : (w : Hierarchy) (ns ms ls ks : List Node) (s t : StackType) (a b r : ℕ) → (meant ns s ≡ meant ns t → ⊥) → IsWithin (length ns) t
    → Extends ns ms → HasOption ms (Some a) (start w (meant ns s)) → Extends ms ls → HasOption ls (Some b) (start w (meant ms t))
    → HasNearest w (term_of ls a) (term_of ls b) ks r → JoinsAs w ns s t ks (Ref r)
joins_starts w ns ms ls ks s t a b r apart q x (u, e, h) y (v, f, g) n =
    let eu : term_of ls a ≡ u = y.terms a h.within ∙ h.term in
    let es : start w (meant ns s) ≡ Some (term_of ls a) = e ∙ ap Some (sym eu) in
    let et : start w (meant ns t) ≡ Some (term_of ls b) = ap (start w) (sym (meant_kept ns ms t x q)) ∙ f ∙ ap Some (sym g.term) in
    record { within = n.within; is = join_starts w (meant ns s) (meant ns t) (term_of ls a) (term_of ls b) (term_of ks r) apart es et n.nearest }
