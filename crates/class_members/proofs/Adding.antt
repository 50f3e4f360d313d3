-- Facts that are added.
use Rattle.std.proofs.Common.{◌≡◌, ◌∙◌, sym, ap, subst, ◌⊎◌, inl, inr, ℕ, ◌+◌, ◌<◌, Bool, true, false, if◌then◌else◌, List, [], ◌∷◌, ◌++◌, length, get_or, take, Option, None, Some}
use Rattle.std.specs.List.{Contains, flat_map}
use Rattle.std.proofs.lemmas.List.Elements.{Contains-append_left, Contains-append_cases}
use Rattle.sig_pool.specs.declared.node.Node.{Node}
use Rattle.type_terms.specs.declared.reference.MethodRef.{MethodRef}
use Rattle.type_terms.specs.declared.term.SigType.{SigType}
use Rattle.assembly_tree.specs.declared.assembly.Assembly.{Assembly}
use Rattle.assembly_tree.specs.declared.members.Method.{Method}
use Rattle.assembly_tree.specs.declared.typedef.TypeDef.{TypeDef}
use Rattle.assembly_tree.specs.declared.typedef.TypeDef.TheViews.{out-TypeDef}
use Rattle.sig_pool.specs.Pool.{Extends, Has}
use Rattle.sig_pool.specs.Replaced.{terms_at}
use Rattle.sig_pool.specs.Terms.{AllBelow}
use Rattle.type_hierarchy.specs.Tables.{hierarchy_in}
use Rattle.type_hierarchy.specs.World.{Content, Stays, hierarchy, type_at}
use Rattle.type_hierarchy.specs.Hierarchy.{Hierarchy}
use Rattle.type_order.specs.Parts.{type_arguments}
use Rattle.class_model.specs.Classes.{declaration}
use Rattle.class_model.specs.Slots.{is_provider, methods_of, plain_sig}
use Rattle.class_model.proofs.Members.{nothing_in, first_in, first_or_later}
use Rattle.class_members.specs.Facts.{IsNoted, IsFact, IsOneOf, Adds}
use Rattle.class_members.specs.Offers.{Offer, applied_sig, offers_by, offers_in, override_offers, override_owner, overrides_by, overrides_in, own_offers}
use Rattle.class_members.proofs.Finding.{fact_extends}
use Rattle.class_members.proofs.Lists.{in_right, all_more}
use Rattle.class_members.proofs.Worlds.{in_old, stays_on}

pub adds_none : (ns : List Node) (at : ℕ) (old : List (List ℕ)) → Adds ns at [] old old
adds_none ns at old = record { kept = λ k c. c; has = λ x c. absurd (nothing_in x c); only = λ k c. inl c }

pub adds_one : (ns : List Node) (at : ℕ) (x : Offer) (fact : List ℕ) (old new : List (List ℕ)) → IsFact ns at x fact → IsNoted old new fact → Adds ns at (x ∷ []) old new
adds_one ns at x fact old new f n = record { kept = n.kept; has = has; only = only }
  where
    has : (y : Offer) → Contains (x ∷ []) y → (k : List ℕ) × IsFact ns at y k × Contains new k
    has y c = elim (first_or_later x [] y c) [
      | inl e ↦ (fact, subst (λ (o : Offer). IsFact ns at o fact) e f, n.has)
      | inr d ↦ absurd (nothing_in y d)
    ]

    only : (k : List ℕ) → Contains new k → Contains old k ⊎ IsOneOf ns at (x ∷ []) k
    only k c = elim (n.only k c) [
      | inl d ↦ inl d
      | inr e ↦ inr (record { offer = x; among = first_in x []; is = subst (IsFact ns at x) (sym e) f })
    ]

one_of_left : (ns ms : List Node) (at : ℕ) (xs ys : List Offer) (k : List ℕ) → Extends ns ms → IsOneOf ns at xs k → IsOneOf ms at (xs ++ ys) k
one_of_left ns ms at xs ys k e o =
    record { offer = o.offer; among = Contains-append_left xs ys o.offer o.among; is = fact_extends ns ms at o.offer k e o.is }

pub adds_both : (ns ms : List Node) (at : ℕ) (xs ys : List Offer) (old middle new : List (List ℕ)) → Extends ns ms → Adds ns at xs old middle → Adds ms at ys middle new →
    Adds ms at (xs ++ ys) old new
adds_both ns ms at xs ys old middle new e a b = record { kept = λ k c. b.kept k (a.kept k c); has = has; only = only }
  where
    has : (x : Offer) → Contains (xs ++ ys) x → (k : List ℕ) × IsFact ms at x k × Contains new k
    has x c = elim (Contains-append_cases xs ys x c) [
      | inl d ↦ let h = a.has x d in (h.0, fact_extends ns ms at x h.0 e h.1, b.kept h.0 h.2)
      | inr d ↦ b.has x d
    ]

    only : (k : List ℕ) → Contains new k → Contains old k ⊎ IsOneOf ms at (xs ++ ys) k
    only k c = elim (b.only k c) [
      | inl d ↦ elim (a.only k d) [
        | inl f ↦ inl f
        | inr o ↦ inr (one_of_left ns ms at xs ys k e o)
      ]
      | inr o ↦ inr (record { offer = o.offer; among = in_right xs ys o.offer o.among; is = o.is })
    ]

-- those of one item more
pub adds_more : {X : Type 0} (f : X → List Offer) (ns ms : List Node) (at : ℕ) (items : List X) (k : ℕ) (x : X) (old middle new : List (List ℕ)) → Extends ns ms →
    Adds ns at (flat_map f (take k items)) old middle → Adds ms at (f x) middle new → k < length items → x ≡ get_or items k x →
    Adds ms at (flat_map f (take (k + 1) items)) old new
adds_more f ns ms at items k x old middle new e a b low is =
    subst (λ (l : List Offer). Adds ms at l old new) (sym (all_more f items k x low is)) (adds_both ns ms at (flat_map f (take k items)) (f x) old middle new e a b)

pub adds_if : (ns : List Node) (at : ℕ) (b : Bool) (xs : List Offer) (old new : List (List ℕ)) → b ≡ true → Adds ns at xs old new → Adds ns at (if b then xs else []) old new
adds_if ns at b xs old new e a = subst (λ (v : Bool). Adds ns at (if v then xs else []) old new) (sym e) a

pub adds_unless : (ns : List Node) (at : ℕ) (b : Bool) (xs : List Offer) (old : List (List ℕ)) → b ≡ false → Adds ns at (if b then xs else []) old old
adds_unless ns at b xs old e = subst (λ (v : Bool). Adds ns at (if v then xs else []) old old) (sym e) (adds_none ns at old)

-- an override, before and after arguments are put in
module _ (w0 w1 w2 w3 : Content) (s1 : Stays w0 w1) (s2 : Stays w1 w2) (s3 : Stays w2 w3) (args : List ℕ) (low : AllBelow (length w0.nodes) args) (o : MethodRef) (owner at : ℕ)
    (h : Has w1.nodes owner (override_owner (hierarchy w0) (terms_at w0.nodes args) o)) where
  abbrev as_written : Offer
  as_written = record { put = false; owner = Some (type_at w1 owner); name = o.name; sig = plain_sig (hierarchy w1) o.sig }

  abbrev as_applied : Offer
  as_applied = record { put = true; owner = Some (type_at w2 owner); name = o.name; sig = applied_sig (hierarchy w2) (terms_at w2.nodes args) o.sig }

  written_is : as_written ≡ record { put = false; owner = Some (override_owner (hierarchy w0) (terms_at w0.nodes args) o); name = o.name; sig = plain_sig (hierarchy w0) o.sig }
  written_is = λ i. record { put = false; owner = Some (h.term i); name = o.name; sig = plain_sig (hierarchy_in (s1.tables i)) o.sig }

  applied_is : as_applied ≡ record { put = true; owner = Some (override_owner (hierarchy w0) (terms_at w0.nodes args) o); name = o.name; sig = applied_sig (hierarchy w0) (terms_at w0.nodes args) o.sig }
  applied_is =
      let owned : type_at w2 owner ≡ override_owner (hierarchy w0) (terms_at w0.nodes args) o = s2.nodes.terms owner h.within ∙ h.term in
      let sig : applied_sig (hierarchy w2) (terms_at w2.nodes args) o.sig ≡ applied_sig (hierarchy w0) (terms_at w0.nodes args) o.sig =
      in_old (λ v ts. applied_sig v ts o.sig) w0 w2 args (stays_on w0 w1 w2 s1 s2) low in
      λ i. record { put = true; owner = Some (owned i); name = o.name; sig = sig i }

  pub adds_override : (plain applied : List ℕ) (old middle new : List (List ℕ)) → IsFact w2.nodes at as_written plain → IsFact w3.nodes at as_applied applied → IsNoted old middle plain →
      IsNoted middle new applied → Adds w3.nodes at (override_offers (hierarchy w0) (terms_at w0.nodes args) o) old new
  adds_override plain applied old middle new p q m n =
      let a = adds_one w2.nodes at _ plain old middle (subst (λ (x : Offer). IsFact w2.nodes at x plain) written_is p) m in
      let b = adds_one w3.nodes at _ applied middle new (subst (λ (x : Offer). IsFact w3.nodes at x applied) applied_is q) n in
      adds_both w2.nodes w3.nodes at _ _ old middle new s3.nodes a b

-- a method
pub adds_own : (w : Hierarchy) (ns : List Node) (args : List SigType) (at : ℕ) (m : Method) (fact : List ℕ) (old new : List (List ℕ)) (b : Bool) → b ≡ is_provider m → b ≡ true →
    IsFact ns at (record { put = true; owner = None; name = m.name; sig = applied_sig w args m.sig }) fact → IsNoted old new fact → Adds ns at (own_offers w args m) old new
adds_own w ns args at m fact old new b e t f n = adds_if ns at (is_provider m) _ old new (sym e ∙ t) (adds_one ns at _ fact old new f n)

pub adds_not : (w : Hierarchy) (ns : List Node) (args : List SigType) (at : ℕ) (m : Method) (old : List (List ℕ)) (b : Bool) → b ≡ is_provider m → b ≡ false → Adds ns at (own_offers w args m) old old
adds_not w ns args at m old b e f = adds_unless ns at (is_provider m) _ old (sym e ∙ f)

-- what the methods of a type offer
pub offers_are : (a : Assembly) (w : Hierarchy) (t : SigType) (d : TypeDef) (methods : List Method) (args : List SigType) → Some d ≡ declaration a w t → methods ≡ (out-TypeDef d).methods →
    args ≡ type_arguments t → flat_map (offers_by w args) methods ≡ offers_in a w t
offers_are a w t d methods args e m g = (λ i. flat_map (offers_by w (g i)) (m i)) ∙ ap (λ (o : Option TypeDef). flat_map (offers_by w (type_arguments t)) (methods_of o)) e

pub overrides_are : (a : Assembly) (w : Hierarchy) (t : SigType) (d : TypeDef) (methods : List Method) (args : List SigType) → Some d ≡ declaration a w t → methods ≡ (out-TypeDef d).methods →
    args ≡ type_arguments t → flat_map (overrides_by w args) methods ≡ overrides_in a w t
overrides_are a w t d methods args e m g = (λ i. flat_map (overrides_by w (g i)) (m i)) ∙ ap (λ (o : Option TypeDef). flat_map (overrides_by w (type_arguments t)) (methods_of o)) e

pub offers_none : (a : Assembly) (w : Hierarchy) (t : SigType) → None ≡ declaration a w t → [] ≡ offers_in a w t
offers_none a w t e = ap (λ (o : Option TypeDef). flat_map (offers_by w (type_arguments t)) (methods_of o)) e

pub overrides_none : (a : Assembly) (w : Hierarchy) (t : SigType) → None ≡ declaration a w t → [] ≡ overrides_in a w t
overrides_none a w t e = ap (λ (o : Option TypeDef). flat_map (overrides_by w (type_arguments t)) (methods_of o)) e
