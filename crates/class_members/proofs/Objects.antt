-- What the core's Object offers.
use Rattle.std.proofs.Common.{◌≡◌, ◌∙◌, refl, sym, ap, subst, ℕ, zero, suc, arith, ◌<◌, true, List, [], ◌∷◌, length, None}
use Rattle.std.specs.Prelude.{codes}
use Rattle.type_terms.specs.declared.term.Primitive.{Primitive}
use Rattle.type_terms.specs.declared.term.Primitive.TheVariants as prim
use Rattle.type_terms.specs.declared.term.SigType.{SigType}
use Rattle.type_terms.specs.declared.term.SigType.TheVariants as type
use Rattle.sig_pool.specs.declared.node.Node.{Node}
use Rattle.sig_pool.specs.Pool.{Extends, Has}
use Rattle.sig_pool.specs.Replaced.{terms_at}
use Rattle.sig_pool.specs.Terms.{AllBelow, term_of}
use Rattle.type_hierarchy.specs.Hierarchy.{object}
use Rattle.type_hierarchy.proofs.GrowLemmas.{below_extends, kept}
use Rattle.class_model.specs.Filled.{instance_sig}
use Rattle.class_members.specs.Facts.{offer_key, Adds, IsFact, IsNoted}
use Rattle.class_members.specs.Offers.{Offer, object_offers}
use Rattle.class_members.proofs.Adding.{adds_both, adds_one}

abbrev pub member : List ℕ → Primitive → List SigType → Offer
member name ret params = record { put = true; owner = None; name = name; sig = instance_sig (type.Prim ret) params }

pub member_adds : (ns ms : List Node) (x : Extends ns ms) (params slice : List ℕ) → slice ≡ params → AllBelow (length ns) params → (at : ℕ) (name : List ℕ) (ret : Primitive) (of : ℕ)
    (others : List SigType) (fact lent : List ℕ) (old new : List (List ℕ)) → Has ms of (type.Prim ret) →
    fact ≡ at ∷ offer_key (record { put = true; owner = None; name = name; sig = instance_sig (type.Prim ret) others }) None of slice → lent ≡ fact → IsNoted old new lent →
    Adds ms at (member name ret (terms_at ns params) ∷ []) old new
member_adds ns ms x params slice same low at name ret of others fact lent old new h is lends n =
    let f : IsFact ms at (member name ret (terms_at ns params)) fact = record {
      key = offer_key (record { put = true; owner = None; name = name; sig = instance_sig (type.Prim ret) others }) None of params;
      of = record {
        owner = None;
        ret = of;
        params = params;
        owned = tt;
        returned = h;
        taken = record { within = below_extends ns ms params x low; terms = kept ns ms params x low };
        is = refl;
      };
      is = is ∙ (λ i. at ∷ offer_key (record { put = true; owner = None; name = name; sig = instance_sig (type.Prim ret) others }) None of (same i));
    } in
    adds_one ms at (member name ret (terms_at ns params)) fact old new f (subst (IsNoted old new) lends n)

pub object_adds : (ns ms ls ks : List Node) → Extends ms ls → Extends ls ks → (at : ℕ) (name1 name2 name3 : List ℕ) (ps1 ps2 ps3 : List SigType) (old one two new : List (List ℕ)) →
    name1 ≡ codes "ToString" → name2 ≡ codes "Equals" → name3 ≡ codes "GetHashCode" → ps1 ≡ [] → ps2 ≡ object ∷ [] → ps3 ≡ [] →
    Adds ms at (member name1 prim.Str ps1 ∷ []) old one → Adds ls at (member name2 prim.Bool ps2 ∷ []) one two → Adds ks at (member name3 prim.I4 ps3 ∷ []) two new → Adds ks at object_offers old new
object_adds ns ms ls ks x y at name1 name2 name3 ps1 ps2 ps3 old one two new e1 e2 e3 f1 f2 f3 a b c =
    let p : Adds ms at (member (codes "ToString") prim.Str [] ∷ []) old one = subst (λ (o : Offer). Adds ms at (o ∷ []) old one) (λ i. member (e1 i) prim.Str (f1 i)) a in
    let q : Adds ls at (member (codes "Equals") prim.Bool (object ∷ []) ∷ []) one two = subst (λ (o : Offer). Adds ls at (o ∷ []) one two) (λ i. member (e2 i) prim.Bool (f2 i)) b in
    let r : Adds ks at (member (codes "GetHashCode") prim.I4 [] ∷ []) two new = subst (λ (o : Offer). Adds ks at (o ∷ []) two new) (λ i. member (e3 i) prim.I4 (f3 i)) c in
    adds_both ls ks at (member (codes "ToString") prim.Str [] ∷ member (codes "Equals") prim.Bool (object ∷ []) ∷ []) (member (codes "GetHashCode") prim.I4 [] ∷ []) old two new y
    (adds_both ms ls at (member (codes "ToString") prim.Str [] ∷ []) (member (codes "Equals") prim.Bool (object ∷ []) ∷ []) old one two x p q) r

pub below_none : (n : ℕ) (ids : List ℕ) → ids ≡ [] → AllBelow n ids
below_none n ids e = subst (AllBelow n) (sym e) (λ k d h. absurd (omega arith))

pub below_one : (n id : ℕ) (ids : List ℕ) → ids ≡ id ∷ [] → id < n → AllBelow n ids
below_one n id ids e low = subst (AllBelow n) (sym e) one
  where
    one : AllBelow n (id ∷ [])
    one zero d h = low
    one (suc k) d h = absurd (omega arith)

pub terms_none : (ns : List Node) (ids : List ℕ) → ids ≡ [] → terms_at ns ids ≡ []
terms_none ns ids e = ap (terms_at ns) e

pub terms_one : (ns : List Node) (id : ℕ) (ids : List ℕ) (t : SigType) → ids ≡ id ∷ [] → term_of ns id ≡ t → terms_at ns ids ≡ t ∷ []
terms_one ns id ids t e h = ap (terms_at ns) e ∙ ap (λ (u : SigType). u ∷ []) h
