-- How offers and wants are written.
use Rattle.std.proofs.Common.{◌≡◌, ◌∙◌, refl, sym, ap, subst, ℕ, ◌<◌, Bool, true, false, List, ◌∷◌, length, drop, map, arith, is_some, Option, None, Some}
use Rattle.std.specs.Option.{option_map, ForSome}
use Rattle.type_terms.specs.declared.reference.MethodSig.{MethodSig}
use Rattle.type_terms.specs.declared.term.SigType.{SigType}
use Rattle.assembly_tree.specs.declared.members.Method.{Method}
use Rattle.sig_pool.specs.declared.node.Node.{Node}
use Rattle.sig_pool.specs.Pool.{Extends, Has, HasAll}
use Rattle.sig_pool.specs.Replaced.{terms_at}
use Rattle.sig_pool.specs.Terms.{AllBelow, term_of}
use Rattle.type_hierarchy.specs.Normal.{normal}
use Rattle.type_hierarchy.specs.Pooled.{put_in}
use Rattle.type_hierarchy.specs.Tables.{hierarchy_in}
use Rattle.type_hierarchy.specs.World.{Content, Stays, hierarchy, type_at}
use Rattle.type_hierarchy.proofs.GrowLemmas.{args_kept, extends_trans, has_extends}
use Rattle.type_order.specs.Keys.{reading_of}
use Rattle.type_order.specs.Parts.{type_arguments}
use Rattle.class_model.specs.Slots.{plain_sig, sig_by, sig_of}
use Rattle.class_members.specs.Facts.{offer_key, HasOwner, IsFact, IsKeyOf, IsWanted}
use Rattle.class_members.specs.Offers.{Offer, applied_sig}
use Rattle.class_members.specs.Wants.{member_want, written_want, applied_want}
use Rattle.class_members.specs.declared.wanting.Wanted.{Wanted}
use Rattle.class_members.proofs.Finding.{key_extends}
use Rattle.class_members.proofs.Worlds.{in_old, stays_on}

owner_has : (ns ms : List Node) (x : Extends ns ms) (owner : Option ℕ) → ForSome owner (λ k. k < length ns) → HasOwner ms owner (option_map (term_of ns) owner)
owner_has ns ms x None h = tt
owner_has ns ms x (Some k) h = has_extends ns ms k (term_of ns k) (record { within = h k refl; term = refl }) x

-- a fact from the ids of its types
pub fact_is : (w0 w1 w2 : Content) (s : Stays w0 w1) (u : Stays w1 w2) (o : Option (List ℕ)) → ForSome o (λ ks. AllBelow (length w0.nodes) ks) → (at : ℕ) (put : Bool) (owner : Option ℕ) →
    ForSome owner (λ k. k < length w0.nodes) → (name : List ℕ) (sig : MethodSig) (ret : ℕ) (params fact : List ℕ) →
    Has w1.nodes ret (put_in (option_map (terms_at w0.nodes) o) (normal (reading_of (hierarchy w0)) sig.ret)) →
    HasAll w2.nodes params (map (λ t. put_in (option_map (terms_at w1.nodes) o) (normal (reading_of (hierarchy w1)) t)) sig.params) →
    fact ≡ at ∷ offer_key (record { put = put; owner = None; name = name; sig = sig }) owner ret params →
    IsFact w2.nodes at (record { put = put; owner = option_map (type_at w0) owner; name = name; sig = sig_by (hierarchy w0) (put_in (option_map (terms_at w0.nodes) o)) sig }) fact
fact_is w0 w1 w2 s u o below at put owner own name sig ret params fact h all is =
    let k = args_kept w0.nodes w1.nodes o s.nodes below in
    let all0 = subst (HasAll w2.nodes params) (λ i. map (λ t. put_in (k i) (normal (reading_of (hierarchy_in (s.tables i))) t)) sig.params) all in
    record {
      key = offer_key (record { put = put; owner = None; name = name; sig = sig }) owner ret params;
      of = record {
        owner = owner;
        ret = ret;
        params = params;
        owned = owner_has w0.nodes w2.nodes (extends_trans w0.nodes w1.nodes w2.nodes s.nodes u.nodes) owner own;
        returned = has_extends w1.nodes w2.nodes ret _ h u.nodes;
        taken = all0;
        is = refl;
      };
      is = is;
    }

-- with what its parts are lent as
pub fact_made : (w0 w1 w2 : Content) (s : Stays w0 w1) (u : Stays w1 w2) (o : Option (List ℕ)) → ForSome o (λ ks. AllBelow (length w0.nodes) ks) → (at : ℕ) (put : Bool) → put ≡ is_some o →
    (owner : Option ℕ) → ForSome owner (λ k. k < length w0.nodes) → (name bytes : List ℕ) → bytes ≡ name → (sig : MethodSig) (types : List SigType) → types ≡ sig.params →
    (ret : ℕ) (params keys fact : List ℕ) → keys ≡ params → Has w1.nodes ret (put_in (option_map (terms_at w0.nodes) o) (normal (reading_of (hierarchy w0)) sig.ret)) →
    HasAll w2.nodes params (map (λ t. put_in (option_map (terms_at w1.nodes) o) (normal (reading_of (hierarchy w1)) t)) types) →
    fact ≡ at ∷ offer_key (record { put = put; owner = None; name = bytes; sig = sig }) owner ret keys →
    IsFact w2.nodes at (record { put = is_some o; owner = option_map (type_at w0) owner; name = name; sig = sig_by (hierarchy w0) (put_in (option_map (terms_at w0.nodes) o)) sig }) fact
fact_made w0 w1 w2 s u o below at put is_put owner own name bytes is_name sig types is_types ret params keys fact is_keys h all is =
    fact_is w0 w1 w2 s u o below at (is_some o) owner own name sig ret params fact h
    (subst (λ (ts : List SigType). HasAll w2.nodes params (map (λ t. put_in (option_map (terms_at w1.nodes) o) (normal (reading_of (hierarchy w1)) t)) ts)) is_types all)
    (is ∙ (λ i. at ∷ offer_key (record { put = is_put i; owner = None; name = is_name i; sig = sig }) owner ret (is_keys i)))

key_of_fact : (ns : List Node) (at : ℕ) (x : Offer) (fact : List ℕ) → IsFact ns at x fact → IsKeyOf ns x (drop 1 fact)
key_of_fact ns at x fact f = subst (λ (l : List ℕ). IsKeyOf ns x (drop 1 l)) (sym f.is) f.of

key_at : (ns ms : List Node) (at : ℕ) (x y : Offer) (fact : List ℕ) → Extends ns ms → x ≡ y → IsFact ns at x fact → IsKeyOf ms y (drop 1 fact)
key_at ns ms at x y fact e same f = subst (λ (z : Offer). IsKeyOf ms z (drop 1 fact)) same (key_extends ns ms x (drop 1 fact) e (key_of_fact ns at x fact f))

module _ (w0 w1 w2 w3 : Content) (s1 : Stays w0 w1) (s2 : Stays w1 w2) (s3 : Stays w2 w3) (face : ℕ) (low : face < length w0.nodes) (args : List ℕ)
    (h : HasAll w0.nodes args (type_arguments (type_at w0 face))) (m : Method) where
  s12 : Stays w0 w2
  s12 = stays_on w0 w1 w2 s1 s2

  member_is : record { put = true; owner = None; name = m.name; sig = applied_sig (hierarchy w0) (terms_at w0.nodes args) m.sig } ≡ member_want (hierarchy w0) (type_at w0 face) m
  member_is = λ i. record { put = true; owner = None; name = m.name; sig = applied_sig (hierarchy w0) (h.terms i) m.sig }

  written_is : record { put = false; owner = Some (type_at w1 face); name = m.name; sig = plain_sig (hierarchy w1) m.sig } ≡ written_want (hierarchy w0) (type_at w0 face) m
  written_is = λ i. record { put = false; owner = Some (s1.nodes.terms face low i); name = m.name; sig = plain_sig (hierarchy_in (s1.tables i)) m.sig }

  applied_is : record { put = true; owner = Some (type_at w2 face); name = m.name; sig = applied_sig (hierarchy w2) (terms_at w2.nodes args) m.sig } ≡ applied_want (hierarchy w0) (type_at w0 face) m
  applied_is =
      let sig : applied_sig (hierarchy w2) (terms_at w2.nodes args) m.sig ≡ sig_of (hierarchy w0) (type_at w0 face) m.sig =
      in_old (λ v ts. applied_sig v ts m.sig) w0 w2 args s12 h.within ∙ ap (λ (ts : List SigType). applied_sig (hierarchy w0) ts m.sig) h.terms in
      λ i. record { put = true; owner = Some (s12.nodes.terms face low i); name = m.name; sig = sig i }

  pub wanted_is : (x : Wanted) →
      IsFact w1.nodes face (record { put = true; owner = None; name = m.name; sig = applied_sig (hierarchy w0) (terms_at w0.nodes args) m.sig }) x.member →
      IsFact w2.nodes face (record { put = false; owner = Some (type_at w1 face); name = m.name; sig = plain_sig (hierarchy w1) m.sig }) x.written →
      IsFact w3.nodes face (record { put = true; owner = Some (type_at w2 face); name = m.name; sig = applied_sig (hierarchy w2) (terms_at w2.nodes args) m.sig }) x.applied →
      IsWanted w3.nodes (hierarchy w0) (type_at w0 face) m x
  wanted_is x a b c = record {
    member = key_at w1.nodes w3.nodes face _ _ x.member (extends_trans w1.nodes w2.nodes w3.nodes s2.nodes s3.nodes) member_is a;
    written = key_at w2.nodes w3.nodes face _ _ x.written s3.nodes written_is b;
    applied = subst (λ (z : Offer). IsKeyOf w3.nodes z (drop 1 x.applied)) applied_is (key_of_fact w3.nodes face _ x.applied c);
  }

pub fact_long : (ns : List Node) (at : ℕ) (x : Offer) (fact : List ℕ) → IsFact ns at x fact → 0 < length fact
fact_long ns at x fact f = subst (λ (l : List ℕ). 0 < length l) (sym f.is) (omega arith)
