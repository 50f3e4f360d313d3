-- Facts are found by ids and keys.
use Rattle.std.proofs.Common.{◌≡◌, ◌∙◌, refl, sym, ap, subst, ◌↔◌, ℕ, suc, Bool, true, false, arith, List, [], ◌∷◌, ◌++◌, length, map, Option, None, Some}
use Rattle.std.specs.List.{Contains}
use Rattle.type_terms.specs.declared.reference.MethodSig.{MethodSig}
use Rattle.type_terms.specs.declared.term.SigType.{SigType}
use Rattle.sig_pool.specs.declared.node.Node.{Node}
use Rattle.sig_pool.specs.Key.{flag}
use Rattle.sig_pool.specs.Pool.{IsPool, Extends, Has}
use Rattle.sig_pool.specs.Terms.{AllBelow, term_of}
use Rattle.sig_pool.proofs.PoolLaws.{same_terms}
use Rattle.type_hierarchy.proofs.GrowLemmas.{has_extends, all_extends}
use Rattle.class_members.specs.Facts.{offer_key, optional_key, HasOwner, IsKeyOf, IsFact, Holds}
use Rattle.class_members.specs.Offers.{Offer}

-- ---- numbers that are read back

head : {a b : ℕ} {x y : List ℕ} → a ∷ x ≡ b ∷ y → a ≡ b
head e = cc

rest : {a b : ℕ} {x y : List ℕ} → a ∷ x ≡ b ∷ y → x ≡ y
rest e = cc

fronts : (xs ys x y : List ℕ) → length xs ≡ length ys → xs ++ x ≡ ys ++ y → (xs ≡ ys) × (x ≡ y)
fronts [] [] x y l e = (refl, e)
fronts [] (b ∷ ys) x y l e = absurd (omega arith)
fronts (a ∷ xs) [] x y l e = absurd (omega arith)
fronts (a ∷ xs) (b ∷ ys) x y l e =
    let t = fronts xs ys x y (omega arith) (rest e) in
    let h : a ≡ b = head e in
    (λ i. h i ∷ t.0 i, t.1)

flags : (v w : Bool) → flag v ≡ flag w → v ≡ w
flags false false e = refl
flags false true e = absurd (omega arith)
flags true false e = absurd (omega arith)
flags true true e = refl

optionals : (a b : Option ℕ) (x y : List ℕ) → optional_key a ++ x ≡ optional_key b ++ y → (a ≡ b) × (x ≡ y)
optionals None None x y e = (refl, rest (rest e))
optionals None (Some n) x y e = absurd (omega (arith, head e))
optionals (Some n) None x y e = absurd (omega (arith, head e))
optionals (Some n) (Some m) x y e = (ap Some (head (rest e)), rest (rest e))

record SameParts (x y : Offer) (o p : Option ℕ) (r s : ℕ) (ps qs : List ℕ) : Type 0 where
  put : x.put ≡ y.put
  owner : o ≡ p
  name : x.name ≡ y.name
  has_this : x.sig.has_this ≡ y.sig.has_this
  explicit_this : x.sig.explicit_this ≡ y.sig.explicit_this
  vararg : x.sig.vararg ≡ y.sig.vararg
  generic : x.sig.generic ≡ y.sig.generic
  sentinel : x.sig.sentinel ≡ y.sig.sentinel
  ret : r ≡ s
  params : ps ≡ qs

parts : (x y : Offer) (o p : Option ℕ) (r s : ℕ) (ps qs : List ℕ) → offer_key x o r ps ≡ offer_key y p s qs → SameParts x y o p r s ps qs
parts x y o p r s ps qs e =
    let a = optionals o p _ _ (rest e) in
    let b = fronts x.name y.name _ _ (head a.1) (rest a.1) in
    let f = b.1 in
    let g = rest (rest (rest (rest f))) in
    let d = optionals x.sig.sentinel y.sig.sentinel (r ∷ ps) (s ∷ qs) g in
    record {
      put = flags x.put y.put (head e);
      owner = a.0;
      name = b.0;
      has_this = flags x.sig.has_this y.sig.has_this (head f);
      explicit_this = flags x.sig.explicit_this y.sig.explicit_this (head (rest f));
      vararg = flags x.sig.vararg y.sig.vararg (head (rest (rest f)));
      generic = head (rest (rest (rest f)));
      sentinel = d.0;
      ret = head d.1;
      params = rest d.1;
    }

-- ---- keys of offers

owner_same : (ns : List Node) (o p : Option ℕ) (s t : Option SigType) → HasOwner ns o s → HasOwner ns p t → o ≡ p → s ≡ t
owner_same ns None None None None h g e = refl
owner_same ns None None None (Some t) h g e = absurd g
owner_same ns None None (Some s) t h g e = absurd h
owner_same ns (Some i) (Some j) (Some s) (Some t) h g e =
    let same : i ≡ j = cc in
    ap Some (sym h.term ∙ ap (term_of ns) same ∙ g.term)
owner_same ns (Some i) (Some j) (Some s) None h g e = absurd g
owner_same ns (Some i) (Some j) None t h g e = absurd h
owner_same ns None (Some j) s t h g e = cc
owner_same ns (Some i) None s t h g e = cc

offer_same : (x y : Offer) → x.put ≡ y.put → x.owner ≡ y.owner → x.name ≡ y.name → x.sig ≡ y.sig → x ≡ y
offer_same x y a b c d = λ i. record { put = a i; owner = b i; name = c i; sig = d i }

sig_same : (s t : MethodSig) → s.has_this ≡ t.has_this → s.explicit_this ≡ t.explicit_this → s.vararg ≡ t.vararg → s.generic ≡ t.generic → s.ret ≡ t.ret → s.params ≡ t.params →
    s.sentinel ≡ t.sentinel → s ≡ t
sig_same s t a b c d e f g =
    λ i. record { has_this = a i; explicit_this = b i; vararg = c i; generic = d i; ret = e i; params = f i; sentinel = g i }

-- one key is of one offer
pub one_offer : (ns : List Node) (x y : Offer) (key other : List ℕ) → IsKeyOf ns x key → IsKeyOf ns y other → key ≡ other → x ≡ y
one_offer ns x y key other k j e =
    let p = parts x y k.owner j.owner k.ret j.ret k.params j.params (sym k.is ∙ e ∙ j.is) in
    let ret : x.sig.ret ≡ y.sig.ret = sym k.returned.term ∙ ap (term_of ns) p.ret ∙ j.returned.term in
    let params : x.sig.params ≡ y.sig.params = sym k.taken.terms ∙ ap (map (term_of ns)) p.params ∙ j.taken.terms in
    offer_same x y p.put (owner_same ns k.owner j.owner x.owner y.owner k.owned j.owned p.owner) p.name
    (sig_same x.sig y.sig p.has_this p.explicit_this p.vararg p.generic ret params p.sentinel)

one_id : (ns : List Node) (i j : ℕ) (s t : SigType) → IsPool ns → Has ns i s → Has ns j t → s ≡ t → i ≡ j
one_id ns i j s t p h g e = same_terms ns i j p h.within g.within (h.term ∙ e ∙ sym g.term)

owner_ids : (ns : List Node) (o p : Option ℕ) (s t : Option SigType) → IsPool ns → HasOwner ns o s → HasOwner ns p t → s ≡ t → o ≡ p
owner_ids ns None None s t q h g e = refl
owner_ids ns (Some i) (Some j) (Some s) (Some t) q h g e =
    let same : s ≡ t = cc in
    ap Some (one_id ns i j s t q h g same)
owner_ids ns (Some i) (Some j) None t q h g e = absurd h
owner_ids ns (Some i) (Some j) (Some s) None q h g e = absurd g
owner_ids ns None (Some j) None None q h g e = absurd g
owner_ids ns None (Some j) None (Some t) q h g e = cc
owner_ids ns None (Some j) (Some s) t q h g e = absurd h
owner_ids ns (Some i) None None t q h g e = absurd h
owner_ids ns (Some i) None (Some s) None q h g e = cc
owner_ids ns (Some i) None (Some s) (Some t) q h g e = absurd g

ids_same : (ns : List Node) (is js : List ℕ) → IsPool ns → AllBelow (length ns) is → AllBelow (length ns) js → map (term_of ns) is ≡ map (term_of ns) js → is ≡ js
ids_same ns [] [] p a b e = refl
ids_same ns [] (j ∷ js) p a b e = cc
ids_same ns (i ∷ is) [] p a b e = cc
ids_same ns (i ∷ is) (j ∷ js) p a b e =
    let h : term_of ns i ≡ term_of ns j = cc in
    let t : map (term_of ns) is ≡ map (term_of ns) js = cc in
    let one : i ≡ j = same_terms ns i j p (a 0 0 (omega arith)) (b 0 0 (omega arith)) h in
    let more = ids_same ns is js p (λ k d l. a (suc k) d (omega arith)) (λ k d l. b (suc k) d (omega arith)) t in
    λ n. one n ∷ more n

-- an offer has one key
pub one_key : (ns : List Node) (x : Offer) (key other : List ℕ) → IsPool ns → IsKeyOf ns x key → IsKeyOf ns x other → key ≡ other
one_key ns x key other p k j =
    let o = owner_ids ns k.owner j.owner x.owner x.owner p k.owned j.owned refl in
    let r = one_id ns k.ret j.ret x.sig.ret x.sig.ret p k.returned j.returned refl in
    let ps = ids_same ns k.params j.params p k.taken.within j.taken.within (k.taken.terms ∙ sym j.taken.terms) in
    k.is ∙ (λ i. offer_key x (o i) (r i) (ps i)) ∙ sym j.is

owner_extends : (ns ms : List Node) (o : Option ℕ) (t : Option SigType) → Extends ns ms → HasOwner ns o t → HasOwner ms o t
owner_extends ns ms None None x h = tt
owner_extends ns ms (Some i) (Some t) x h = has_extends ns ms i t h x
owner_extends ns ms None (Some t) x h = h
owner_extends ns ms (Some i) None x h = h

pub key_extends : (ns ms : List Node) (x : Offer) (key : List ℕ) → Extends ns ms → IsKeyOf ns x key → IsKeyOf ms x key
key_extends ns ms x key e k = record {
  owner = k.owner;
  ret = k.ret;
  params = k.params;
  owned = owner_extends ns ms k.owner x.owner e k.owned;
  returned = has_extends ns ms k.ret x.sig.ret k.returned e;
  taken = all_extends ns ms k.params x.sig.params k.taken e;
  is = k.is;
}

pub fact_extends : (ns ms : List Node) (at : ℕ) (x : Offer) (fact : List ℕ) → Extends ns ms → IsFact ns at x fact → IsFact ms at x fact
fact_extends ns ms at x fact e f = record { key = f.key; of = key_extends ns ms x f.key e f.of; is = f.is }

-- ---- facts

pub held_is_found : (ns : List Node) (facts : List (List ℕ)) (t : SigType) (x : Offer) (id : ℕ) (key : List ℕ) → IsPool ns → Has ns id t → IsKeyOf ns x key →
    Contains facts (id ∷ key) ↔ Holds ns facts t x
held_is_found ns facts t x id key p h k = (to, from)
  where
    to : Contains facts (id ∷ key) → Holds ns facts t x
    to c = record { id = id; has = h; fact = id ∷ key; is = record { key = key; of = k; is = refl }; among = c }

    from : Holds ns facts t x → Contains facts (id ∷ key)
    from f =
        let i = one_id ns f.id id t t p f.has h refl in
        let e = one_key ns x f.is.key key p f.is.of k in
        subst (Contains facts) (f.is.is ∙ (λ n. i n ∷ e n)) f.among
