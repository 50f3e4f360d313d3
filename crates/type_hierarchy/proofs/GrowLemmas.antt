-- Ids and their types as a pool grows.
use Rattle.std.proofs.Common.{◌≡◌, ◌∙◌, ap, refl, sym, subst, ℕ, zero, suc, ◌+◌, ◌<◌, ◌≤◌, arith, List, [], ◌∷◌, ◌++◌, length, map, take, get_or, Option, None, Some}
use Rattle.std.proofs.lemmas.List.{append_assoc, length-append, map_more, map-id}
use Rattle.std.specs.Option.{option_map, ForSome}
use Rattle.type_terms.specs.declared.term.SigType.{SigType}
use Rattle.sig_pool.specs.declared.node.Node.{Node}
use Rattle.sig_pool.specs.Terms.{AllBelow, term_of}
use Rattle.sig_pool.specs.Pool.{Has, HasAll, Extends}
use Rattle.sig_pool.specs.Replaced.{replaced, terms_at}
use Rattle.type_hierarchy.specs.Pooled.{put_in}

pub extends_long : (ns ms : List Node) → Extends ns ms → length ns ≤ length ms
extends_long ns ms x = omega (arith, ap length x.nodes, length-append ns x.more)

pub extends_trans : (ns ms ls : List Node) → Extends ns ms → Extends ms ls → Extends ns ls
extends_trans ns ms ls x y = record {
  more = x.more ++ y.more;
  nodes = y.nodes ∙ ap (λ l. l ++ y.more) x.nodes ∙ append_assoc ns x.more y.more;
  terms = λ k h. y.terms k (let l = extends_long ns ms x in omega arith) ∙ x.terms k h;
}

pub has_extends : (ns ms : List Node) (id : ℕ) (t : SigType) → Has ns id t → Extends ns ms → Has ms id t
has_extends ns ms id t h x = record {
  within = let l = extends_long ns ms x in let w = h.within in omega arith;
  term = x.terms id h.within ∙ h.term;
}

pub below_extends : (ns ms : List Node) (ids : List ℕ) → Extends ns ms → AllBelow (length ns) ids → AllBelow (length ms) ids
below_extends ns ms ids x p k d h = let l = extends_long ns ms x in let w = p k d h in omega arith

pub kept : (ns ms : List Node) (ids : List ℕ) → Extends ns ms → AllBelow (length ns) ids → terms_at ms ids ≡ terms_at ns ids
kept ns ms [] x p = refl
kept ns ms (k ∷ ids) x p =
    let h : term_of ms k ≡ term_of ns k = x.terms k (p 0 0 (omega arith)) in
    let t = kept ns ms ids x (λ i d g. p (suc i) d (omega arith)) in
    λ i. h i ∷ t i

below_end : (b : ℕ) (ids : List ℕ) (id : ℕ) → AllBelow b ids → id < b → (k d : ℕ) → k < length (ids ++ id ∷ []) → get_or (ids ++ id ∷ []) k d < b
below_end b [] id p h zero d g = h
below_end b [] id p h (suc k) d g = absurd (omega arith)
below_end b (x ∷ ids) id p h zero d g = p 0 d (omega arith)
below_end b (x ∷ ids) id p h (suc k) d g = below_end b ids id (λ i e q. p (suc i) e (omega arith)) h k d (omega arith)

terms_end : (ns : List Node) (ids : List ℕ) (id : ℕ) → terms_at ns (ids ++ id ∷ []) ≡ terms_at ns ids ++ term_of ns id ∷ []
terms_end ns [] id = refl
terms_end ns (k ∷ ids) id = ap (λ l. term_of ns k ∷ l) (terms_end ns ids id)

pub all_extends : (ns ms : List Node) (ids : List ℕ) (ts : List SigType) → HasAll ns ids ts → Extends ns ms → HasAll ms ids ts
all_extends ns ms ids ts c x = record { within = below_extends ns ms ids x c.within; terms = kept ns ms ids x c.within ∙ c.terms }

pub has_more : (ns ms : List Node) (ids : List ℕ) (ts : List SigType) (id : ℕ) (t : SigType) → HasAll ns ids ts → Extends ns ms → Has ms id t → HasAll ms (ids ++ id ∷ []) (ts ++ t ∷ [])
has_more ns ms ids ts id t c x h =
    let a = all_extends ns ms ids ts c x in
    record {
      within = below_end (length ms) ids id a.within h.within;
      terms = terms_end ms ids id ∙ ap (λ l. l ++ term_of ms id ∷ []) a.terms ∙ ap (λ u. ts ++ u ∷ []) h.term;
    }

pub none_yet : (ns : List Node) → HasAll ns [] []
none_yet ns = record { within = λ k d h. absurd (omega arith); terms = refl }

-- one more of a list, each by f
pub more_mapped : (f : SigType → SigType) (ns ms : List Node) (ids new : List ℕ) (ts : List SigType) (i id : ℕ) (t : SigType) → HasAll ns ids (map f (take i ts)) → Extends ns ms → Has ms id (f t)
    → i < length ts → t ≡ get_or ts i t → new ≡ ids ++ id ∷ [] → HasAll ms new (map f (take (i + 1) ts))
more_mapped f ns ms ids new ts i id t c x h low is e =
    let end : map f (take i ts) ++ f t ∷ [] ≡ map f (take (i + 1) ts) = ap (λ u. map f (take i ts) ++ f u ∷ []) is ∙ sym (map_more f ts i t low) in
    subst (λ l. HasAll ms l (map f (take (i + 1) ts))) (sym e) (subst (HasAll ms (ids ++ id ∷ [])) end (has_more ns ms ids (map f (take i ts)) id (f t) c x h))

-- a type with arguments put in, in a pool that grew
pub put_in_has : (ns ms ls : List Node) (args : List ℕ) (t : SigType) (id r : ℕ) → Extends ns ms → AllBelow (length ns) args → Has ms id t
    → Has ls r (replaced (terms_at ms args) (terms_at ms []) (term_of ms id)) → Has ls r (put_in (Some (terms_at ns args)) t)
put_in_has ns ms ls args t id r x p h g =
    record { within = g.within; term = g.term ∙ (λ i. replaced (kept ns ms args x p i) [] (h.term i)) }

pub put_in_none : (ts : List SigType) → map (put_in None) ts ≡ ts
put_in_none ts = map-id ts

pub plain_all : (ns : List Node) (ids : List ℕ) (ts : List SigType) → HasAll ns ids (map (put_in None) ts) → HasAll ns ids ts
plain_all ns ids ts h = subst (HasAll ns ids) (put_in_none ts) h

pub put_in_is : (ns ms : List Node) (args none : List ℕ) (t : SigType) (id : ℕ) → Extends ns ms → AllBelow (length ns) args → Has ms id t → none ≡ []
    → put_in (Some (terms_at ns args)) t ≡ replaced (terms_at ms args) (terms_at ms none) (term_of ms id)
put_in_is ns ms args none t id x p h e = λ i. replaced (sym (kept ns ms args x p) i) (terms_at ms (sym e i)) (sym h.term i)

pub args_kept : (ns ms : List Node) (o : Option (List ℕ)) → Extends ns ms → ForSome o (λ ks. AllBelow (length ns) ks) → option_map (terms_at ms) o ≡ option_map (terms_at ns) o
args_kept ns ms None x p = refl
args_kept ns ms (Some ks) x p = ap Some (kept ns ms ks x (p ks refl))

pub ids_more : (ns ms : List Node) (ids new : List ℕ) (id : ℕ) → AllBelow (length ns) ids → id < length ns → Extends ns ms → new ≡ ids ++ id ∷ [] → AllBelow (length ms) new
ids_more ns ms ids new id p h x e =
    let l : length ns ≤ length ms = extends_long ns ms x in
    subst (AllBelow (length ms)) (sym e) (below_end (length ms) ids id (below_extends ns ms ids x p) (omega arith))

-- the types of ids that equal others, in a pool that grew
pub kept_ids : (ns ms : List Node) (ids copied : List ℕ) → Extends ns ms → AllBelow (length ns) ids → copied ≡ ids → terms_at ms copied ≡ terms_at ns ids
kept_ids ns ms ids copied x p e = ap (terms_at ms) e ∙ kept ns ms ids x p
