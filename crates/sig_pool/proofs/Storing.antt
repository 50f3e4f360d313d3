-- What holds of a pool after a node was found or added.
use Rattle.std.proofs.Common.{◌≡◌, ap, sym, ◌∙◌, subst, ℕ, List, [], ◌∷◌, ◌++◌, map, take, length, slice_get, Some, None, Option}
use Rattle.std.proofs.lemmas.Option.{slice_get-map}
use Rattle.std.proofs.Math.Seq.{take-append_seam}
use Rattle.std.specs.Option.{option_map}
use Rattle.sig_pool.specs.declared.node.Node.{Node}
use Rattle.sig_pool.specs.Key.{node_key}
use Rattle.sig_pool.specs.Terms.{children, AllBelow, built, terms}
use Rattle.sig_pool.specs.Pool.{IsPool, Extends, Has}
use Rattle.sig_pool.specs.Stored.{IsStored}
use Rattle.sig_pool.proofs.KeyLaws.{same_key}
use Rattle.sig_pool.proofs.KeyLists.{mapped_end}
use Rattle.sig_pool.proofs.PoolLaws.{has_node, has_new, extends_append, push_pool}

keyed : (o : Option Node) (n : Node) → option_map node_key o ≡ Some (node_key n) → o ≡ Some n
keyed None n e = cc
keyed (Some m) n e = let h : node_key m ≡ node_key n = cc in ap Some (same_key m n h)

-- the node whose key was found
pub found : (ns : List Node) (keys : List (List ℕ)) (k : ℕ) (n : Node) → IsStored ns keys → slice_get keys k ≡ Some (node_key n) → Has ns k (built (terms ns) n)
found ns keys k n s e =
    has_node ns k n s.pool (keyed (slice_get ns k) n (sym (slice_get-map node_key ns k) ∙ ap (λ l. slice_get l k) (sym s.keyed) ∙ e))

-- a node whose key isn't there isn't there
absent : (ns : List Node) (keys : List (List ℕ)) (n : Node) → IsStored ns keys → ((k : ℕ) → slice_get keys k ≡ Some (node_key n) → ⊥) → (k : ℕ) → slice_get ns k ≡ Some n → ⊥
absent ns keys n s other k e = other k (ap (λ l. slice_get l k) s.keyed ∙ slice_get-map node_key ns k ∙ ap (option_map node_key) e)

pub added : (ns ms : List Node) (keys ls : List (List ℕ)) (n : Node) → IsStored ns keys → AllBelow (length ns) (children n) → ((k : ℕ) → slice_get keys k ≡ Some (node_key n) → ⊥)
    → ms ≡ ns ++ n ∷ [] → ls ≡ keys ++ node_key n ∷ [] → IsStored ms ls
added ns ms keys ls n s below other e f = record {
  pool = subst IsPool (sym e) (push_pool ns n s.pool below (absent ns keys n s other));
  keyed = f ∙ ap (λ l. l ++ node_key n ∷ []) s.keyed ∙ sym (mapped_end node_key [] ns n) ∙ ap (map node_key) (sym e);
}

pub new_has : (ns ms : List Node) (n : Node) → ms ≡ ns ++ n ∷ [] → Has ms (length ns) (built (terms ns) n)
new_has ns ms n e = subst (λ l. Has l (length ns) (built (terms ns) n)) (sym e) (has_new ns n)

pub new_extends : (ns ms : List Node) (n : Node) → ms ≡ ns ++ n ∷ [] → Extends ns ms
new_extends ns ms n e = subst (Extends ns) (sym e) (extends_append ns (n ∷ []))

-- a node that was taken back
pub taken_back : (ns ms ks : List Node) (n : Node) (count : ℕ) → ms ≡ ns ++ n ∷ [] → ks ≡ take count ms → count ≡ length ns → ks ≡ ns
taken_back ns ms ks n count e f g = f ∙ ap (take count) e ∙ ap (λ k. take k (ns ++ n ∷ [])) g ∙ take-append_seam ns (n ∷ [])
