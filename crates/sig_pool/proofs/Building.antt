-- The type of a new node, from the types of its children.
use Rattle.std.proofs.Common.{◌≡◌, ap, refl, sym, ◌∙◌, subst, ℕ, zero, suc, ℤ, Bool, List, [], ◌∷◌, ◌++◌, map, length, get_or, ◌<◌, ◌≤◌, ◌+◌, take, add-one, arith}
use Rattle.std.proofs.lemmas.List.{take_more}
use Rattle.type_terms.specs.declared.name.TypeName.{TypeName}
use Rattle.type_terms.specs.declared.term.Primitive as prim
use Rattle.type_terms.specs.declared.term.Owner.{Owner}
use Rattle.type_terms.specs.declared.term.Owner.TheVariants as owner
use Rattle.type_terms.specs.declared.term.SigType.{SigType}
use Rattle.type_terms.specs.declared.term.SigType.TheVariants as type
use Rattle.type_terms.specs.Nodes.{nodes, list_nodes, nodes_step, owner_nodes_step}
use Rattle.type_terms.proofs.Layers.{fold-Inst}
use Rattle.sig_pool.specs.declared.node.Node.{Node}
use Rattle.sig_pool.specs.declared.node.Node.TheVariants as node
use Rattle.sig_pool.specs.declared.node.NodeOwner.TheVariants as by_node
use Rattle.sig_pool.specs.Terms.{AllBelow, at, built, terms, term_of}
use Rattle.sig_pool.specs.Pool.{Extends, Has, HasAll}
use Rattle.sig_pool.proofs.PoolLaws.{term_at, extends_long}

same_type : (ms : List Node) (id : ℕ) (t u : SigType) → t ≡ u → Has ms id t → Has ms id u
same_type ms id t u e h = subst (Has ms id) e h

kid : (ns : List Node) (k : ℕ) (t : SigType) → Has ns k t → at (terms ns) k ≡ t
kid ns k t h = sym (term_at ns k) ∙ h.term

pub has_Prim : (ns ms : List Node) (id : ℕ) (u : SigType) (p : prim.Primitive) → Has ms id (built (terms ns) (node.Prim p)) → u ≡ type.Prim p → Has ms id u
unfolding built
has_Prim ns ms id u p h e = same_type ms id _ u (type.rolls-Prim p ∙ sym e) h

pub has_Class : (ns ms : List Node) (id : ℕ) (u : SigType) (n : TypeName) → Has ms id (built (terms ns) (node.Class n)) → u ≡ type.Class n → Has ms id u
unfolding built
has_Class ns ms id u n h e = same_type ms id _ u (type.rolls-Class n ∙ sym e) h

pub has_Value : (ns ms : List Node) (id : ℕ) (u : SigType) (n : TypeName) → Has ms id (built (terms ns) (node.Value n)) → u ≡ type.Value n → Has ms id u
unfolding built
has_Value ns ms id u n h e = same_type ms id _ u (type.rolls-Value n ∙ sym e) h

pub has_Var : (ns ms : List Node) (id : ℕ) (u : SigType) (n : ℕ) → Has ms id (built (terms ns) (node.Var n)) → u ≡ type.Var n → Has ms id u
unfolding built
has_Var ns ms id u n h e = same_type ms id _ u (type.rolls-Var n ∙ sym e) h

pub has_MVar : (ns ms : List Node) (id : ℕ) (u : SigType) (n : ℕ) → Has ms id (built (terms ns) (node.MVar n)) → u ≡ type.MVar n → Has ms id u
unfolding built
has_MVar ns ms id u n h e = same_type ms id _ u (type.rolls-MVar n ∙ sym e) h

pub built_SzArray : (ns : List Node) (k : ℕ) (t u : SigType) → Has ns k t → u ≡ type.SzArray t → built (terms ns) (node.SzArray k) ≡ u
unfolding built
built_SzArray ns k t u c e = type.rolls-SzArray (at (terms ns) k) ∙ ap type.SzArray (kid ns k t c) ∙ sym e

pub built_ByRef : (ns : List Node) (k : ℕ) (t u : SigType) → Has ns k t → u ≡ type.ByRef t → built (terms ns) (node.ByRef k) ≡ u
unfolding built
built_ByRef ns k t u c e = type.rolls-ByRef (at (terms ns) k) ∙ ap type.ByRef (kid ns k t c) ∙ sym e

pub built_Pointer : (ns : List Node) (k : ℕ) (t u : SigType) → Has ns k t → u ≡ type.Pointer t → built (terms ns) (node.Pointer k) ≡ u
unfolding built
built_Pointer ns k t u c e = type.rolls-Pointer (at (terms ns) k) ∙ ap type.Pointer (kid ns k t c) ∙ sym e

pub built_Pinned : (ns : List Node) (k : ℕ) (t u : SigType) → Has ns k t → u ≡ type.Pinned t → built (terms ns) (node.Pinned k) ≡ u
unfolding built
built_Pinned ns k t u c e = type.rolls-Pinned (at (terms ns) k) ∙ ap type.Pinned (kid ns k t c) ∙ sym e

pub built_Array : (ns : List Node) (k : ℕ) (t u : SigType) (r : ℕ) (s : List ℕ) (l : List ℤ) → Has ns k t → u ≡ type.Array t r s l → built (terms ns) (node.Array k r s l) ≡ u
unfolding built
built_Array ns k t u r s l c e = type.rolls-Array (at (terms ns) k) r s l ∙ ap (λ x. type.Array x r s l) (kid ns k t c) ∙ sym e

args_at : (ns : List Node) (ids : List ℕ) → map (at (terms ns)) ids ≡ map (term_of ns) ids
args_at ns [] = refl
args_at ns (k ∷ ids) = let h = term_at ns k in let t = args_at ns ids in λ i. sym h i ∷ t i

pub has_Inst : (ns ms : List Node) (id : ℕ) (u : SigType) (v : Bool) (n : TypeName) (ids : List ℕ) (ts : List SigType) → HasAll ns ids ts → Has ms id (built (terms ns) (node.Inst v n ids)) → u ≡ type.Inst v n ts → Has ms id u
unfolding built
has_Inst ns ms id u v n ids ts c h e = same_type ms id _ u (type.rolls-Inst v n (map (at (terms ns)) ids) ∙ ap (type.Inst v n) (args_at ns ids ∙ c.terms) ∙ sym e) h

pub built_ModName : (ns : List Node) (k : ℕ) (r : Bool) (n : TypeName) (b : Owner) → b ≡ owner.Name n → built (terms ns) (node.Mod r (by_node.Name n) k) ≡ type.Mod r b (term_of ns k)
unfolding built
built_ModName ns k r n b e =
    let h : at (terms ns) k ≡ term_of ns k = sym (term_at ns k) in
    type.rolls-Mod r (owner.Name n) (at (terms ns) k) ∙ (λ i. type.Mod r (sym e i) (h i))

pub built_ModSpec : (ns ms : List Node) (j k : ℕ) (r : Bool) (s : SigType) (b : Owner) → Extends ns ms → k < length ns → Has ms j s → b ≡ owner.Spec s → built (terms ms) (node.Mod r (by_node.Spec j) k) ≡ type.Mod r b (term_of ns k)
unfolding built
built_ModSpec ns ms j k r s b x g c e =
    let h : at (terms ms) k ≡ term_of ns k = sym (term_at ms k) ∙ x.terms k g in
    let o : owner.Spec (at (terms ms) j) ≡ b = ap owner.Spec (kid ms j s c) ∙ sym e in
    type.rolls-Mod r (owner.Spec (at (terms ms) j)) (at (terms ms) k) ∙ (λ i. type.Mod r (o i) (h i))

-- ids at the end of a list
below_end : (b : ℕ) (ids : List ℕ) (id : ℕ) → AllBelow b ids → id < b → (k d : ℕ) → k < length (ids ++ id ∷ []) → get_or (ids ++ id ∷ []) k d < b
below_end b [] id p h zero d g = h
below_end b [] id p h (suc k) d g = absurd (omega arith)
below_end b (x ∷ ids) id p h zero d g = p 0 d (omega arith)
below_end b (x ∷ ids) id p h (suc k) d g = below_end b ids id (λ i e q. p (suc i) e (omega arith)) h k d (omega arith)

terms_end : (ns : List Node) (ids : List ℕ) (id : ℕ) → map (term_of ns) (ids ++ id ∷ []) ≡ map (term_of ns) ids ++ term_of ns id ∷ []
terms_end ns [] id = refl
terms_end ns (k ∷ ids) id = ap (λ l. term_of ns k ∷ l) (terms_end ns ids id)

pub kept : (ns ms : List Node) (ids : List ℕ) → Extends ns ms → AllBelow (length ns) ids → map (term_of ms) ids ≡ map (term_of ns) ids
kept ns ms [] x p = refl
kept ns ms (k ∷ ids) x p =
    let h : term_of ms k ≡ term_of ns k = x.terms k (p 0 0 (omega arith)) in
    let t = kept ns ms ids x (λ i d g. p (suc i) d (omega arith)) in
    λ i. h i ∷ t i

pub all_extends : (ns ms : List Node) (ids : List ℕ) (ts : List SigType) → HasAll ns ids ts → Extends ns ms → HasAll ms ids ts
all_extends ns ms ids ts c x = record {
  within = λ k d h. omega (arith, c.within k d h, extends_long ns ms x);
  terms = kept ns ms ids x c.within ∙ c.terms;
}

pub has_more : (ns ms : List Node) (ids : List ℕ) (ts : List SigType) (id : ℕ) (t : SigType) → HasAll ns ids ts → Extends ns ms → Has ms id t → HasAll ms (ids ++ id ∷ []) (ts ++ t ∷ [])
has_more ns ms ids ts id t c x h =
    let a = all_extends ns ms ids ts c x in
    record {
      within = below_end (length ms) ids id a.within h.within;
      terms = terms_end ms ids id ∙ ap (λ l. l ++ term_of ms id ∷ []) a.terms ∙ ap (λ u. ts ++ u ∷ []) h.term;
    }

pub more_taken : (ns ms : List Node) (ids new : List ℕ) (ts : List SigType) (i id : ℕ) (t : SigType) → HasAll ns ids (take i ts) → Extends ns ms → Has ms id t
    → i < length ts → t ≡ get_or ts i t → new ≡ ids ++ id ∷ [] → HasAll ms new (take (i + 1) ts)
more_taken ns ms ids new ts i id t c x h low is e =
    let end : take i ts ++ t ∷ [] ≡ take (i + 1) ts = ap (λ u. take i ts ++ u ∷ []) is ∙ sym (take_more ts i t low) in
    subst (λ l. HasAll ms l (take (i + 1) ts)) (sym e) (subst (HasAll ms (ids ++ id ∷ [])) end (has_more ns ms ids (take i ts) id t c x h))

-- ---- nodes

pub nodes_Inst : (u : SigType) (v : Bool) (n : TypeName) (args : List SigType) → u ≡ type.Inst v n args → nodes u ≡ list_nodes args + 1
nodes_Inst u v n args e = ap nodes e ∙ fold-Inst ℕ ℕ owner_nodes_step nodes_step v n args

pub nodes_take : (ts : List SigType) (i : ℕ) (d : SigType) → i < length ts → list_nodes (take (i + 1) ts) ≡ list_nodes (take i ts) + nodes (get_or ts i d)
nodes_take [] i d h = absurd (omega arith)
nodes_take (t ∷ ts) zero d h = omega arith
nodes_take (t ∷ ts) (suc i) d h =
    let g : list_nodes (take (suc i) ts) ≡ list_nodes (take i ts) + nodes (get_or ts i d) = rw (add-one i) at (nodes_take ts i d (omega arith)) in
    rw (add-one (suc i)) (omega (arith, g))

pub nodes_front : (ts : List SigType) (i : ℕ) → list_nodes (take i ts) ≤ list_nodes ts
nodes_front [] zero = omega arith
nodes_front [] (suc i) = omega arith
nodes_front (t ∷ ts) zero = omega arith
nodes_front (t ∷ ts) (suc i) = omega (arith, nodes_front ts i)
