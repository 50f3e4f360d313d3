-- What a substitution keeps, step by step.
use Rattle.std.proofs.Common.{◌≡◌, ◌⊎◌, inl, inr, ap, refl, sym, ◌∙◌, subst, ℕ, zero, suc, ◌+◌, ◌<◌, ◌≤◌, Bool, true, false, true≢false, cond, nat_eq, List, [], ◌∷◌, ◌++◌, map, take, length, get_or, slice_get, Option, Some, None, IsSome, is_some, IfOk, OnOk, Result, Ok, Err, arith}
use Rattle.std.specs.List.{Contains, IsDistinct}
use Rattle.std.specs.Cmp.{nat_eq_equiv}
use Rattle.std.proofs.lemmas.Map.Views.{hash_map_contains_key_iff}
use Rattle.indexmap.specs.IndexMap.{IndexMap, get, keys, index_map_len, IsUnique}
use Rattle.type_terms.specs.Depth.{largest}
use Rattle.std.proofs.lemmas.List.{take_more}
use Rattle.std.proofs.lemmas.Option.{slice_get-get_or}
use Rattle.std.proofs.lemmas.Bool.Decides.{nat_tests}
use Rattle.std.proofs.Math.ListN.{get_or-append}
use Rattle.type_terms.specs.declared.name.TypeName.{TypeName}
use Rattle.type_terms.specs.declared.term.Primitive as prim
use Rattle.type_terms.specs.declared.term.Primitive.TheVariants.{Void}
use Rattle.type_terms.specs.declared.term.Owner.{Owner, roll-Owner}
use Rattle.type_terms.specs.declared.term.Owner.TheVariants as owner
use Rattle.type_terms.specs.declared.term.Owner.TheOpen as layer
use Rattle.type_terms.specs.declared.term.SigType.{SigType, roll-SigType, fold-roll-SigType, map-SigType}
use Rattle.type_terms.proofs.Layers.{fold-Name, fold-Spec}
use Rattle.sig_pool.specs.declared.node.Node.{Node}
use Rattle.sig_pool.specs.declared.node.Node.TheVariants.{Prim, Class, Value, Inst, Var, MVar, SzArray, Array, ByRef, Pointer, Mod, Pinned}
use Rattle.sig_pool.specs.declared.node.NodeOwner.TheVariants.{Name, Spec}
use Rattle.sig_pool.specs.Terms.{children, AllBelow, at, layer_of, built, terms, term_of}
use Rattle.sig_pool.specs.Pool.{IsPool, Extends, Has, HasAll}
use Rattle.sig_pool.specs.Reached.{Reaches, itself, through, GrowsByReached}
use Rattle.sig_pool.specs.Replaced.{replace_step, replaced, owner_replaced, terms_at}
use Rattle.sig_pool.specs.Visits.{node_at, is_leaf, with_children, IsDone, SomeReach, Visits}
use Rattle.sig_pool.proofs.PoolLaws.{term_at, term_is, extends_long, extends_trans, has_extends}
use Rattle.sig_pool.proofs.Building.{kept, has_more}

-- ---- one layer

module _ (C M : List SigType) where
  step : layer.SigType-F Owner SigType → SigType
  step l = replace_step C M (map-SigType Owner SigType Owner SigType (owner_replaced C M) (replaced C M) l)

  rolled : (l : layer.SigType-F Owner SigType) → replaced C M (roll-SigType l) ≡ step l
  unfolding step replaced owner_replaced
  rolled l = fold-roll-SigType Owner SigType roll-Owner (replace_step C M) l

  named : (n : TypeName) → owner_replaced C M (owner.Name n) ≡ owner.Name n
  unfolding owner_replaced
  named n = fold-Name Owner SigType roll-Owner (replace_step C M) n ∙ owner.rolls-Name n

  specced : (t : SigType) → owner_replaced C M (owner.Spec t) ≡ owner.Spec (replaced C M t)
  unfolding owner_replaced replaced
  specced t = fold-Spec Owner SigType roll-Owner (replace_step C M) t ∙ owner.rolls-Spec (replaced C M t)

  module _ (ts : List SigType) where
    of_layer : (n : Node) → replaced C M (built ts n) ≡ step (layer_of ts n)
    unfolding built
    of_layer n = rolled (layer_of ts n)

-- ---- leaves

module _ (ns : List Node) (id : ℕ) (n : Node) (C M : List SigType) (low : id < length ns) (is : term_of ns id ≡ built (terms ns) n) where
  stays : replaced C M (built (terms ns) n) ≡ built (terms ns) n → Has ns id (replaced C M (term_of ns id))
  stays e = record { within = low; term = is ∙ sym e ∙ ap (replaced C M) (sym is) }

pub leaf_Prim : (ns : List Node) (id : ℕ) (n : Node) (C M : List SigType) (p : prim.Primitive) → id < length ns → term_of ns id ≡ built (terms ns) n → n ≡ Prim p → Has ns id (replaced C M (term_of ns id))
unfolding built step
leaf_Prim ns id n C M p low is e = stays ns id n C M low is (rw e (of_layer C M (terms ns) (Prim p)))

pub leaf_Class : (ns : List Node) (id : ℕ) (n : Node) (C M : List SigType) (p : TypeName) → id < length ns → term_of ns id ≡ built (terms ns) n → n ≡ Class p → Has ns id (replaced C M (term_of ns id))
unfolding built step
leaf_Class ns id n C M p low is e = stays ns id n C M low is (rw e (of_layer C M (terms ns) (Class p)))

pub leaf_Value : (ns : List Node) (id : ℕ) (n : Node) (C M : List SigType) (p : TypeName) → id < length ns → term_of ns id ≡ built (terms ns) n → n ≡ Value p → Has ns id (replaced C M (term_of ns id))
unfolding built step
leaf_Value ns id n C M p low is e = stays ns id n C M low is (rw e (of_layer C M (terms ns) (Value p)))

chosen_below : (b : ℕ) (xs : List ℕ) (k d : ℕ) → AllBelow b xs → d < b → get_or xs k d < b
chosen_below b [] k d p h = h
chosen_below b (x ∷ xs) zero d p h = p 0 d (omega arith)
chosen_below b (x ∷ xs) (suc k) d p h = chosen_below b xs k d (λ i e g. p (suc i) e (omega arith)) h

chosen_term : (ns : List Node) (xs : List ℕ) (k d : ℕ) → term_of ns (get_or xs k d) ≡ get_or (terms_at ns xs) k (term_of ns d)
chosen_term ns [] k d = refl
chosen_term ns (x ∷ xs) zero d = refl
chosen_term ns (x ∷ xs) (suc k) d = chosen_term ns xs k d

pub chosen_none : (xs : List ℕ) (k d : ℕ) → slice_get xs k ≡ None → d ≡ get_or xs k d
chosen_none [] k d e = refl
chosen_none (x ∷ xs) zero d e = cc
chosen_none (x ∷ xs) (suc k) d e = chosen_none xs k d e

pub leaf_Var : (ns : List Node) (id r : ℕ) (n : Node) (cs : List ℕ) (M : List SigType) (k : ℕ) → id < length ns → AllBelow (length ns) cs → term_of ns id ≡ built (terms ns) n → n ≡ Var k → r ≡ get_or cs k id
    → Has ns r (replaced (terms_at ns cs) M (term_of ns id))
unfolding built step
leaf_Var ns id r n cs M k low p is e f =
    let own : term_of ns id ≡ roll-SigType (layer.Var k) = is ∙ ap (built (terms ns)) e in
    let new : replaced (terms_at ns cs) M (term_of ns id) ≡ get_or (terms_at ns cs) k (roll-SigType (layer.Var k)) =
    ap (replaced (terms_at ns cs) M) own ∙ rolled (terms_at ns cs) M (layer.Var k) in
    record {
      within = rw f (chosen_below (length ns) cs k id p low);
      term = ap (term_of ns) f ∙ chosen_term ns cs k id ∙ ap (get_or (terms_at ns cs) k) own ∙ sym new;
    }

pub leaf_MVar : (ns : List Node) (id r : ℕ) (n : Node) (C : List SigType) (ms : List ℕ) (k : ℕ) → id < length ns → AllBelow (length ns) ms → term_of ns id ≡ built (terms ns) n → n ≡ MVar k → r ≡ get_or ms k id
    → Has ns r (replaced C (terms_at ns ms) (term_of ns id))
unfolding built step
leaf_MVar ns id r n C ms k low p is e f =
    let own : term_of ns id ≡ roll-SigType (layer.MVar k) = is ∙ ap (built (terms ns)) e in
    let new : replaced C (terms_at ns ms) (term_of ns id) ≡ get_or (terms_at ns ms) k (roll-SigType (layer.MVar k)) =
    ap (replaced C (terms_at ns ms)) own ∙ rolled C (terms_at ns ms) (layer.MVar k) in
    record {
      within = rw f (chosen_below (length ns) ms k id p low);
      term = ap (term_of ns) f ∙ chosen_term ns ms k id ∙ ap (get_or (terms_at ns ms) k) own ∙ sym new;
    }

-- ---- nodes with children

first_of_map : (f : ℕ → SigType) (ks : List ℕ) (x : SigType) (xs : List SigType) → map f ks ≡ x ∷ xs → f (get_or ks 0 0) ≡ x
first_of_map f [] x xs e = cc
first_of_map f (k ∷ ks) x xs e = cc

second_of_map : (f : ℕ → SigType) (ks : List ℕ) (x y : SigType) (xs : List SigType) → map f ks ≡ x ∷ y ∷ xs → f (get_or ks 1 0) ≡ y
second_of_map f [] x y xs e = cc
second_of_map f (k ∷ []) x y xs e = let t : [] ≡ y ∷ xs = cc in cc
second_of_map f (k ∷ j ∷ ks) x y xs e = let t : f j ∷ map f ks ≡ y ∷ xs = cc in cc

maps_at : (ns : List Node) (ks : List ℕ) → map (at (terms ns)) ks ≡ terms_at ns ks
maps_at ns [] = refl
maps_at ns (k ∷ ks) = let h = term_at ns k in let t = maps_at ns ks in λ i. sym h i ∷ t i

module _ (ns ms : List Node) (C M : List SigType) (ks : List ℕ) where
  abbrev new_at : ℕ → SigType
  new_at k = at (terms ms) k

  single : (k : ℕ) → map (term_of ms) ks ≡ map (replaced C M) (terms_at ns (k ∷ [])) → new_at (get_or ks 0 0) ≡ replaced C M (at (terms ns) k)
  single k e = sym (term_at ms (get_or ks 0 0)) ∙ first_of_map (term_of ms) ks (replaced C M (term_of ns k)) [] e ∙ ap (replaced C M) (term_at ns k)

  rebuilt : (n : Node) → is_leaf n ≡ false → map (term_of ms) ks ≡ map (replaced C M) (terms_at ns (children n)) → built (terms ms) (with_children n ks) ≡ replaced C M (built (terms ns) n)
  unfolding built step
  rebuilt (Prim p) l e = absurd (true≢false l)
  rebuilt (Class p) l e = absurd (true≢false l)
  rebuilt (Value p) l e = absurd (true≢false l)
  rebuilt (Var p) l e = absurd (true≢false l)
  rebuilt (MVar p) l e = absurd (true≢false l)
  rebuilt (Inst v n args) l e =
      let a : map (at (terms ms)) ks ≡ map (replaced C M) (map (at (terms ns)) args) = maps_at ms ks ∙ e ∙ ap (map (replaced C M)) (sym (maps_at ns args)) in
      ap (λ xs. roll-SigType (layer.Inst v n xs)) a ∙ sym (rolled C M (layer.Inst v n (map (at (terms ns)) args)))
  rebuilt (SzArray k) l e = ap (λ x. roll-SigType (layer.SzArray x)) (single k e) ∙ sym (rolled C M (layer.SzArray (at (terms ns) k)))
  rebuilt (Array k r s w) l e = ap (λ x. roll-SigType (layer.Array x r s w)) (single k e) ∙ sym (rolled C M (layer.Array (at (terms ns) k) r s w))
  rebuilt (ByRef k) l e = ap (λ x. roll-SigType (layer.ByRef x)) (single k e) ∙ sym (rolled C M (layer.ByRef (at (terms ns) k)))
  rebuilt (Pointer k) l e = ap (λ x. roll-SigType (layer.Pointer x)) (single k e) ∙ sym (rolled C M (layer.Pointer (at (terms ns) k)))
  rebuilt (Pinned k) l e = ap (λ x. roll-SigType (layer.Pinned x)) (single k e) ∙ sym (rolled C M (layer.Pinned (at (terms ns) k)))
  rebuilt (Mod r (Name n) k) l e =
      let a = single k e in
      let b = named C M n in
      (λ i. roll-SigType (layer.Mod r (sym b i) (a i))) ∙ sym (rolled C M (layer.Mod r (owner.Name n) (at (terms ns) k)))
  rebuilt (Mod r (Spec j) k) l e =
      let a : new_at (get_or ks 0 0) ≡ replaced C M (at (terms ns) k) =
      sym (term_at ms (get_or ks 0 0)) ∙ first_of_map (term_of ms) ks (replaced C M (term_of ns k)) (replaced C M (term_of ns j) ∷ []) e ∙ ap (replaced C M) (term_at ns k) in
      let b : new_at (get_or ks 1 0) ≡ replaced C M (at (terms ns) j) =
      sym (term_at ms (get_or ks 1 0)) ∙ second_of_map (term_of ms) ks (replaced C M (term_of ns k)) (replaced C M (term_of ns j)) [] e ∙ ap (replaced C M) (term_at ns j) in
      let o : owner.Spec (new_at (get_or ks 1 0)) ≡ owner_replaced C M (owner.Spec (at (terms ns) j)) = ap owner.Spec b ∙ sym (specced C M (at (terms ns) j)) in
      (λ i. roll-SigType (layer.Mod r (o i) (a i))) ∙ sym (rolled C M (layer.Mod r (owner.Spec (at (terms ns) j)) (at (terms ns) k)))

node_is : (ns : List Node) (k : ℕ) → k < length ns → slice_get ns k ≡ Some (node_at ns k)
node_is ns k h = slice_get-get_or ns k (Prim Void) h

pub node_kept : (ns ms : List Node) (k : ℕ) → Extends ns ms → k < length ns → node_at ms k ≡ node_at ns k
node_kept ns ms k x h = ap (λ l. get_or l k (Prim Void)) x.nodes ∙ get_or-append ns x.more (Prim Void) k h

pub replaced_node : (ns ms : List Node) (id : ℕ) (C M : List SigType) (ks : List ℕ) → IsPool ns → Extends ns ms → id < length ns → is_leaf (node_at ns id) ≡ false
    → HasAll ms ks (map (replaced C M) (terms_at ns (children (node_at ns id)))) → built (terms ms) (with_children (node_at ms id) ks) ≡ replaced C M (term_of ns id)
replaced_node ns ms id C M ks p x low leaf h =
    ap (λ n. built (terms ms) (with_children n ks)) (node_kept ns ms id x low)
    ∙ rebuilt ns ms C M ks (node_at ns id) leaf h.terms
    ∙ ap (replaced C M) (sym (term_is ns id (node_at ns id) p (node_is ns id low)))

-- ---- what stays as the pool grows

pub replaced_kept : (ns ms : List Node) (cs ts : List ℕ) (id : ℕ) → Extends ns ms → AllBelow (length ns) cs → AllBelow (length ns) ts → id < length ns
    → replaced (terms_at ms cs) (terms_at ms ts) (term_of ms id) ≡ replaced (terms_at ns cs) (terms_at ns ts) (term_of ns id)
replaced_kept ns ms cs ts id x p q low =
    let a = kept ns ms cs x p in
    let b = kept ns ms ts x q in
    let c = x.terms id low in
    λ i. replaced (a i) (b i) (c i)

pub done_kept : (ns ms : List Node) (cs ts : List ℕ) (f : ℕ → Option ℕ) → Extends ns ms → AllBelow (length ns) cs → AllBelow (length ns) ts → IsDone ns cs ts f → IsDone ms cs ts f
done_kept ns ms cs ts f x p q d k v e =
    let h = d k v e in
    (omega (arith, h.0, extends_long ns ms x), subst (Has ms v) (sym (replaced_kept ns ms cs ts k x p q h.0)) (has_extends ns ms v _ x h.1))

same_number : (a b : ℕ) → nat_eq a b ≡ true → a ≡ b
same_number a b e = grind (arith, nat_tests)

chosen_case : (b : Bool) (r v : ℕ) (o : Option ℕ) → cond b (Some r) o ≡ Some v → ((b ≡ true) × (r ≡ v)) ⊎ (o ≡ Some v)
chosen_case true r v o e = inl (refl, cc)
chosen_case false r v o e = inr e

pub done_set : (ns ms ks : List Node) (cs ts : List ℕ) (f g : ℕ → Option ℕ) (id r : ℕ) → Extends ns ms → Extends ms ks → AllBelow (length ns) cs → AllBelow (length ns) ts → id < length ns
    → IsDone ms cs ts f → ((k : ℕ) → g k ≡ cond (nat_eq id k) (Some r) (f k)) → Has ks r (replaced (terms_at ns cs) (terms_at ns ts) (term_of ns id)) → IsDone ks cs ts g
done_set ns ms ks cs ts f g id r x y p q low d e h k v s =
    let far : length ns ≤ length ms = extends_long ns ms x in
    let pm : AllBelow (length ms) cs = λ i z w. omega (arith, p i z w, far) in
    let qm : AllBelow (length ms) ts = λ i z w. omega (arith, q i z w, far) in
    elim (chosen_case (nat_eq id k) r v (f k) (sym (e k) ∙ s)) [
      | inl a ↦
          let xy = extends_trans ns ms ks x y in
          let here : id ≡ k = same_number id k a.0 in
          subst (λ j. (j < length ks) × Has ks v (replaced (terms_at ks cs) (terms_at ks ts) (term_of ks j))) here (
            omega (arith, extends_long ns ks xy),
            subst (λ w. Has ks w (replaced (terms_at ks cs) (terms_at ks ts) (term_of ks id))) a.1
                (subst (Has ks r) (sym (replaced_kept ns ks cs ts id xy p q low)) h),
          )
      | inr a ↦ done_kept ms ks cs ts f y pm qm d k v a
    ]

-- ---- what was visited

pub visits_refl : (ns : List Node) (ids : List ℕ) (f : ℕ → Option ℕ) (m : ℕ) → Visits ns ns ids f f m m
visits_refl ns ids f m = record { keys = λ k h. inl h; growth = omega arith }

pub reach_below : (ns : List Node) (k i : ℕ) → IsPool ns → Reaches ns k i → k ≤ i
reach_below ns k i p itself = omega arith
reach_below ns k i p (through {j = j} {n = n} e c r) =
    let low = p.below i n e c.0 j c.1 in
    omega (arith, reach_below ns k j p r, rw c.2 at low)

pub reach_back : (ns ms : List Node) (k i : ℕ) → IsPool ns → Extends ns ms → i < length ns → Reaches ms k i → Reaches ns k i
reach_back ns ms k i p x h itself = itself
reach_back ns ms k i p x h (through {j = j} {n = n} e c r) =
    let far : i < length ms = omega (arith, extends_long ns ms x) in
    let same : slice_get ns i ≡ Some n = node_is ns i h ∙ ap Some (sym (node_kept ns ms i x h)) ∙ sym (node_is ms i far) ∙ e in
    let low : j < i = rw c.2 at (p.below i n same c.0 j c.1) in
    through same c (reach_back ns ms k j p x (omega arith) r)

up : (ns : List Node) (id k : ℕ) → id < length ns → SomeReach ns (children (node_at ns id)) k → SomeReach ns (id ∷ []) k
up ns id k low s = (id, (0, omega arith, refl), through (node_is ns id low) s.1 s.2)

pub visits_up : (ns ms : List Node) (id : ℕ) (f g : ℕ → Option ℕ) (a b : ℕ) → id < length ns → Visits ns ms (children (node_at ns id)) f g a b → Visits ns ms (id ∷ []) f g a b
visits_up ns ms id f g a b low v = record {
  keys = λ k h. elim (v.keys k h) [ inl s ↦ inl s | inr s ↦ inr (up ns id k low s) ];
  growth = v.growth;
}

pub visits_rebuilt : (ns ms ks : List Node) (id : ℕ) (f g h : ℕ → Option ℕ) (a b c : ℕ) → id < length ns → Visits ns ms (children (node_at ns id)) f g a b
    → ((k : ℕ) → IsSome (h k) → IsSome (g k) ⊎ (k ≡ id)) → length ks + b ≤ length ms + c → Visits ns ks (id ∷ []) f h a c
visits_rebuilt ns ms ks id f g h a b c low v s e = record {
  keys = λ k t. elim (s k t) [
    | inl u ↦ (visits_up ns ms id f g a b low v).keys k u
    | inr u ↦ inr (id, (0, omega arith, refl), subst (λ j. Reaches ns j id) (sym u) itself)
  ];
  growth = omega (arith, v.growth, e);
}

only : (j i : ℕ) → Contains (j ∷ []) i → j ≡ i
only j i (zero, h, e) = e
only j i (suc k, h, e) = absurd (omega arith)

pub visits_next : (ns ms ks : List Node) (ids : List ℕ) (j : ℕ) (f g h : ℕ → Option ℕ) (a b c : ℕ) → IsPool ns → Extends ns ms → j < length ns → Contains ids j
    → Visits ns ms ids f g a b → Visits ms ks (j ∷ []) g h b c → Visits ns ks ids f h a c
visits_next ns ms ks ids j f g h a b c p x low in_ids v w = record {
  keys = λ k t. elim (w.keys k t) [
    | inl u ↦ v.keys k u
    | inr u ↦
        let at_j : Reaches ms k j = subst (Reaches ms k) (sym (only j u.0 u.1)) u.2 in
        inr (j, in_ids, reach_back ns ms k j p x low at_j)
  ];
  growth = omega (arith, v.growth, w.growth);
}

some_case : (o : Option ℕ) → (IsSome o → ⊥) → o ≡ None
some_case None f = refl
some_case (Some x) f = absurd (f refl)

pub absent_after : (ns ms : List Node) (id : ℕ) (f g : ℕ → Option ℕ) (a b : ℕ) → IsPool ns → id < length ns → Visits ns ms (children (node_at ns id)) f g a b → f id ≡ None → g id ≡ None
absent_after ns ms id f g a b p low v e = some_case (g id) (λ s. elim (v.keys id s) [
  | inl u ↦ true≢false (sym u ∙ ap is_some e)
  | inr u ↦
      let child : u.0 < id = rw u.1.2 at (p.below id (node_at ns id) (node_is ns id low) u.1.0 u.0 u.1.1) in
      let back : id ≤ u.0 = reach_below ns id u.0 p u.2 in
      omega arith
])

-- ---- the whole

pub grows : (ns ms : List Node) (id : ℕ) (ks : List ℕ) (f g : ℕ → Option ℕ) (n : ℕ) → ((k : ℕ) → f k ≡ None) → IsDistinct nat_eq ks → n ≡ length ks
    → ((k : ℕ) → Contains ks k → IsSome (g k)) → Visits ns ms (id ∷ []) f g 0 n → GrowsByReached ns ms id
grows ns ms id ks f g n none distinct count known v = record {
  ids = ks;
  distinct = distinct;
  reached = λ i d h. elim (v.keys (get_or ks i d) (known (get_or ks i d) (i, h, same_default ks i d (get_or ks i d) h))) [
    | inl u ↦ absurd (true≢false (sym u ∙ ap is_some (none (get_or ks i d))))
    | inr u ↦ subst (Reaches ns (get_or ks i d)) (sym (only id u.0 u.1)) u.2
  ];
  bound = omega (arith, v.growth, count);
}
  where
    same_default : (xs : List ℕ) (i d e : ℕ) → i < length xs → get_or xs i e ≡ get_or xs i d
    same_default [] i d e h = absurd (omega arith)
    same_default (x ∷ xs) zero d e h = refl
    same_default (x ∷ xs) (suc i) d e h = same_default xs i d e (omega arith)

-- ---- lists of ids

map_end : (ns : List Node) (F : SigType → SigType) (xs : List ℕ) (x : ℕ) → map F (terms_at ns (xs ++ x ∷ [])) ≡ map F (terms_at ns xs) ++ F (term_of ns x) ∷ []
map_end ns F [] x = refl
map_end ns F (y ∷ xs) x = ap (λ l. F (term_of ns y) ∷ l) (map_end ns F xs x)

pub all_step : (ns ms ks : List Node) (ids out new : List ℕ) (F : SigType → SigType) (i id r : ℕ) → HasAll ms out (map F (terms_at ns (take i ids))) → Extends ms ks
    → Has ks r (F (term_of ns id)) → i < length ids → id ≡ get_or ids i id → new ≡ out ++ r ∷ [] → HasAll ks new (map F (terms_at ns (take (i + 1) ids)))
all_step ns ms ks ids out new F i id r h x w low is e =
    let end : map F (terms_at ns (take i ids)) ++ F (term_of ns id) ∷ [] ≡ map F (terms_at ns (take (i + 1) ids)) =
    sym (map_end ns F (take i ids) id) ∙ ap (λ l. map F (terms_at ns l)) (ap (λ j. take i ids ++ j ∷ []) is ∙ sym (take_more ids i id low)) in
    subst (λ l. HasAll ks l (map F (terms_at ns (take (i + 1) ids)))) (sym e) (subst (HasAll ks (out ++ r ∷ [])) end (has_more ms ks out (map F (terms_at ns (take i ids))) r (F (term_of ns id)) h x w))

pub is_in : (ids : List ℕ) (i id : ℕ) → i < length ids → id ≡ get_or ids i id → Contains ids id
is_in ids i id h e = (i, h, sym e)

pub count_kept : (ns ms : List Node) (id : ℕ) (ks : List ℕ) (F : SigType → SigType) → Extends ns ms → id < length ns → HasAll ms ks (map F (terms_at ns (children (node_at ns id)))) → length ks ≡ length (children (node_at ms id))
count_kept ns ms id ks F x low h =
    let same : children (node_at ms id) ≡ children (node_at ns id) = ap children (node_kept ns ms id x low) in
    sym (long (term_of ms) ks) ∙ ap length h.terms ∙ long F (terms_at ns (children (node_at ns id))) ∙ long (term_of ns) (children (node_at ns id)) ∙ sym (ap length same)
  where
    long : {A B : Type 0} (f : A → B) (xs : List A) → length (map f xs) ≡ length xs
    long f [] = refl
    long f (x ∷ xs) = ap suc (long f xs)

-- ---- measures

pub bound_of : (b : ℕ) (ids : List ℕ) → AllBelow b ids → largest (map (λ k. k + 1) ids) ≤ b
bound_of b [] p = omega arith
bound_of b (k ∷ ids) p = omega (arith, p 0 0 (omega arith), bound_of b ids (λ i d h. p (suc i) d (omega arith)))

pub within_bound : (ids : List ℕ) (i d : ℕ) → i < length ids → get_or ids i d + 1 ≤ largest (map (λ k. k + 1) ids)
within_bound [] i d h = absurd (omega arith)
within_bound (k ∷ ids) zero d h = omega arith
within_bound (k ∷ ids) (suc i) d h = omega (arith, within_bound ids i d (omega arith))

pub kids_below : (ns : List Node) (id : ℕ) → IsPool ns → id < length ns → AllBelow id (children (node_at ns id))
kids_below ns id p low = p.below id (node_at ns id) (node_is ns id low)

-- ---- the same, from the ids that a node was found to have

module _ (ns : List Node) (id : ℕ) (ids : List ℕ) (low : id < length ns) (kids : ids ≡ children (node_at ns id)) where
  pub kids_low : IsPool ns → AllBelow id ids
  kids_low p = rw kids (kids_below ns id p low)

  pub up_from : (ms : List Node) (f g : ℕ → Option ℕ) (a b : ℕ) → Visits ns ms ids f g a b → Visits ns ms (id ∷ []) f g a b
  up_from ms f g a b v = visits_up ns ms id f g a b low (subst (λ l. Visits ns ms l f g a b) kids v)

  pub absent_from : (ms : List Node) (f g : ℕ → Option ℕ) (a b : ℕ) → IsPool ns → Visits ns ms ids f g a b → f id ≡ None → g id ≡ None
  absent_from ms f g a b p v e = absent_after ns ms id f g a b p low (subst (λ l. Visits ns ms l f g a b) kids v) e

  pub rebuilt_from : (ms ks : List Node) (f g h : ℕ → Option ℕ) (a b c : ℕ) → Visits ns ms ids f g a b → ((k : ℕ) → IsSome (h k) → IsSome (g k) ⊎ (k ≡ id)) → length ks + b ≤ length ms + c → Visits ns ks (id ∷ []) f h a c
  rebuilt_from ms ks f g h a b c v s e = visits_rebuilt ns ms ks id f g h a b c low (subst (λ l. Visits ns ms l f g a b) kids v) s e

  pub node_from : (ms : List Node) (C M : List SigType) (ks : List ℕ) → IsPool ns → Extends ns ms → is_leaf (node_at ns id) ≡ false → HasAll ms ks (map (replaced C M) (terms_at ns ids))
      → built (terms ms) (with_children (node_at ms id) ks) ≡ replaced C M (term_of ns id)
  node_from ms C M ks p x leaf h = replaced_node ns ms id C M ks p x low leaf (subst (λ l. HasAll ms ks (map (replaced C M) (terms_at ns l))) kids h)

pub done_ok : {E : Type 0} (ns ms ks : List Node) (cs ts : List ℕ) (f g : ℕ → Option ℕ) (id : ℕ) (result : Result ℕ E) → Extends ns ms → Extends ms ks → AllBelow (length ns) cs → AllBelow (length ns) ts → id < length ns
    → IsDone ms cs ts f → IfOk result (λ r. (k : ℕ) → g k ≡ cond (nat_eq id k) (Some r) (f k)) → IfOk result (λ r. Has ks r (replaced (terms_at ns cs) (terms_at ns ts) (term_of ns id))) → OnOk result (IsDone ks cs ts g)
done_ok ns ms ks cs ts f g id (Ok r) x y p q low d e h = done_set ns ms ks cs ts f g id r x y p q low d e h
done_ok ns ms ks cs ts f g id (Err w) x y p q low d e h = tt

pub all_low : (a b : ℕ) (ids : List ℕ) → a ≤ b → AllBelow a ids → AllBelow b ids
all_low a b ids h p = λ k d g. omega (arith, p k d g)

-- ---- the map at the end

module _ {S : Type 0} (m n : IndexMap ℕ ℕ S) (empty : m.entries ≡ []) where
  nothing : (k : ℕ) → get nat_eq m k ≡ None
  nothing k = rw empty refl

  counted : (es : List (ℕ × ℕ)) → length es ≡ length (map (λ (e : ℕ × ℕ). e.0) es)
  counted [] = refl
  counted (e ∷ es) = ap suc (counted es)

  pub grows_map : (ns ms : List Node) (id : ℕ) → IsUnique nat_eq n → Visits ns ms (id ∷ []) (get nat_eq m) (get nat_eq n) (index_map_len m) (index_map_len n) → GrowsByReached ns ms id
  grows_map ns ms id unique v =
      grows ns ms id (keys n) (get nat_eq m) (get nat_eq n) (index_map_len n) nothing unique (counted n.entries)
      (λ k h. (hash_map_contains_key_iff nat_eq_equiv same_number n k).1 h)
      (subst (λ c. Visits ns ms (id ∷ []) (get nat_eq m) (get nat_eq n) c (index_map_len n)) (ap length empty) v)
