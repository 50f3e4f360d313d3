-- How deep types stand.
use Rattle.std.proofs.Common.{◌≡◌, ◌⊎◌, inl, inr, refl, sym, ◌∙◌, ap, subst, ℕ, zero, suc, ◌+◌, ◌-◌, ◌<◌, ◌≤◌, ◌↔◌, arith, Bool, IsTrue, List, [], ◌∷◌, ◌++◌, length, Option, None, Some}
use Rattle.type_terms.specs.declared.term.SigType.{SigType}
use Rattle.sig_pool.specs.declared.node.Node.{Node}
use Rattle.sig_pool.specs.Pool.{Extends}
use Rattle.sig_pool.specs.Terms.{AllBelow, term_of}
use Rattle.type_hierarchy.specs.Hierarchy.{Hierarchy, object, parent, Chain, alone, further}
use Rattle.type_hierarchy.specs.Pooled.{HasOption}
use Rattle.type_hierarchy.proofs.Climbing.{chain_trans, chain_fork, next_step, Next, none, some, some_same, none_some, only_object}
use Rattle.type_hierarchy.proofs.GrowLemmas.{extends_long}
use Rattle.type_order.specs.Common.{IsClimb, top, up, IsNearest, HasNearest}
use Rattle.type_order.specs.Found.{HasDepth, IsNoLower, IsBetween, IsRaised, IsStanding, IsLadder, foot, rung, AreSides, AreHigher, Knows}
use Rattle.type_order.specs.declared.common.Sides.{Sides}
use Rattle.type_order.specs.declared.found.Found.{Found}
use Rattle.type_order.specs.declared.found.Standing.{Standing}
use Rattle.type_order.proofs.FoundLemmas.{standing_more}

-- ---- climbs

-- what stands above, in a climb
record Rest (w : Hierarchy) (x : SigType) (ls : List SigType) : Type 0 where
  types : List SigType
  climb : IsClimb w x types
  longer : length ls ≡ suc (length types)

rest : (w : Hierarchy) {z x : SigType} {ls : List SigType} → IsClimb w z ls → parent w z ≡ Some x → Rest w x ls
rest w (top e) f = absurd (none_some e f)
rest w {x = x} (up {p = p} {ts = ts} e c) f = record { types = ts; climb = subst (λ (v : SigType). IsClimb w v ts) (some_same e f) c; longer = refl }

climb_long : (w : Hierarchy) {x : SigType} {ls ms : List SigType} → IsClimb w x ls → IsClimb w x ms → length ls ≡ length ms
climb_long w (top e) (top f) = refl
climb_long w (top e) (up f d) = absurd (none_some e f)
climb_long w (up e c) d =
    let r = rest w d e in
    ap suc (climb_long w c r.climb) ∙ sym r.longer

climb_some : (w : Hierarchy) {s : SigType} {ls : List SigType} → IsClimb w s ls → 0 < length ls
climb_some w (top e) = omega arith
climb_some w (up e c) = omega arith

-- ---- depths

pub one_depth : (w : Hierarchy) (t : SigType) (d e : ℕ) → HasDepth w t d → HasDepth w t e → d ≡ e
one_depth w t d e x y = sym x.2 ∙ climb_long w x.1 y.1 ∙ y.2

pub depth_some : (w : Hierarchy) (t : SigType) (d : ℕ) → HasDepth w t d → 0 < d
depth_some w t d x = let h = climb_some w x.1 in let e = x.2 in omega arith

pub top_depth : (w : Hierarchy) (t : SigType) → parent w t ≡ None → HasDepth w t 1
top_depth w t e = (t ∷ [], top e, refl)

pub up_depth : (w : Hierarchy) (t p : SigType) (d : ℕ) → parent w t ≡ Some p → HasDepth w p d → HasDepth w t (d + 1)
up_depth w t p d e x = (t ∷ x.0, up e x.1, let h = x.2 in omega arith)

pub parent_depth : (w : Hierarchy) (t p : SigType) (d : ℕ) → parent w t ≡ Some p → HasDepth w t d → HasDepth w p (d - 1)
parent_depth w t p d e x =
    let r = rest w x.1 e in
    (r.types, r.climb, let h = x.2 in let g = r.longer in omega arith)

record Higher (w : Hierarchy) (t : SigType) (d : ℕ) : Type 0 where
  depth : ℕ
  has : HasDepth w t depth
  low : depth ≤ d

chain_depth : (w : Hierarchy) {t u : SigType} (d : ℕ) → HasDepth w t d → Chain w t u → Higher w u d
chain_depth w d x alone = record { depth = d; has = x; low = omega arith }
chain_depth w d x (further {s = s} {u = u} c e) =
    let h = chain_depth w d x c in
    record { depth = h.depth - 1; has = parent_depth w s u h.depth e h.has; low = let l = h.low in omega arith }

pub chain_low : (w : Hierarchy) (t u : SigType) (d e : ℕ) → Chain w t u → HasDepth w t d → HasDepth w u e → e ≤ d
chain_low w t u d e c x y =
    let h = chain_depth w d x c in
    let same = one_depth w u h.depth e h.has y in
    let l = h.low in
    omega arith

-- at one depth a chain has one type
pub same_depth : (w : Hierarchy) (t u : SigType) (d : ℕ) → Chain w t u → HasDepth w t d → HasDepth w u d → t ≡ u
same_depth w t u d c x y = go (next_step w c)
  where
    go : Next w t u → t ≡ u
    go (none h) = sym h
    go (some {p = p} e f) =
        let l = chain_low w p u (d - 1) d f (parent_depth w t p d e x) y in
        let s = depth_some w t d x in
        absurd (omega arith)

-- what is on a chain and no deeper than a type on it is on that one's chain
pub on_chain : (w : Hierarchy) (s r u : SigType) (d e : ℕ) → Chain w s r → HasDepth w r d → Chain w s u → HasDepth w u e → e ≤ d → Chain w r u
on_chain w s r u d e c x f y l = elim (chain_fork w c f) [
  | inl g ↦ g
  | inr g ↦
      let h = chain_low w u r e d g y x in
      let one : e ≡ d = omega arith in
      let same : u ≡ r = same_depth w u r d g (subst (HasDepth w u) one y) x in
      subst (λ (v : SigType). Chain w r v) (sym same) alone
]

-- ---- where a type stands

pub top_standing : (w : Hierarchy) (ns : List Node) (id : ℕ) (s : Standing) → s ≡ record { depth = 1; jump = id; reach = 1 } → id < length ns → parent w (term_of ns id) ≡ None → IsStanding w ns id s
top_standing w ns id s e h f = subst (λ (x : Standing). IsStanding w ns id x) (sym e) (record { within = h; depth = top_depth w (term_of ns id) f; jump = h; chain = alone; reach = top_depth w (term_of ns id) f })

-- by its parent
pub under_parent : (w : Hierarchy) (ns : List Node) (below id depth : ℕ) (s : Standing) → IsStanding w ns id s → below < length ns → parent w (term_of ns below) ≡ Some (term_of ns id) → depth ≡ s.depth + 1
    → IsStanding w ns below (record { depth = depth; jump = id; reach = s.depth })
under_parent w ns below id depth s h low e is = record {
  within = low;
  depth = subst (HasDepth w (term_of ns below)) (sym is) (up_depth w (term_of ns below) (term_of ns id) s.depth e h.depth);
  jump = h.within;
  chain = further alone e;
  reach = h.depth;
}

-- by its parent's jump and the one behind
pub under_jump : (w : Hierarchy) (ns : List Node) (below id depth : ℕ) (s next : Standing) → IsStanding w ns id s → IsStanding w ns s.jump next → below < length ns
    → parent w (term_of ns below) ≡ Some (term_of ns id) → depth ≡ s.depth + 1 → IsStanding w ns below (record { depth = depth; jump = next.jump; reach = next.reach })
under_jump w ns below id depth s next h g low e is = record {
  within = low;
  depth = subst (HasDepth w (term_of ns below)) (sym is) (up_depth w (term_of ns below) (term_of ns id) s.depth e h.depth);
  jump = g.jump;
  chain = chain_trans w (further alone e) (chain_trans w h.chain g.chain);
  reach = g.reach;
}

-- ---- ladders

pub ladder_more : (w : Hierarchy) (ns ms : List Node) (id : ℕ) {ids : List ℕ} {at : ℕ} → Extends ns ms → at < length ns → IsLadder w ns id ids at → IsLadder w ms id ids at
ladder_more w ns ms id x h (foot e f) = foot e f
ladder_more w ns ms id x h (rung {x = y} {at = at} e low f l) =
    let g : parent w (term_of ms y) ≡ Some (term_of ms at) = ap (parent w) (x.terms y low) ∙ f ∙ ap Some (sym (x.terms at h)) in
    rung e (let m = extends_long ns ms x in omega arith) g (ladder_more w ns ms id x low l)

-- one more rung
pub ladder_up : (w : Hierarchy) (ns ms : List Node) (id at next : ℕ) (ids new : List ℕ) → IsLadder w ns id ids at → at < length ns → Extends ns ms → HasOption ms (Some next) (parent w (term_of ns at))
    → new ≡ ids ++ at ∷ [] → IsLadder w ms id new next
ladder_up w ns ms id at next ids new l h x o e =
    let f : parent w (term_of ms at) ≡ Some (term_of ms next) = ap (parent w) (x.terms at h) ∙ o.1 ∙ ap Some (sym o.2.term) in
    rung e (let m = extends_long ns ms x in omega arith) f (ladder_more w ns ms id x h l)

-- on the way down a ladder
pub record Descends (w : Hierarchy) (ns : List Node) (id : ℕ) (f : Found) (ids : List ℕ) (at : ℕ) (s : Standing) : Type 0 where
  pub known : Knows w ns f
  pub ladder : IsLadder w ns id ids at
  pub standing : IsStanding w ns at s

pub record Rung (w : Hierarchy) (ns : List Node) (id at : ℕ) (more : List ℕ) (x : ℕ) : Type 0 where
  pub within : x < length ns
  pub parent : parent w (term_of ns x) ≡ Some (term_of ns at)
  pub ladder : IsLadder w ns id more x

last_same : {X : Type 0} (xs ys : List X) (x y : X) → xs ++ x ∷ [] ≡ ys ++ y ∷ [] → (xs ≡ ys) × (x ≡ y)
last_same [] [] x y e = (refl, cc)
last_same [] (z ∷ []) x y e = absurd (let h : ⊥ = cc in h)
last_same [] (z ∷ v ∷ ys) x y e = absurd (let h : ⊥ = cc in h)
last_same (z ∷ []) [] x y e = absurd (let h : ⊥ = cc in h)
last_same (z ∷ v ∷ xs) [] x y e = absurd (let h : ⊥ = cc in h)
last_same (z ∷ xs) (v ∷ ys) x y e =
    let r = last_same xs ys x y (let t : xs ++ x ∷ [] ≡ ys ++ y ∷ [] = cc in t) in
    let h : z ≡ v = cc in
    ((λ i. h i ∷ r.0 i), r.1)

not_end : {X : Type 0} (xs : List X) (x : X) → xs ++ x ∷ [] ≡ [] → ⊥
not_end [] x e = let h : ⊥ = cc in h
not_end (y ∷ xs) x e = let h : ⊥ = cc in h

pub ladder_down : (w : Hierarchy) (ns : List Node) (id at : ℕ) (ids more : List ℕ) (x : ℕ) → IsLadder w ns id ids at → ids ≡ more ++ x ∷ [] → Rung w ns id at more x
ladder_down w ns id at ids more x (foot e f) g = absurd (not_end more x (sym g ∙ e))
ladder_down w ns id at ids more x (rung {more = m} {x = y} e low p l) g =
    let s = last_same m more y x (sym e ∙ g) in
    record {
      within = subst (λ (j : ℕ). j < length ns) s.1 low;
      parent = subst (λ (j : ℕ). parent w (term_of ns j) ≡ Some (term_of ns at)) s.1 p;
      ladder = subst (λ (j : ℕ). IsLadder w ns id more j) s.1 (subst (λ (k : List ℕ). IsLadder w ns id k y) s.0 l);
    }

pub ladder_foot : (w : Hierarchy) (ns : List Node) (id at : ℕ) (ids : List ℕ) (s : Standing) → IsLadder w ns id ids at → ids ≡ [] → IsStanding w ns at s → IsStanding w ns id s
ladder_foot w ns id at ids s (foot e f) g h = subst (λ (j : ℕ). IsStanding w ns j s) f h
ladder_foot w ns id at ids s (rung {more = m} {x = y} e low p l) g h = absurd (not_end m y (sym e ∙ g))

-- ---- raising

pub between_jump : (w : Hierarchy) (ns : List Node) (id : ℕ) (s : Standing) (depth : ℕ) → IsStanding w ns id s → depth ≤ s.reach → s.reach < s.depth → IsBetween w ns (term_of ns id) depth s.depth s.jump
between_jump w ns id s depth h low high = record { within = h.jump; chain = h.chain; depth = s.reach; has = h.reach; low = low; high = high }

pub between_parent : (w : Hierarchy) (ns ms : List Node) (id next : ℕ) (s : Standing) (depth : ℕ) → IsStanding w ns id s → Extends ns ms → HasOption ms (Some next) (parent w (term_of ns id)) → depth < s.depth
    → IsBetween w ms (term_of ns id) depth s.depth next
between_parent w ns ms id next s depth h x o low =
    let e : parent w (term_of ns id) ≡ Some (term_of ms next) = o.1 ∙ ap Some (sym o.2.term) in
    record {
      within = o.2.within;
      chain = further alone e;
      depth = s.depth - 1;
      has = parent_depth w (term_of ns id) (term_of ms next) s.depth e h.depth;
      low = omega arith;
      high = omega arith;
    }

pub not_top : (w : Hierarchy) (ns : List Node) (id : ℕ) (s : Standing) (depth : ℕ) → IsStanding w ns id s → parent w (term_of ns id) ≡ None → 0 < depth → depth < s.depth → ⊥
not_top w ns id s depth h e low high =
    let one = one_depth w (term_of ns id) s.depth 1 h.depth (top_depth w (term_of ns id) e) in
    omega arith

-- on the way up
pub record Raises (w : Hierarchy) (ns ms : List Node) (id depth at : ℕ) (s : Standing) : Type 0 where
  pub extends : Extends ns ms
  pub chain : Chain w (term_of ns id) (term_of ms at)
  pub standing : IsStanding w ms at s
  pub low : depth ≤ s.depth

pub raises_begin : (w : Hierarchy) (ns ms : List Node) (id depth : ℕ) (s : Standing) → id < length ns → Extends ns ms → IsStanding w ms id s → IsNoLower w (term_of ns id) depth → Raises w ns ms id depth id s
raises_begin w ns ms id depth s h x st low =
    let here = x.terms id h in
    record {
      extends = x;
      chain = subst (λ (t : SigType). Chain w (term_of ns id) t) (sym here) alone;
      standing = st;
      low = low s.depth (subst (λ (t : SigType). HasDepth w t s.depth) here st.depth);
    }

-- the next type up, and where it stands
module _ (w : Hierarchy) (ns ms ls ks : List Node) (id depth at next : ℕ) (s t : Standing) (r : Raises w ns ms id depth at s) (b : IsBetween w ls (term_of ms at) depth s.depth next)
    (x : Extends ns ks) (y : Extends ls ks) (st : IsStanding w ks next t) where
  there : term_of ks next ≡ term_of ls next
  there = y.terms next b.within

  same : t.depth ≡ b.depth
  same = one_depth w (term_of ls next) t.depth b.depth (subst (λ (u : SigType). HasDepth w u t.depth) there st.depth) b.has

  pub raises_more : Raises w ns ks id depth next t
  raises_more = record {
    extends = x;
    chain = subst (λ (u : SigType). Chain w (term_of ns id) u) (sym there) (chain_trans w r.chain b.chain);
    standing = st;
    low = let l = b.low in let e = same in omega arith;
  }

  pub raises_less : t.depth < s.depth
  raises_less = let h = b.high in let e = same in omega arith

pub raises_end : (w : Hierarchy) (ns ms : List Node) (id depth at : ℕ) (s : Standing) → Raises w ns ms id depth at s → (depth < s.depth → ⊥) → IsRaised w ms (term_of ns id) depth at
raises_end w ns ms id depth at s r n =
    let h = r.standing.within in
    record {
      within = h;
      chain = r.chain;
      has = subst (HasDepth w (term_of ms at)) (let l = r.low in level depth s.depth l n) r.standing.depth;
    }
  where
    level : (a b : ℕ) → a ≤ b → (a < b → ⊥) → b ≡ a
    level zero zero l n = refl
    level zero (suc b) l n = absurd (n (omega arith))
    level (suc a) zero l n = absurd (omega arith)
    level (suc a) (suc b) l n = ap suc (level a b (omega arith) (λ h. n (omega arith)))

-- ---- whether a type is an ancestor

pub no_ancestor : (w : Hierarchy) (a b : SigType) (d e : ℕ) → HasDepth w a d → HasDepth w b e → d < e → Chain w a b → ⊥
no_ancestor w a b d e x y h c = let l = chain_low w a b d e c x y in omega arith

-- the type at the depth of another is that one, where it is an ancestor
pub ancestor_is : (w : Hierarchy) (a b r : SigType) (d : ℕ) → Chain w a r → HasDepth w r d → HasDepth w b d → Chain w a b → r ≡ b
ancestor_is w a b r d c x y f = same_depth w r b d (on_chain w a r b d d c x f y (omega arith)) x y

-- ---- the nearest type

module _ (w : Hierarchy) (ns : List Node) (s t : SigType) (x : Sides) (h : AreSides w ns s t x) where
  pub sides_meet : term_of ns x.left ≡ term_of ns x.right → HasNearest w s t ns x.left
  sides_meet e = record {
    within = h.left_within;
    nearest = record { left = h.left; right = subst (λ (u : SigType). Chain w t u) (sym e) h.right; least = h.left_common };
  }

-- the sides of two types at one depth
pub sides_level : (w : Hierarchy) (ns : List Node) (s t : SigType) (d e : ℕ) (x : Sides) → HasDepth w s d → HasDepth w t e → x.depth ≤ d → x.depth ≤ e → ((x.depth ≡ d) ⊎ (x.depth ≡ e))
    → IsRaised w ns s x.depth x.left → IsRaised w ns t x.depth x.right → AreSides w ns s t x
sides_level w ns s t d e x hs ht ld le one l r = record {
  left_within = l.within;
  right_within = r.within;
  left = l.chain;
  right = r.chain;
  left_depth = l.has;
  right_depth = r.has;
  left_common = λ u a b. let h = chain_depth w d hs a in on_chain w s (term_of ns x.left) u x.depth h.depth l.chain l.has a h.has (low u a b h.depth h.has);
  right_common = λ u a b. let h = chain_depth w e ht b in on_chain w t (term_of ns x.right) u x.depth h.depth r.chain r.has b h.has (low u a b h.depth h.has);
}
  where
    low : (u : SigType) → Chain w s u → Chain w t u → (f : ℕ) → HasDepth w u f → f ≤ x.depth
    low u a b f g = elim one [
      | inl q ↦ let m = chain_low w s u d f a hs g in omega arith
      | inr q ↦ let m = chain_low w t u e f b ht g in omega arith
    ]

-- a type above a common one, by a jump on either side to different types
side_jump : (w : Hierarchy) (l r jl jr u : SigType) (d : ℕ) → Chain w l jl → Chain w r jr → HasDepth w jl d → HasDepth w jr d → (jl ≡ jr → ⊥) → Chain w l u → Chain w r u → Chain w jl u
side_jump w l r jl jr u d cl cr hl hr n a b = elim (chain_fork w cl a) [
  | inl c ↦ c
  | inr c ↦ absurd (n (sym (ancestor_is w r jl jr d cr hr hl (chain_trans w b c))))
]

-- a type above a common one, by the parent of a type that isn't on the other side
side_parent : (w : Hierarchy) (l r p u : SigType) (d : ℕ) → HasDepth w l d → HasDepth w r d → (l ≡ r → ⊥) → parent w l ≡ Some p → Chain w l u → Chain w r u → Chain w p u
side_parent w l r p u d hl hr n e a b = go (next_step w a)
  where
    go : Next w l u → Chain w p u
    go (none h) = absurd (n (sym (same_depth w r l d (subst (λ (v : SigType). Chain w r v) h b) hr hl)))
    go (some f c) = subst (λ (v : SigType). Chain w v u) (some_same f e) c

pub sides_jump : (w : Hierarchy) (ns ms : List Node) (s t : SigType) (x y : Sides) (f g : Standing) → AreSides w ns s t x → Extends ns ms → IsStanding w ms x.left f → IsStanding w ms x.right g → f.reach ≡ g.reach → f.reach < x.depth
    → (term_of ms f.jump ≡ term_of ms g.jump → ⊥) → y ≡ record { left = f.jump; right = g.jump; depth = f.reach } → AreHigher w ms s t x.depth y
sides_jump w ns ms s t x y f g h e fl gr same low n is = subst (λ (z : Sides). AreHigher w ms s t x.depth z) (sym is) (record {
  sides = record {
    left_within = fl.jump;
    right_within = gr.jump;
    left = chain_trans w h.left cl;
    right = chain_trans w h.right cr;
    left_depth = fl.reach;
    right_depth = reach;
    left_common = λ u a b. side_jump w _ _ _ _ u f.reach cl cr fl.reach reach n (h.left_common u a b) (h.right_common u a b);
    right_common = λ u a b. side_jump w _ _ _ _ u f.reach cr cl reach fl.reach (λ q. n (sym q)) (h.right_common u a b) (h.left_common u a b);
  };
  higher = low;
})
  where
    reach : HasDepth w (term_of ms g.jump) f.reach
    reach = subst (HasDepth w (term_of ms g.jump)) (sym same) gr.reach

    cl : Chain w (term_of ns x.left) (term_of ms f.jump)
    cl = subst (λ (u : SigType). Chain w u (term_of ms f.jump)) (e.terms x.left h.left_within) fl.chain

    cr : Chain w (term_of ns x.right) (term_of ms g.jump)
    cr = subst (λ (u : SigType). Chain w u (term_of ms g.jump)) (e.terms x.right h.right_within) gr.chain

pub sides_up : (w : Hierarchy) (ns ms : List Node) (s t : SigType) (x y : Sides) (l r : SigType) → AreSides w ns s t x → (term_of ns x.left ≡ term_of ns x.right → ⊥) → parent w (term_of ns x.left) ≡ Some l → parent w (term_of ns x.right) ≡ Some r
    → y.left < length ms → y.right < length ms → term_of ms y.left ≡ l → term_of ms y.right ≡ r → y.depth ≡ x.depth - 1 → AreHigher w ms s t x.depth y
sides_up w ns ms s t x y l r h n el er lw rw_ il ir id = record {
  sides = record {
    left_within = lw;
    right_within = rw_;
    left = further h.left el2;
    right = further h.right er2;
    left_depth = subst (HasDepth w (term_of ms y.left)) (sym id) (parent_depth w (term_of ns x.left) (term_of ms y.left) x.depth el2 h.left_depth);
    right_depth = subst (HasDepth w (term_of ms y.right)) (sym id) (parent_depth w (term_of ns x.right) (term_of ms y.right) x.depth er2 h.right_depth);
    left_common = λ u a b. side_parent w _ _ _ u x.depth h.left_depth h.right_depth n el2 (h.left_common u a b) (h.right_common u a b);
    right_common = λ u a b. side_parent w _ _ _ u x.depth h.right_depth h.left_depth (λ q. n (sym q)) er2 (h.right_common u a b) (h.left_common u a b);
  };
  higher = let d = depth_some w (term_of ns x.left) x.depth h.left_depth in omega arith;
}
  where
    el2 : parent w (term_of ns x.left) ≡ Some (term_of ms y.left)
    el2 = el ∙ ap Some (sym il)

    er2 : parent w (term_of ns x.right) ≡ Some (term_of ms y.right)
    er2 = er ∙ ap Some (sym ir)

-- two different types of one depth have parents
pub sides_no_top : (w : Hierarchy) (ns : List Node) (s t : SigType) (x : Sides) → AreSides w ns s t x → (term_of ns x.left ≡ term_of ns x.right → ⊥)
    → (parent w (term_of ns x.left) ≡ None) ⊎ (parent w (term_of ns x.right) ≡ None) → ⊥
sides_no_top w ns s t x h n o = elim o [
  | inl e ↦ both (one_depth w (term_of ns x.left) x.depth 1 h.left_depth (top_depth w (term_of ns x.left) e))
  | inr e ↦ both (one_depth w (term_of ns x.right) x.depth 1 h.right_depth (top_depth w (term_of ns x.right) e))
]
  where
    is_top : (u : SigType) → HasDepth w u 1 → u ≡ object
    is_top u (ls, top e, d) = only_object w u e
    is_top u (ls, up e c, d) = absurd (let s = climb_some w c in omega (arith, d))

    both : x.depth ≡ 1 → ⊥
    both e = n (is_top (term_of ns x.left) (subst (HasDepth w (term_of ns x.left)) e h.left_depth) ∙ sym (is_top (term_of ns x.right) (subst (HasDepth w (term_of ns x.right)) e h.right_depth)))

-- their parents, by ids
pub sides_parents : (w : Hierarchy) (ns ms ls : List Node) (s t : SigType) (x y : Sides) (l r : ℕ) → AreSides w ns s t x → (term_of ns x.left ≡ term_of ns x.right → ⊥) → Extends ns ms → Extends ms ls
    → HasOption ms (Some l) (parent w (term_of ns x.left)) → HasOption ls (Some r) (parent w (term_of ms x.right)) → y.left ≡ l → y.right ≡ r → y.depth ≡ x.depth - 1 → AreHigher w ls s t x.depth y
sides_parents w ns ms ls s t x y l r h n e f ol or il ir id =
    sides_up w ns ls s t x y ol.0 or.0 h n ol.1 (ap (parent w) (sym (e.terms x.right h.right_within)) ∙ or.1)
    (subst (λ (k : ℕ). k < length ls) (sym il) (let a = ol.2.within in let b = extends_long ms ls f in omega arith)) (subst (λ (k : ℕ). k < length ls) (sym ir) or.2.within)
    (ap (term_of ls) il ∙ f.terms l ol.2.within ∙ ol.2.term) (ap (term_of ls) ir ∙ or.2.term) id

-- ---- as the pool grows

pub depth_before : (w : Hierarchy) (ns ms : List Node) (id : ℕ) (s : Standing) → Extends ns ms → id < length ns → IsStanding w ms id s → HasDepth w (term_of ns id) s.depth
depth_before w ns ms id s x h st = subst (λ (t : SigType). HasDepth w t s.depth) (x.terms id h) st.depth

pub no_lower : (w : Hierarchy) (t : SigType) (d depth : ℕ) → HasDepth w t d → depth ≤ d → IsNoLower w t depth
no_lower w t d depth h l e g = let same = one_depth w t e d g h in omega arith

pub raised_at : (w : Hierarchy) (ns ms : List Node) (t u : SigType) (depth r : ℕ) → Extends ns ms → IsRaised w ns t depth r → t ≡ u → IsRaised w ms u depth r
raised_at w ns ms t u depth r x h e =
    let there = sym (x.terms r h.within) in
    record {
      within = let a = h.within in let b = extends_long ns ms x in omega arith;
      chain = subst (λ (v : SigType). Chain w v (term_of ms r)) e (subst (λ (v : SigType). Chain w t v) there h.chain);
      has = subst (λ (v : SigType). HasDepth w v depth) there h.has;
    }

pub sides_more : (w : Hierarchy) (ns ms : List Node) (s t : SigType) (x : Sides) → Extends ns ms → AreSides w ns s t x → AreSides w ms s t x
sides_more w ns ms s t x e h =
    let l = sym (e.terms x.left h.left_within) in
    let r = sym (e.terms x.right h.right_within) in
    let long = extends_long ns ms e in
    record {
      left_within = let a = h.left_within in omega arith;
      right_within = let a = h.right_within in omega arith;
      left = subst (λ (v : SigType). Chain w s v) l h.left;
      right = subst (λ (v : SigType). Chain w t v) r h.right;
      left_depth = subst (λ (v : SigType). HasDepth w v x.depth) l h.left_depth;
      right_depth = subst (λ (v : SigType). HasDepth w v x.depth) r h.right_depth;
      left_common = λ u a b. subst (λ (v : SigType). Chain w v u) l (h.left_common u a b);
      right_common = λ u a b. subst (λ (v : SigType). Chain w v u) r (h.right_common u a b);
    }

-- the type at the depth of another, and that other as the pool has it by then
pub ancestor_same : (w : Hierarchy) (a b r later : SigType) (d : ℕ) (x : Bool) → Chain w a r → HasDepth w r d → HasDepth w b d → later ≡ b → (IsTrue x ↔ (r ≡ later)) → IsTrue x ↔ Chain w a b
ancestor_same w a b r later d x c h g e s =
    (λ t. subst (λ (v : SigType). Chain w a v) (s.0 t ∙ e) c, λ f. s.1 (ancestor_is w a b r d c h g f ∙ sym e))

pub least_some : (w : Hierarchy) (t u : SigType) (d e l : ℕ) → HasDepth w t d → HasDepth w u e → ((l ≡ d) ⊎ (l ≡ e)) → 0 < l
least_some w t u d e l x y o = elim o [
  | inl q ↦ let s = depth_some w t d x in omega arith
  | inr q ↦ let s = depth_some w u e y in omega arith
]
