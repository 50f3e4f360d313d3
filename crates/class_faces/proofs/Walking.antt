-- How the ids of all that lies above some types are found, each once.
use Rattle.std.proofs.Common.{◌≡◌, ◌⊎◌, inl, inr, refl, sym, ◌∙◌, ap, subst, ℕ, zero, suc, ◌+◌, ◌<◌, ◌≤◌, arith, List, [], ◌∷◌, ◌++◌, length, slice_get, get_or, Result, Ok, Err, OnOk, Option, None, Some}
use Rattle.std.specs.List.{Contains}
use Rattle.std.proofs.lemmas.List.{append_assoc, append-nil, length-map, get_or-map}
use Rattle.std.proofs.lemmas.List.Elements.{Contains-append_left, Contains-append_cases, All-contains}
use Rattle.std.proofs.lemmas.Option.{slice_get_within, get_or_from_slice_get, slice_get-get_or}
use Rattle.type_terms.specs.declared.term.SigType.{SigType}
use Rattle.sig_pool.specs.declared.node.Node.{Node}
use Rattle.sig_pool.specs.Pool.{HasAll, Extends}
use Rattle.sig_pool.specs.Replaced.{terms_at}
use Rattle.sig_pool.specs.Terms.{AllBelow, term_of}
use Rattle.type_hierarchy.specs.Hierarchy.{Hierarchy, parent, interfaces, Up, itself, to_parent, to_interface}
use Rattle.type_hierarchy.specs.Pooled.{HasOption}
use Rattle.class_faces.specs.Ids.{AreIds}
use Rattle.class_faces.specs.Unions.{IsUnion}
use Rattle.type_hierarchy.specs.Queues.{AddsAll, optional, HasType, IsStep, AddsSteps, UpFromSome}
use Rattle.type_hierarchy.specs.declared.tables.Tables.{Tables}
use Rattle.type_hierarchy.specs.Tables.{hierarchy_in}
use Rattle.type_hierarchy.specs.World.{Content, Stays, hierarchy, type_at}
use Rattle.type_hierarchy.proofs.Climbing.{none_some}
use Rattle.type_hierarchy.proofs.GrowLemmas.{extends_trans, below_extends, all_extends}
use Rattle.type_hierarchy.proofs.QueueLemmas.{no_ids}

-- ---- lists

pub within_one : (ids : List ℕ) (b k : ℕ) → AllBelow b ids → Contains ids k → k < b
within_one ids b k p c = All-contains (λ j. j < b) ids k p c

pub at_place : (ids : List ℕ) (k id : ℕ) → slice_get ids k ≡ Some id → Contains ids id
at_place ids k id e = (k, slice_get_within ids k id e, get_or_from_slice_get ids k id id e)

pub front : (xs ys : List ℕ) (j y : ℕ) → slice_get (xs ++ ys) j ≡ Some y → j < length xs → slice_get xs j ≡ Some y
front [] ys j y e h = absurd (omega arith)
front (x ∷ xs) ys zero y e h = e
front (x ∷ xs) ys (suc j) y e h = front xs ys j y e (omega arith)

-- the id of a type among those of types
pub among : (ns : List Node) (ids : List ℕ) (t : SigType) → Contains (terms_at ns ids) t → HasType ns ids t
among ns ids t (k, h, e) =
    let low : k < length ids = rw (length-map ids (term_of ns)) at h in
    let is : term_of ns (get_or ids k 0) ≡ t = sym (get_or-map (term_of ns) ids k 0 t low) ∙ e in
    record { id = get_or ids k 0; among = at_place ids k (get_or ids k 0) (slice_get-get_or ids k 0 low); is = is }

pub among_back : (ns : List Node) (ids : List ℕ) (id : ℕ) → Contains ids id → Contains (terms_at ns ids) (term_of ns id)
among_back ns ids id (k, h, e) =
    (k, rw (length-map ids (term_of ns)) h, get_or-map (term_of ns) ids k id (term_of ns id) h ∙ ap (term_of ns) e)

has_type_more : (ns ms : List Node) (ids more : List ℕ) (t : SigType) → Extends ns ms → AllBelow (length ns) ids → HasType ns ids t → HasType ms (ids ++ more) t
has_type_more ns ms ids more t x p h = record {
  id = h.id;
  among = Contains-append_left ids more h.id h.among;
  is = x.terms h.id (within_one ids (length ns) h.id p h.among) ∙ h.is;
}

-- ---- the steps from one type

-- the parent, where there is one, and then the interfaces
module _ (w : Hierarchy) (ns : List Node) (t : SigType) (old middle new : List ℕ) (p : Option ℕ) (is : List ℕ)
    (hp : HasOption ns p (parent w t)) (hi : HasAll ns is (interfaces w t)) (a : AddsAll old middle (optional p)) (b : AddsAll middle new is) where
  parent_step : (o : Option ℕ) → HasOption ns o (parent w t) → (k : ℕ) → Contains (optional o) k → (k < length ns) × IsStep w t (term_of ns k)
  parent_step None h k c = absurd (no_ids k c)
  parent_step (Some id) (s, e, h) k (zero, g, f) =
      subst (λ (j : ℕ). (j < length ns) × IsStep w t (term_of ns j)) f (h.within, inl (e ∙ ap Some (sym h.term)))
  parent_step (Some id) h k (suc j, g, f) = absurd (omega arith)

  step : (k : ℕ) → Contains (a.more ++ b.more) k → (k < length ns) × IsStep w t (term_of ns k)
  step k c = elim (Contains-append_cases a.more b.more k c) [
    | inl d ↦ parent_step p hp k (a.only k d)
    | inr d ↦
        let e : Contains is k = b.only k d in
        (within_one is (length ns) k hi.within e, inr (subst (λ (l : List SigType). Contains l (term_of ns k)) hi.terms (among_back ns is k e)))
  ]

  step_within : AllBelow (length ns) (a.more ++ b.more)
  step_within k d h = (step (get_or (a.more ++ b.more) k d) (at_place (a.more ++ b.more) k (get_or (a.more ++ b.more) k d) (slice_get-get_or (a.more ++ b.more) k d h))).0

  parent_has : (o : Option ℕ) → HasOption ns o (parent w t) → ((k : ℕ) → Contains (optional o) k → Contains new k) → (u : SigType) → parent w t ≡ Some u → HasType ns new u
  parent_has None h g u e = absurd (none_some h e)
  parent_has (Some id) (s, f, h) g u e =
      let q : Some s ≡ Some u = sym f ∙ e in
      let same : s ≡ u = cc in
      record { id = id; among = g id (0, omega arith, refl); is = h.term ∙ same }

  from_middle : (k : ℕ) → Contains (optional p) k → Contains new k
  from_middle k c = subst (λ (l : List ℕ). Contains l k) (sym b.is) (Contains-append_left middle b.more k (a.has k c))

  step_has : (u : SigType) → IsStep w t u → HasType ns new u
  step_has u (inl e) = parent_has p hp from_middle u e
  step_has u (inr c) =
      let h : HasType ns is u = among ns is u (subst (λ (l : List SigType). Contains l u) (sym hi.terms) c) in
      record { id = h.id; among = b.has h.id h.among; is = h.is }

  pub adds_steps : AddsSteps w ns t old new
  adds_steps = record {
    more = a.more ++ b.more;
    is = b.is ∙ ap (λ l. l ++ b.more) a.is ∙ append_assoc old a.more b.more;
    within = step_within;
    only = λ k c. (step k c).1;
    has = step_has;
  }

pub adds_steps_grown : (w : Hierarchy) (ns ms ls : List Node) (id : ℕ) (old middle new : List ℕ) (p : Option ℕ) (is : List ℕ)
    → id < length ns → Extends ns ms → HasAll ms is (interfaces w (term_of ns id)) → Extends ms ls → HasOption ls p (parent w (term_of ms id))
    → AddsAll old middle (optional p) → AddsAll middle new is → AddsSteps w ls (term_of ns id) old new
adds_steps_grown w ns ms ls id old middle new p is low x hi y hp a b =
    let hq : HasOption ls p (parent w (term_of ns id)) = subst (λ (u : SigType). HasOption ls p (parent w u)) (x.terms id low) hp in
    adds_steps w ls (term_of ns id) old middle new p is hq (all_extends ms ls is (interfaces w (term_of ns id)) hi y) a b

-- ---- the walk

-- the types of the ids so far are above some at the beginning; of those that are done what is one step above them is there
pub record Walk (w : Hierarchy) (ns ms : List Node) (old ids : List ℕ) (done : ℕ) : Type 0 where
  pub within : AllBelow (length ms) ids
  pub extends : Extends ns ms
  pub sound : (id : ℕ) → Contains ids id → UpFromSome w ns old (term_of ms id)
  pub first : (id : ℕ) → Contains old id → Contains ids id
  pub closed : (j id : ℕ) → j < done → slice_get ids j ≡ Some id → (u : SigType) → IsStep w (term_of ms id) u → HasType ms ids u

-- the queue begins with the ids of `old`, each once
pub walk_begins : (w : Hierarchy) (ns : List Node) (old ids : List ℕ) → AllBelow (length ns) old → ids ≡ [] → (new : List ℕ) → AddsAll ids new old → Walk w ns ns old new 0
walk_begins w ns old ids p e new a = record {
  within = λ k d h. only_low k d h;
  extends = record { more = []; nodes = sym (append-nil ns); terms = λ k h. refl };
  sound = λ id c. record { id = id; among = only id c; up = itself };
  first = a.has;
  closed = λ j id h e. absurd (omega arith);
}
  where
    only : (id : ℕ) → Contains new id → Contains old id
    only id c = elim (Contains-append_cases ids a.more id (subst (λ (l : List ℕ). Contains l id) a.is c)) [
      | inl q ↦ absurd (no_ids id (subst (λ (l : List ℕ). Contains l id) e q))
      | inr q ↦ a.only id q
    ]

    only_low : (k d : ℕ) → k < length new → get_or new k d < length ns
    only_low k d h = within_one old (length ns) (get_or new k d) p (only (get_or new k d) (at_place new k (get_or new k d) (slice_get-get_or new k d h)))

up_step : (w : Hierarchy) {s t u : SigType} → Up w s t → IsStep w t u → Up w s u
up_step w a (inl e) = to_parent a e
up_step w a (inr c) = to_interface a c

pub walk_more : (w : Hierarchy) (ns ms ls : List Node) (old ids new : List ℕ) (done at : ℕ)
    → Walk w ns ms old ids done → slice_get ids done ≡ Some at
    → AddsSteps w ls (term_of ms at) ids new → Extends ms ls → Walk w ns ls old new (done + 1)
walk_more w ns ms ls old ids new done at v e a x = subst (λ (l : List ℕ). Walk w ns ls old l (done + 1)) (sym a.is) walk
  where
    here : done < length ids
    here = slice_get_within ids done at e

    at_within : at < length ms
    at_within = within_one ids (length ms) at v.within (at_place ids done at e)

    kept : (id : ℕ) → Contains ids id → term_of ls id ≡ term_of ms id
    kept id c = x.terms id (within_one ids (length ms) id v.within c)

    sound : (id : ℕ) → Contains (ids ++ a.more) id → UpFromSome w ns old (term_of ls id)
    sound id c = elim (Contains-append_cases ids a.more id c) [
      | inl d ↦ subst (λ (t : SigType). UpFromSome w ns old t) (sym (kept id d)) (v.sound id d)
      | inr d ↦
          let s : UpFromSome w ns old (term_of ms at) = v.sound at (at_place ids done at e) in
          record { id = s.id; among = s.among; up = up_step w s.up (a.only id d) }
    ]

    within : AllBelow (length ls) (ids ++ a.more)
    within k d h = elim (Contains-append_cases ids a.more (get_or (ids ++ a.more) k d) (at_place (ids ++ a.more) k (get_or (ids ++ a.more) k d) (slice_get-get_or (ids ++ a.more) k d h))) [
      | inl c ↦ within_one ids (length ls) _ (below_extends ms ls ids x v.within) c
      | inr c ↦ within_one a.more (length ls) _ a.within c
    ]

    same_at : (j id : ℕ) → j ≡ done → slice_get (ids ++ a.more) j ≡ Some id → id ≡ at
    same_at j id h f =
        let g : slice_get ids j ≡ Some id = front ids a.more j id f (omega (arith, here)) in
        let k : slice_get ids done ≡ Some id = subst (λ (i : ℕ). slice_get ids i ≡ Some id) h g in
        let q : Some id ≡ Some at = sym k ∙ e in
        cc

    before : (j : ℕ) → j < done + 1 → (j < done) ⊎ (j ≡ done)
    before j h = elim (below_or j done h) [ inl g ↦ inl g | inr g ↦ inr g ]
      where
        below_or : (j n : ℕ) → j < n + 1 → (j < n) ⊎ (j ≡ n)
        below_or zero zero h = inr refl
        below_or zero (suc n) h = inl (omega arith)
        below_or (suc j) zero h = absurd (omega arith)
        below_or (suc j) (suc n) h = elim (below_or j n (omega arith)) [ inl g ↦ inl (omega arith) | inr g ↦ inr (omega arith) ]

    closed : (j id : ℕ) → j < done + 1 → slice_get (ids ++ a.more) j ≡ Some id → (u : SigType) → IsStep w (term_of ls id) u → HasType ls (ids ++ a.more) u
    closed j id h f u s = elim (before j h) [
      | inl low ↦
          let k : slice_get ids j ≡ Some id = front ids a.more j id f (omega (arith, here)) in
          let t : IsStep w (term_of ms id) u = subst (λ (y : SigType). IsStep w y u) (kept id (at_place ids j id k)) s in
          has_type_more ms ls ids a.more u x v.within (v.closed j id low k u t)
      | inr is ↦
          let same : id ≡ at = same_at j id is f in
          let t : IsStep w (term_of ms at) u = subst (λ (y : SigType). IsStep w y u) (ap (term_of ls) same ∙ x.terms at at_within) s in
          subst (λ (l : List ℕ). HasType ls l u) a.is (a.has u t)
    ]

    walk : Walk w ns ls old (ids ++ a.more) (done + 1)
    walk = record {
      within = within;
      extends = extends_trans ns ms ls v.extends x;
      sound = sound;
      first = λ id c. Contains-append_left ids a.more id (v.first id c);
      closed = closed;
    }

module _ (w : Hierarchy) (ns ms : List Node) (old ids : List ℕ) (done : ℕ) (v : Walk w ns ms old ids done)
    (all_done : length ids ≤ done) where
  place : (id : ℕ) → Contains ids id → (j : ℕ) × (j < done) × (slice_get ids j ≡ Some id)
  place id (j, h, e) = (j, omega arith, slice_get-get_or ids j id h ∙ ap Some e)

  reached : (id : ℕ) → Contains ids id → {t : SigType} → Up w (term_of ms id) t → HasType ms ids t
  reached id c itself = record { id = id; among = c; is = refl }
  reached id c (to_parent {u = u} a e) = next u (reached id c a) (inl e)
    where
      next : {s : SigType} (u : SigType) → HasType ms ids s → IsStep w s u → HasType ms ids u
      next u h s =
          let p = place h.id h.among in
          v.closed p.0 h.id p.1 p.2 u (subst (λ (y : SigType). IsStep w y u) (sym h.is) s)
  reached id c (to_interface {u = u} a e) = next u (reached id c a) (inr e)
    where
      next : {s : SigType} (u : SigType) → HasType ms ids s → IsStep w s u → HasType ms ids u
      next u h s =
          let p = place h.id h.among in
          v.closed p.0 h.id p.1 p.2 u (subst (λ (y : SigType). IsStep w y u) (sym h.is) s)

  walk_has : AllBelow (length ns) old → (t : SigType) → UpFromSome w ns old t → HasType ms ids t
  walk_has p t s =
      let same : term_of ms s.id ≡ term_of ns s.id = v.extends.terms s.id (within_one old (length ns) s.id p s.among) in
      reached s.id (v.first s.id s.among) (subst (λ (u : SigType). Up w u t) (sym same) s.up)

  pub walk_ends : AllBelow (length ns) old → AreIds ms (UpFromSome w ns old) ids
  walk_ends p = record { within = v.within; are = v.sound; all = walk_has p }

pub past : (ids : List ℕ) (k : ℕ) → slice_get ids k ≡ None → length ids ≤ k
past [] k e = omega arith
past (x ∷ ids) zero e = absurd (let f : ⊥ = cc in f)
past (x ∷ ids) (suc k) e = let h = past ids k e in omega arith

-- what two lists of ids give that are added to none
pub union_of : (xs ys none middle queue ids : List ℕ) → none ≡ [] → AddsAll none middle xs → AddsAll middle queue ys → ids ≡ queue → IsUnion xs ys ids
union_of xs ys none middle queue ids e a b is k = (to, from)
  where
    in_middle : Contains middle k → Contains xs k
    in_middle c = elim (Contains-append_cases none a.more k (subst (λ (l : List ℕ). Contains l k) a.is c)) [
      | inl d ↦ absurd (no_ids k (subst (λ (l : List ℕ). Contains l k) e d))
      | inr d ↦ a.only k d
    ]

    to : Contains ids k → Contains xs k ⊎ Contains ys k
    to c = elim (Contains-append_cases middle b.more k (subst (λ (l : List ℕ). Contains l k) (is ∙ b.is) c)) [
      | inl d ↦ inl (in_middle d)
      | inr d ↦ inr (b.only k d)
    ]

    in_queue : Contains xs k ⊎ Contains ys k → Contains queue k
    in_queue (inl c) = subst (λ (l : List ℕ). Contains l k) (sym b.is) (Contains-append_left middle b.more k (a.has k c))
    in_queue (inr c) = b.has k c

    from : Contains xs k ⊎ Contains ys k → Contains ids k
    from c = subst (λ (l : List ℕ). Contains l k) (sym is) (in_queue c)

-- the same in worlds, one after the other
pub adds_steps_in : (w v u : Content) (id : ℕ) (old middle new : List ℕ) (p : Option ℕ) (is slice : List ℕ) {T E : Type 0} (r : Result T E) → id < length w.nodes → Stays w v →
    HasAll v.nodes is (interfaces (hierarchy w) (type_at w id)) → Stays v u → HasOption u.nodes p (parent (hierarchy v) (type_at v id)) → AddsAll old middle (optional p) →
    slice ≡ is → OnOk r (AddsAll middle new slice) → OnOk r (AddsSteps (hierarchy w) u.nodes (type_at w id) old new)
adds_steps_in w v u id old middle new p is slice (Ok x) low s hi t hp a e b =
    let same : HasOption u.nodes p (parent (hierarchy w) (type_at v id)) = subst (λ (l : Tables). HasOption u.nodes p (parent (hierarchy_in l) (type_at v id))) s.tables hp in
    adds_steps_grown (hierarchy w) w.nodes v.nodes u.nodes id old middle new p is low s.nodes hi t.nodes same a (subst (λ (l : List ℕ). AddsAll middle new l) e b)
adds_steps_in w v u id old middle new p is slice (Err x) low s hi t hp a e b = tt

pub union_same : (xs ys zs vs ids : List ℕ) → zs ≡ xs → vs ≡ ys → IsUnion zs vs ids → IsUnion xs ys ids
union_same xs ys zs vs ids e f h = subst (λ (l : List ℕ). IsUnion l ys ids) e (subst (λ (l : List ℕ). IsUnion zs l ids) f h)
