-- Edges from the instructions of a try to its handlers and filters.
use Rattle.std.proofs.Common.{◌≡◌, inl, inr, ℕ, zero, suc, ◌+◌, ◌<◌, true, List, [], ◌∷◌, map, refl, sym, ◌∙◌, ap, subst, Option, None, Some, arith}
use Rattle.std.specs.Prelude.{slice_get, ◌&&◌, nat_lt}
use Rattle.std.specs.List.{Contains, list_all}
use Rattle.std.proofs.lemmas.Bool.{and_parts, ltb-true}
use Rattle.std.proofs.lemmas.List.Elements.{Contains-append_left, Contains-append_right}
use Rattle.type_terms.specs.declared.term.Owner.{Owner}
use Rattle.assembly_tree.specs.declared.body.Clause.{Clause}
use Rattle.assembly_tree.specs.declared.body.ClauseKind.{ClauseKind}
use Rattle.assembly_tree.specs.declared.body.ClauseKind.TheVariants.{Catch, Filter, Finally, Fault}
use Rattle.assembly_tree.specs.WellFormedBodies.{is_forward, filter_before}
use Rattle.type_hierarchy.specs.Stack.{Stack}
use Rattle.code_flow.specs.declared.blocks.Handling.{Handling}
use Rattle.code_flow.specs.declared.blocks.Handling.TheVariants as handles
use Rattle.code_flow.specs.declared.blocks.Span.{Span}
use Rattle.code_flow.specs.declared.goings.Carried.TheVariants as carries
use Rattle.code_flow.specs.declared.goings.Going.{Going}
use Rattle.code_flow.specs.Frames.{Frame}
use Rattle.code_flow.specs.Blocks.{filter, Block, try_block, handler_block, filter_blocks, Holds, ClausesNest}
use Rattle.code_flow.specs.BlockTests.{spans_of, handling_of, filter_span, is_held}
use Rattle.code_flow.specs.Edges.{Guards, caught, stated, Edge, catches, filters, filtered, finally, fault}
use Rattle.code_flow.specs.Goings.{found_by, found_in, carries_of, BringTogether}
use Rattle.code_flow.specs.GoingTests.{going, handled_by, handled, guarded_by, guards_from}
use Rattle.code_flow.proofs.Members.{Every, here, there, either, none, contains_at, place_of, of_append, to_every}
use Rattle.code_flow.proofs.Levels.{held, held_from}
use Rattle.code_flow.proofs.PairLemmas.{Pairs, pairs_append, pairs_if, in_if, if_in}
use Rattle.code_flow.proofs.Crossing.{starts_differ}

-- ---- members

-- the one of two
only_one : (x g : Going) (P : Going → Type 0) → Contains (x ∷ []) g → P x → P g
only_one x g P h p = elim (either x [] g h) [
  | inl e ↦ subst P e p
  | inr more ↦ absurd (none g more)
]

one_of_two : (x y g : Going) (P : Going → Type 0) → Contains (x ∷ y ∷ []) g → P x → P y → P g
one_of_two x y g P h p q = elim (either x (y ∷ []) g h) [
  | inl e ↦ subst P e p
  | inr more ↦ only_one y g P more q
]

pub record Guarding (k n : ℕ) (cs : List Clause) (g : Going) : Type 0 where
  pub place : ℕ
  pub clause : Clause
  pub is : slice_get cs place ≡ Some clause
  pub holds : Holds (try_block clause) k
  pub among : Contains (handled (n + place) (spans_of clause)) g

pub guarding : (k n : ℕ) (cs : List Clause) (g : Going) → Contains (guards_from k n (map spans_of cs)) g → Guarding k n cs g
guarding k n [] g h = absurd (none g h)
guarding k n (c ∷ cs) g h = elim (of_append (guarded_by k n (spans_of c)) (guards_from k (n + 1) (map spans_of cs)) g h) [
  | inl m ↦
      let b = in_if (is_held (spans_of c).guarded k) (handled n (spans_of c)) g m in
      let e : n ≡ n + 0 = omega arith in
      record { place = 0; clause = c; is = refl; holds = held (try_block c) k b.0; among = subst (λ (x : ℕ). Contains (handled x (spans_of c)) g) e b.1 }
  | inr m ↦
      let r = guarding k (n + 1) cs g m in
      let e : n + 1 + r.place ≡ n + suc r.place = omega arith in
      record { place = suc r.place; clause = r.clause; is = r.is; holds = r.holds; among = subst (λ (x : ℕ). Contains (handled x (spans_of r.clause)) g) e r.among }
]

guards_first : (k n : ℕ) (c : Clause) (cs : List Clause) (g : Going) → Holds (try_block c) k → Contains (handled n (spans_of c)) g → Contains (guards_from k n (map spans_of (c ∷ cs))) g
guards_first k n c cs g h m =
    Contains-append_left (guarded_by k n (spans_of c)) (guards_from k (n + 1) (map spans_of cs)) g
    (if_in (is_held (spans_of c).guarded k) (handled n (spans_of c)) g (held_from (try_block c) k h) m)

pub guards_in : (k n : ℕ) (cs : List Clause) (place : ℕ) (c : Clause) (g : Going) → slice_get cs place ≡ Some c → Holds (try_block c) k → (p : ℕ) → p ≡ n + place
    → Contains (handled p (spans_of c)) g → Contains (guards_from k n (map spans_of cs)) g
guards_in k n [] place c g is h p e m = absurd (let z : ⊥ = cc in z)
guards_in k n (x ∷ xs) zero c g is h p e m =
    let same : c ≡ x = cc in
    let at : p ≡ n = omega arith in
    subst (λ (z : Clause). Contains (guards_from k n (map spans_of (z ∷ xs))) g) same
    (guards_first k n c xs g h (subst (λ (q : ℕ). Contains (handled q (spans_of c)) g) at m))
guards_in k n (x ∷ xs) (suc place) c g is h p e m =
    Contains-append_right (guarded_by k n (spans_of x)) (guards_from k (n + 1) (map spans_of xs)) g (guards_in k (n + 1) xs place c g is h p (omega arith) m)

-- ---- they are edges

module _ (f : Frame) where
  found_is : (place : ℕ) (c : Clause) (o : Owner) → slice_get f.clauses place ≡ Some c → c.kind ≡ Catch o → found_in f (slice_get f.clauses place) ≡ caught f o
  found_is place c o is e = ap (found_in f) is ∙ ap (found_by f) e

  kind_edge : (k place : ℕ) (c : Clause) → slice_get f.clauses place ≡ Some c → Holds (try_block c) k → (x : ClauseKind) → c.kind ≡ x
      → (g : Going) → Contains (handled_by place c.handler_start (filter_span c.handler_start x) (handling_of x)) g → Edge f k g.to (carries_of f g.carries)
  kind_edge k place c is h (Catch o) e g m =
      only_one (going (carries.Caught place) c.handler_start) g (λ (y : Going). Edge f k y.to (carries_of f y.carries)) m
      (subst (λ (s : List Stack). Edge f k c.handler_start (stated s)) (sym (found_is place c o is e))
      (catches (record { is = contains_at f.clauses place c is; handles = e; holds = h }) refl))
  kind_edge k place c is h (Filter at) e g m =
      let gd : Guards f k (Filter at) c = record { is = contains_at f.clauses place c is; handles = e; holds = h } in
      one_of_two (going carries.Object c.handler_start) (going carries.Object at) g (λ (y : Going). Edge f k y.to (carries_of f y.carries)) m (filtered gd refl) (filters gd refl)
  kind_edge k place c is h Finally e g m =
      only_one (going carries.Nothing c.handler_start) g (λ (y : Going). Edge f k y.to (carries_of f y.carries)) m
      (finally (record { is = contains_at f.clauses place c is; handles = e; holds = h }) refl)
  kind_edge k place c is h Fault e g m =
      only_one (going carries.Nothing c.handler_start) g (λ (y : Going). Edge f k y.to (carries_of f y.carries)) m
      (fault (record { is = contains_at f.clauses place c is; handles = e; holds = h }) refl)

  pub guard_edge : (k : ℕ) (g : Going) → Contains (guards_from k 0 (map spans_of f.clauses)) g → Edge f k g.to (carries_of f g.carries)
  guard_edge k g h =
      let r = guarding k 0 f.clauses g h in
      let e : 0 + r.place ≡ r.place = omega arith in
      kind_edge k r.place r.clause r.is r.holds r.clause.kind refl g (subst (λ (x : ℕ). Contains (handled x (spans_of r.clause)) g) e r.among)

  -- an edge to the handler of a clause is among them
  pub guard_in : (k : ℕ) (x : ClauseKind) (c : Clause) → Guards f k x c → (g : ℕ → Going)
      → ((place : ℕ) → Contains (handled_by place c.handler_start (filter_span c.handler_start x) (handling_of x)) (g place))
      → (place : ℕ) × (slice_get f.clauses place ≡ Some c) × Contains (guards_from k 0 (map spans_of f.clauses)) (g place)
  guard_in k x c gd g m =
      let at = place_of f.clauses c gd.is in (
        at.0,
        at.1,
        guards_in k 0 f.clauses at.0 c (g at.0) at.1 gd.holds at.0 (omega arith)
            (subst (λ (y : ClauseKind). Contains (handled_by at.0 c.handler_start (filter_span c.handler_start y) (handling_of y)) (g at.0)) (sym gd.handles) (m at.0)),
      )

-- ---- what comes along

never_flows : (place start : ℕ) (s : Option Span) (x : Handling) (g : Going) → Contains (handled_by place start s x) g → g.carries ≡ carries.Flowing → ⊥
never_flows place start s handles.Catch g m =
    only_one (going (carries.Caught place) start) g (λ (y : Going). y.carries ≡ carries.Flowing → ⊥) m (λ e. let z : ⊥ = cc in z)
never_flows place start None handles.Filter g m =
    only_one (going carries.Object start) g (λ (y : Going). y.carries ≡ carries.Flowing → ⊥) m (λ e. let z : ⊥ = cc in z)
never_flows place start (Some s) handles.Filter g m =
    one_of_two (going carries.Object start) (going carries.Object s.start) g (λ (y : Going). y.carries ≡ carries.Flowing → ⊥) m (λ e. let z : ⊥ = cc in z) (λ e. let z : ⊥ = cc in z)
never_flows place start s handles.Finally g m =
    only_one (going carries.Nothing start) g (λ (y : Going). y.carries ≡ carries.Flowing → ⊥) m (λ e. let z : ⊥ = cc in z)
never_flows place start s handles.Fault g m =
    only_one (going carries.Nothing start) g (λ (y : Going). y.carries ≡ carries.Flowing → ⊥) m (λ e. let z : ⊥ = cc in z)

pub guard_states : (k : ℕ) (cs : List Clause) (g : Going) → Contains (guards_from k 0 (map spans_of cs)) g → g.carries ≡ carries.Flowing → ⊥
guard_states k cs g h =
    let r = guarding k 0 cs g h in
    never_flows (0 + r.place) r.clause.handler_start (filter_span r.clause.handler_start r.clause.kind) (handling_of r.clause.kind) g r.among

-- ---- at most one object for one instruction

-- it leads to the start of a handler or filter of the clause
abbrev StartsIn : Clause → ClauseKind → Going → Type 0
StartsIn c x g = (b : Block) × Contains (handler_block c ∷ filter_blocks c.handler_start x) b × (b.start ≡ g.to)

starts_by : (n : ℕ) (c : Clause) (x : ClauseKind) (g : Going) → Contains (handled_by n c.handler_start (filter_span c.handler_start x) (handling_of x)) g → StartsIn c x g
starts_by n c (Catch o) g m =
    only_one (going (carries.Caught n) c.handler_start) g (StartsIn c (Catch o)) m (handler_block c, here (handler_block c) [], refl)
starts_by n c (Filter at) g m =
    let b : Block = record { kind = filter; start = at; end = c.handler_start } in
    one_of_two (going carries.Object c.handler_start) (going carries.Object at) g (StartsIn c (Filter at)) m
    (handler_block c, here (handler_block c) (b ∷ []), refl)
    (b, there (handler_block c) (b ∷ []) b (here b []), refl)
starts_by n c Finally g m = only_one (going carries.Nothing c.handler_start) g (StartsIn c Finally) m (handler_block c, here (handler_block c) [], refl)
starts_by n c Fault g m = only_one (going carries.Nothing c.handler_start) g (StartsIn c Fault) m (handler_block c, here (handler_block c) [], refl)

own_apart : (n start : ℕ) (x : ClauseKind) → filter_before start x ≡ true → Pairs (λ (g h : Going). BringTogether g h → ⊥) (handled_by n start (filter_span start x) (handling_of x))
own_apart n start (Catch o) h = (tt, tt)
own_apart n start (Filter at) h = ((λ b. let less = ltb-true at start h in omega (arith, less, b.to), tt), (tt, tt))
own_apart n start Finally h = (tt, tt)
own_apart n start Fault h = (tt, tt)

module _ (cs : List Clause) (nest : ClausesNest cs) (fw : list_all is_forward cs ≡ true) where
  two_apart : (k i j : ℕ) (c d : Clause) → i < j → slice_get cs i ≡ Some c → slice_get cs j ≡ Some d → Holds (try_block c) k → Holds (try_block d) k
      → (n m : ℕ) (g h : Going) → Contains (handled n (spans_of c)) g → Contains (handled m (spans_of d)) h → BringTogether g h → ⊥
  two_apart k i j c d less a b hc hd n m g h ig ih t =
      let x = starts_by n c c.kind g ig in
      let y = starts_by m d d.kind h ih in
      starts_differ cs nest fw k i j c d less a b hc hd x.0 y.0 x.1 y.1 (x.2 ∙ t.to ∙ sym y.2)

-- of the clauses of a list from one on, which lies in the whole
guards_apart_by : (k n : ℕ) (cs : List Clause) → list_all is_forward cs ≡ true
    → ((i j : ℕ) (c d : Clause) → i < j → slice_get cs i ≡ Some c → slice_get cs j ≡ Some d → Holds (try_block c) k → Holds (try_block d) k
    → (n m : ℕ) (g h : Going) → Contains (handled n (spans_of c)) g → Contains (handled m (spans_of d)) h → BringTogether g h → ⊥)
    → Pairs (λ (g h : Going). BringTogether g h → ⊥) (guards_from k n (map spans_of cs))
guards_apart_by k n [] fw two = tt
guards_apart_by k n (c ∷ cs) fw two =
    let p = and_parts (is_forward c) (list_all is_forward cs) fw in
    let before = (and_parts (nat_lt c.try_start c.try_end && nat_lt c.handler_start c.handler_end) (filter_before c.handler_start c.kind) p.0).1 in
    pairs_append (λ (g h : Going). BringTogether g h → ⊥) (guarded_by k n (spans_of c)) (guards_from k (n + 1) (map spans_of cs))
    (pairs_if (λ (g h : Going). BringTogether g h → ⊥) (is_held (spans_of c).guarded k) (handled n (spans_of c)) (own_apart n c.handler_start c.kind before))
    (guards_apart_by k (n + 1) cs p.1 (λ i j x y less a b. two (suc i) (suc j) x y (omega arith) a b))
    (to_every (λ (g : Going). Every (λ (h : Going). BringTogether g h → ⊥) (guards_from k (n + 1) (map spans_of cs))) (guarded_by k n (spans_of c)) (λ g m.
    to_every (λ (h : Going). BringTogether g h → ⊥) (guards_from k (n + 1) (map spans_of cs)) (λ h mh.
    let b = in_if (is_held (spans_of c).guarded k) (handled n (spans_of c)) g m in
    let r = guarding k (n + 1) cs h mh in
    two 0 (suc r.place) c r.clause (omega arith) refl r.is (held (try_block c) k b.0) r.holds n (n + 1 + r.place) g h b.1 r.among)))

pub guards_apart : (k : ℕ) (cs : List Clause) → ClausesNest cs → list_all is_forward cs ≡ true → Pairs (λ (g h : Going). BringTogether g h → ⊥) (guards_from k 0 (map spans_of cs))
guards_apart k cs nest fw = guards_apart_by k 0 cs fw (λ i j c d less a b. two_apart cs nest fw k i j c d less a b)
