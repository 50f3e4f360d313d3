-- The lists that are found from instructions and blocks are the edges of a body.
use Rattle.std.proofs.Common.{◌≡◌, inl, inr, ℕ, ◌+◌, ◌<◌, true, List, [], ◌∷◌, ◌++◌, map, length, refl, sym, ◌∙◌, ap, subst, Some, arith}
use Rattle.std.specs.Prelude.{slice_get, get_or, nat_lt, ◌&&◌, IsTrue}
use Rattle.std.specs.List.{Contains, list_all}
use Rattle.std.proofs.lemmas.Bool.{and_parts, and_from, ltb-true, lt-ltb}
use Rattle.std.proofs.lemmas.List.Elements.{Contains-append_left, Contains-append_right}
use Rattle.std.proofs.lemmas.Option.{slice_get-get_or}
use Rattle.assembly_tree.specs.declared.body.Clause.{Clause}
use Rattle.assembly_tree.specs.declared.body.ClauseKind.TheVariants.{Catch, Filter, Finally, Fault}
use Rattle.assembly_tree.specs.declared.body.Ins.{Ins}
use Rattle.assembly_tree.specs.WellFormedBodies.{is_forward}
use Rattle.code_flow.specs.declared.goings.Carried.{Carried}
use Rattle.code_flow.specs.declared.goings.Carried.TheVariants as carries
use Rattle.code_flow.specs.declared.goings.Going.{Going}
use Rattle.code_flow.specs.declared.operation.Operation.{Operation}
use Rattle.code_flow.specs.declared.operation.Operation.TheVariants as does
use Rattle.code_flow.specs.Operations.{operation}
use Rattle.code_flow.specs.Frames.{Frame}
use Rattle.code_flow.specs.Blocks.{ClausesNest}
use Rattle.code_flow.specs.BlockTests.{spans_of}
use Rattle.code_flow.specs.Edges.{Does, falls, branches, targets, Leaves, Crosses, EndsFinally, Carries, flowing, stated, Edge, fall, branch, leave, leave_finally, next_finally, finally_left, catches, filters, filtered, finally, fault}
use Rattle.code_flow.specs.Laws.{IsFormed}
use Rattle.code_flow.specs.Goings.{found_by, found_in, carries_of, FlowTogether, BringTogether, BringsObject, any_comes, caught_comes, AreGoings, IsGoings}
use Rattle.code_flow.specs.GoingTests.{going, fallen, branched, flow_targets, goes_through, leave_to, leaves_from, guards_from, own_goings, HasGoings, HaveGoings}
use Rattle.code_flow.proofs.Members.{Every, here, there, either, none, of_append, to_every, every_append}
use Rattle.code_flow.proofs.Targets.{target_within, clause_at, clause_in}
use Rattle.code_flow.proofs.PairLemmas.{Pairs, all_pairs, pairs_of, pairs_append, pairs_mapped, pairs_weak, pairs_second, pairs_first, cross_first, cross_second, in_if, if_in, of_map, in_map, item_at, behind}
use Rattle.code_flow.proofs.Leading.{crosses_by, crossed, all_forward, leave_edge, first_goes, leave_goes, end_edge, next_goes, last_goes, leaves_in, in_leaves, ending, ends_in, ends_by, by_ends}
use Rattle.code_flow.proofs.Handlers.{guard_edge, guard_in, guard_states, guards_apart}

-- ---- edges that state a stack lead to instructions

stated_within : (f : Frame) → IsFormed f → (k t : ℕ) (c : Carries) → Edge f k t c → (c ≡ flowing → ⊥) → t < length f.code
stated_within f formed k t c (fall d h e) n = absurd (n refl)
stated_within f formed k t c (branch d h m) n = absurd (n refl)
stated_within f formed k t c (leave lv no_cross) n = target_within f formed k lv.ins t lv.is.is lv.to
stated_within f formed k t c (leave_finally {place = place} x e) n = let h = (clause_at f formed place _ x.crosses.is).handler in omega (arith, h, e)
stated_within f formed k t c (next_finally {place = place} ends x y e) n = let h = (clause_at f formed place _ y.crosses.is).handler in omega (arith, h, e)
stated_within f formed k t c (finally_left {l = l} ends x no_next) n = target_within f formed l x.leaves.ins t x.leaves.is.is x.leaves.to
stated_within f formed k t c (catches g e) n = let h = (clause_in f formed _ g.is).handler in omega (arith, h, e)
stated_within f formed k t c (filters {at = at} g e) n = let h = (clause_in f formed _ g.is).filter at g.handles in omega (arith, h, e)
stated_within f formed k t c (filtered g e) n = let h = (clause_in f formed _ g.is).handler in omega (arith, h, e)
stated_within f formed k t c (finally g e) n = let h = (clause_in f formed _ g.is).handler in omega (arith, h, e)
stated_within f formed k t c (fault g e) n = let h = (clause_in f formed _ g.is).handler in omega (arith, h, e)

not_flowing : (f : Frame) (c : Carried) → (c ≡ carries.Flowing → ⊥) → carries_of f c ≡ flowing → ⊥
not_flowing f carries.Flowing n e = n refl
not_flowing f carries.Nothing n e = let z : ⊥ = cc in z
not_flowing f carries.Object n e = let z : ⊥ = cc in z
not_flowing f (carries.Caught place) n e = let z : ⊥ = cc in z

quiet : (c : Carried) → BringsObject c → (c ≡ carries.Object → ⊥) → ((place : ℕ) → c ≡ carries.Caught place → ⊥) → ⊥
quiet c (any_comes e) a b = a e
quiet c (caught_comes {place} e) a b = b place e

-- ---- those that an instruction itself states

module _ (f : Frame) (formed : IsFormed f) (nest : ClausesNest f.clauses) (k : ℕ) (i : Ins) (is : slice_get f.code k ≡ Some i) where
  forward : list_all is_forward f.clauses ≡ true
  forward = all_forward (length f.code) f.clauses formed.clauses

  own_by : (o : Operation) → operation i.op ≡ o → (g : Going)
      → Contains (own_goings (map spans_of f.clauses) (leaves_from 0 f.code) k (targets i.operand) o) g → (g.carries ≡ carries.Nothing) × Edge f k g.to (stated [])
  own_by does.Leave e g m =
      let q = of_map (λ (t : ℕ). going carries.Nothing (goes_through k t (map spans_of f.clauses))) (targets i.operand) g m in
      let lv : Leaves f k q.0 = record { ins = i; is = record { is = is; does = e }; to = q.1 } in
      (sym (ap (λ (z : Going). z.carries) q.2), subst (λ (z : Going). Edge f k z.to (stated [])) q.2 (leave_edge f nest forward k q.0 lv))
  own_by does.EndFinally e g m =
      let r = ending (map spans_of f.clauses) (leaves_from 0 f.code) k f.clauses g m in
      let lv = in_leaves f r.left r.among in
      let ends = ends_by f k i (record { is = is; does = e }) r.place r.clause r.is r.ends in
      let x = crosses_by f r.left.at r.left.to r.place r.clause lv r.is r.crosses in
      (sym (ap (λ (z : Going). z.carries) r.to), subst (λ (z : Going). Edge f k z.to (stated [])) r.to (end_edge f nest forward k r.left.at r.left.to r.place r.clause ends x))
  own_by o e g m = absurd (none g m)

  abbrev Own : List Going
  Own = own_goings (map spans_of f.clauses) (leaves_from 0 f.code) k (targets i.operand) (operation i.op)

  own_in_leave : (t : ℕ) → operation i.op ≡ does.Leave → Contains (targets i.operand) t → Contains Own (going carries.Nothing (goes_through k t (map spans_of f.clauses)))
  own_in_leave t e m =
      subst (λ (o : Operation). Contains (own_goings (map spans_of f.clauses) (leaves_from 0 f.code) k (targets i.operand) o) (going carries.Nothing (goes_through k t (map spans_of f.clauses)))) (sym e)
      (in_map (λ (t : ℕ). going carries.Nothing (goes_through k t (map spans_of f.clauses))) (targets i.operand) t m)

  own_in_end : (l t place : ℕ) (c : Clause) → operation i.op ≡ does.EndFinally → EndsFinally f k place c → Crosses f l t place c
      → Contains Own (going carries.Nothing (goes_through l t (map spans_of (behind place f.clauses))))
  own_in_end l t place c e ends x =
      let to = going carries.Nothing (goes_through l t (map spans_of (behind place f.clauses))) in
      subst (λ (o : Operation). Contains (own_goings (map spans_of f.clauses) (leaves_from 0 f.code) k (targets i.operand) o) to) (sym e)
      (ends_in (map spans_of f.clauses) (leaves_from 0 f.code) k f.clauses place c (leave_to l t) ends.is (by_ends f k place c ends) (leaves_in f l t x.leaves) (crossed f l t place c x))

  -- ---- what flows

  flow_edge : (t : ℕ) → Contains (flow_targets (length f.code) k i) t → (t < length f.code) × Edge f k t flowing
  flow_edge t m = elim (of_append (branched (branches (operation i.op)) (targets i.operand)) (fallen (length f.code) k (falls (operation i.op))) t m) [
    | inl b ↦
        let q = in_if (branches (operation i.op)) (targets i.operand) t b in
        (target_within f formed k i t is q.1, branch (record { is = is; does = refl }) q.0 q.1)
    | inr b ↦
        let q = in_if (falls (operation i.op) && nat_lt (k + 1) (length f.code)) ((k + 1) ∷ []) t b in
        let p = and_parts (falls (operation i.op)) (nat_lt (k + 1) (length f.code)) q.0 in
        elim (either (k + 1) [] t q.1) [
          | inl e ↦ (let less = ltb-true (k + 1) (length f.code) p.1 in omega (arith, less), fall (record { is = is; does = refl }) p.0 (sym e))
          | inr more ↦ absurd (none t more)
        ]
  ]

  branch_in : (t : ℕ) → IsTrue (branches (operation i.op)) → Contains (targets i.operand) t → Contains (flow_targets (length f.code) k i) t
  branch_in t b m =
      Contains-append_left (branched (branches (operation i.op)) (targets i.operand)) (fallen (length f.code) k (falls (operation i.op))) t
      (if_in (branches (operation i.op)) (targets i.operand) t b m)

  fall_in : (t : ℕ) → IsTrue (falls (operation i.op)) → t ≡ k + 1 → t < length f.code → Contains (flow_targets (length f.code) k i) t
  fall_in t b e less =
      Contains-append_right (branched (branches (operation i.op)) (targets i.operand)) (fallen (length f.code) k (falls (operation i.op))) t
      (if_in (falls (operation i.op) && nat_lt (k + 1) (length f.code)) ((k + 1) ∷ []) t
      (and_from (falls (operation i.op)) (nat_lt (k + 1) (length f.code)) b (lt-ltb (k + 1) (length f.code) (omega arith)))
      (subst (λ (z : ℕ). Contains ((k + 1) ∷ []) z) (sym e) (here (k + 1) [])))

  -- ---- all of them

  module _ (goings : List Going) (has : HasGoings (length f.code) (map spans_of f.clauses) (leaves_from 0 f.code) k i goings) where
    abbrev Flows : List Going
    Flows = map (going carries.Flowing) has.flows

    abbrev Mine : List Going
    Mine = has.own

    mine_by : (g : Going) → Contains Mine g → (g.carries ≡ carries.Nothing) × Edge f k g.to (stated [])
    mine_by g m = own_by (operation i.op) refl g ((has.same g).0 m)

    abbrev Guards : List Going
    Guards = guards_from k 0 (map spans_of f.clauses)

    each : (g : Going) → Contains (Flows ++ (Mine ++ Guards)) g → (g.to < length f.code) × Edge f k g.to (carries_of f g.carries)
    each g m = elim (of_append Flows (Mine ++ Guards) g m) [
      | inl a ↦
          let q = of_map (going carries.Flowing) has.flows g a in
          let r = flow_edge q.0 ((has.are.same q.0).0 q.1) in
          subst (λ (z : Going). (z.to < length f.code) × Edge f k z.to (carries_of f z.carries)) q.2 r
      | inr b ↦ elim (of_append Mine Guards g b) [
        | inl c ↦
            let r = mine_by g c in (
              stated_within f formed k g.to (stated []) r.1 (λ e. let z : ⊥ = cc in z),
              subst (λ (z : Carried). Edge f k g.to (carries_of f z)) (sym r.0) r.1,
            )
        | inr c ↦
            let edge = guard_edge f k g c in
            (stated_within f formed k g.to (carries_of f g.carries) edge (not_flowing f g.carries (guard_states k f.clauses g c)), edge)
      ]
    ]

    -- an edge is among them
    abbrev Listed : ℕ → Carries → Type 0
    Listed t c = (g : Going) × Contains (Flows ++ (Mine ++ Guards)) g × (g.to ≡ t) × (carries_of f g.carries ≡ c)

    flow_listed : (t : ℕ) → Contains (flow_targets (length f.code) k i) t → Listed t flowing
    flow_listed t m = (
      going carries.Flowing t,
      Contains-append_left Flows (Mine ++ Guards) (going carries.Flowing t) (in_map (going carries.Flowing) has.flows t ((has.are.same t).1 m)),
      refl,
      refl,
    )

    own_listed : (t u : ℕ) → Contains Own (going carries.Nothing u) → u ≡ t → Listed t (stated [])
    own_listed t u m e = (
      going carries.Nothing u,
      Contains-append_right Flows (Mine ++ Guards) (going carries.Nothing u) (Contains-append_left Mine Guards (going carries.Nothing u) ((has.same (going carries.Nothing u)).1 m)),
      e,
      refl,
    )

    guard_listed : (t : ℕ) (c : Carries) (g : Going) → Contains Guards g → g.to ≡ t → carries_of f g.carries ≡ c → Listed t c
    guard_listed t c g m e h = (g, Contains-append_right Flows (Mine ++ Guards) g (Contains-append_right Mine Guards g m), e, h)

    does_is : (o : Operation) (j : Ins) → Does f k o j → (i ≡ j) × (operation i.op ≡ o)
    does_is o j d =
        let w : Some i ≡ Some j = sym is ∙ d.is in
        let same : i ≡ j = cc in
        (same, ap (λ (z : Ins). operation z.op) same ∙ d.does)

    targets_of_same : (j : Ins) (t : ℕ) → i ≡ j → Contains (targets j.operand) t → Contains (targets i.operand) t
    targets_of_same j t e m = subst (λ (z : Ins). Contains (targets z.operand) t) (sym e) m

    all : (t : ℕ) (c : Carries) → t < length f.code → Edge f k t c → Listed t c
    all t c less (fall {i = j} {o = o} d h e) =
        let s = does_is o j d in
        flow_listed t (fall_in t (ap falls s.1 ∙ h) e less)
    all t c less (branch {i = j} {o = o} d h m) =
        let s = does_is o j d in
        flow_listed t (branch_in t (ap branches s.1 ∙ h) (targets_of_same j t s.0 m))
    all t c less (leave lv no_cross) =
        let s = does_is does.Leave lv.ins lv.is in
        own_listed t _ (own_in_leave t s.1 (targets_of_same lv.ins t s.0 lv.to)) (leave_goes f nest forward k t lv no_cross)
    all t c less (leave_finally {target = target} {place = place} {c = d} x e) =
        let lv = x.crosses.leaves in
        let s = does_is does.Leave lv.ins lv.is in
        own_listed t _ (own_in_leave target s.1 (targets_of_same lv.ins target s.0 lv.to)) (first_goes f nest forward k target place d x ∙ sym e)
    all t c less (next_finally {l = l} {target = target} {i = j} {place = place} {c = d} {d = b} ends x y e) =
        let s = does_is does.EndFinally ends.ins ends.does in
        own_listed t _ (own_in_end l target j d s.1 ends x) (next_goes f nest forward l target j d x place b y ∙ sym e)
    all t c less (finally_left {l = l} {i = j} {c = d} ends x no_next) =
        let s = does_is does.EndFinally ends.ins ends.does in
        own_listed t _ (own_in_end l t j d s.1 ends x) (last_goes f nest forward l t j d x no_next)
    all t c less (catches {o = o} {c = d} g e) =
        let m = guard_in f k (Catch o) d g (λ (place : ℕ). going (carries.Caught place) d.handler_start) (λ place. here (going (carries.Caught place) d.handler_start) []) in
        guard_listed t c (going (carries.Caught m.0) d.handler_start) m.2 (sym e) (ap stated (ap (found_in f) m.1 ∙ ap (found_by f) g.handles))
    all t c less (filters {at = at} {c = d} g e) =
        let m = guard_in f k (Filter at) d g (λ (place : ℕ). going carries.Object at)
        (λ place. there (going carries.Object d.handler_start) (going carries.Object at ∷ []) (going carries.Object at) (here (going carries.Object at) [])) in
        guard_listed t c (going carries.Object at) m.2 (sym e) refl
    all t c less (filtered {at = at} {c = d} g e) =
        let m = guard_in f k (Filter at) d g (λ (place : ℕ). going carries.Object d.handler_start)
        (λ place. here (going carries.Object d.handler_start) (going carries.Object at ∷ [])) in
        guard_listed t c (going carries.Object d.handler_start) m.2 (sym e) refl
    all t c less (finally {c = d} g e) =
        let m = guard_in f k Finally d g (λ (place : ℕ). going carries.Nothing d.handler_start) (λ place. here (going carries.Nothing d.handler_start) []) in
        guard_listed t c (going carries.Nothing d.handler_start) m.2 (sym e) refl
    all t c less (fault {c = d} g e) =
        let m = guard_in f k Fault d g (λ (place : ℕ). going carries.Nothing d.handler_start) (λ place. here (going carries.Nothing d.handler_start) []) in
        guard_listed t c (going carries.Nothing d.handler_start) m.2 (sym e) refl

    -- ---- at most one of a kind

    own_nothing : Every (λ (g : Going). g.carries ≡ carries.Nothing) Mine
    own_nothing = to_every (λ (g : Going). g.carries ≡ carries.Nothing) Mine (λ g m. (mine_by g m).0)

    own_states : Every (λ (g : Going). g.carries ≡ carries.Flowing → ⊥) Mine
    own_states = to_every (λ (g : Going). g.carries ≡ carries.Flowing → ⊥) Mine (λ g m e. let h = (mine_by g m).0 in let z : ⊥ = cc in z)

    guards_state : Every (λ (g : Going). g.carries ≡ carries.Flowing → ⊥) Guards
    guards_state = to_every (λ (g : Going). g.carries ≡ carries.Flowing → ⊥) Guards (λ g m. guard_states k f.clauses g m)

    flow_once : Pairs (λ (g h : Going). FlowTogether g h → ⊥) (Flows ++ (Mine ++ Guards))
    flow_once =
        let states = every_append (λ (g : Going). g.carries ≡ carries.Flowing → ⊥) Mine Guards own_states guards_state in
        pairs_append (λ (g h : Going). FlowTogether g h → ⊥) Flows (Mine ++ Guards)
        (pairs_mapped (λ (g h : Going). FlowTogether g h → ⊥) (going carries.Flowing) has.flows
        (pairs_weak (λ (s t : ℕ). s ≡ t → ⊥) (λ (s t : ℕ). FlowTogether (going carries.Flowing s) (going carries.Flowing t) → ⊥) has.flows (λ s t n b. n b.to)
        (pairs_of (λ (s t : ℕ). s ≡ t → ⊥) has.flows has.are.once)))
        (pairs_second (λ (g h : Going). FlowTogether g h → ⊥) (λ (g : Going). g.carries ≡ carries.Flowing → ⊥) (Mine ++ Guards) (λ g h n b. n b.second) states)
        (cross_second (λ (g h : Going). FlowTogether g h → ⊥) (λ (g : Going). g.carries ≡ carries.Flowing → ⊥) Flows (Mine ++ Guards) (λ g h n b. n b.second) states)

    flow_quiet : (t : ℕ) → BringsObject (going carries.Flowing t).carries → ⊥
    flow_quiet t b = quiet carries.Flowing b (λ e. let z : ⊥ = cc in z) (λ p e. let z : ⊥ = cc in z)

    flows_quiet : Every (λ (g : Going). BringsObject g.carries → ⊥) Flows
    flows_quiet = to_every (λ (g : Going). BringsObject g.carries → ⊥) Flows (λ g m.
        let q = of_map (going carries.Flowing) has.flows g m in
        subst (λ (z : Going). BringsObject z.carries → ⊥) q.2 (flow_quiet q.0))

    owns_quiet : Every (λ (g : Going). BringsObject g.carries → ⊥) Mine
    owns_quiet = to_every (λ (g : Going). BringsObject g.carries → ⊥) Mine (λ g m b.
        let h = (mine_by g m).0 in
        quiet g.carries b (λ e. let z : ⊥ = cc in z) (λ p e. let z : ⊥ = cc in z))

    bring_once : Pairs (λ (g h : Going). BringTogether g h → ⊥) (Flows ++ (Mine ++ Guards))
    bring_once =
        pairs_append (λ (g h : Going). BringTogether g h → ⊥) Flows (Mine ++ Guards)
        (pairs_first (λ (g h : Going). BringTogether g h → ⊥) (λ (g : Going). BringsObject g.carries → ⊥) Flows (λ g h n b. n b.first) flows_quiet)
        (pairs_append (λ (g h : Going). BringTogether g h → ⊥) Mine Guards
        (pairs_first (λ (g h : Going). BringTogether g h → ⊥) (λ (g : Going). BringsObject g.carries → ⊥) Mine (λ g h n b. n b.first) owns_quiet)
        (guards_apart k f.clauses nest forward)
        (cross_first (λ (g h : Going). BringTogether g h → ⊥) (λ (g : Going). BringsObject g.carries → ⊥) Mine Guards (λ g h n b. n b.first) owns_quiet))
        (cross_first (λ (g h : Going). BringTogether g h → ⊥) (λ (g : Going). BringsObject g.carries → ⊥) Flows (Mine ++ Guards) (λ g h n b. n b.first) flows_quiet)

    these : AreGoings f k (Flows ++ (Mine ++ Guards))
    these = record {
      each = each;
      all = all;
      flow_once = all_pairs (λ (g h : Going). FlowTogether g h → ⊥) (Flows ++ (Mine ++ Guards)) flow_once;
      bring_once = all_pairs (λ (g h : Going). BringTogether g h → ⊥) (Flows ++ (Mine ++ Guards)) bring_once;
    }

    pub are_goings : AreGoings f k goings
    are_goings = subst (λ (z : List Going). AreGoings f k z) (sym has.is) these

pub goings_right : (f : Frame) (goings : List (List Going)) → IsFormed f → ClausesNest f.clauses → HaveGoings f.code (map spans_of f.clauses) goings → IsGoings f goings
goings_right f goings formed nest have = record {
  count = have.count;
  are = λ k less.
      let i = item_at f.code k less in
      let g = slice_get-get_or goings k [] (omega (arith, have.count)) in
      are_goings f formed nest k i.0 i.1 (get_or goings k []) (have.each k i.0 (get_or goings k []) i.1 g);
}
