-- Every path of a body whose typing breaks no rule has the depth of the typing and types that may stand for its types, so
-- that it meets each demand.
use Rattle.std.proofs.Common.{◌≡◌, inl, inr, ℕ, zero, suc, ◌+◌, ◌<◌, Bool, true, false, List, [], ◌∷◌, ◌++◌, length, get_or, refl, sym, ◌∙◌, ap, subst, Option, None, Some, IsTrue, arith}
use Rattle.std.specs.Prelude.{slice_get, is_some, if◌then◌else◌}
use Rattle.std.proofs.lemmas.Bool.{cases_lt}
use Rattle.type_terms.specs.declared.term.SigType.{SigType}
use Rattle.assembly_tree.specs.declared.body.Ins.{Ins}
use Rattle.type_hierarchy.specs.Hierarchy.{Hierarchy, Up, itself, to_parent, Chain, alone, further}
use Rattle.type_hierarchy.specs.Stack.{Stack, null, ref, boxed, bad}
use Rattle.type_hierarchy.specs.Relations.{Assignable, same, null_ref, null_boxed, ref_up, boxed_parent, Below, equal, below_bad, null_below_ref, null_below_boxed, ref_chain, boxed_chain}
use Rattle.type_hierarchy.specs.Laws.{IsGrounded, IsTransitive}
use Rattle.code_flow.specs.Demands.{Demand, nothing, any, number, integer, index, object, condition, comparable, exactly, one_of, to, object_pointer, vector, vector_of, object_vector, Together, stored, referent, first, second, go_together, Meets, MeetTogether, StoredIn, HasWrongKind, FailsToAssign, AreMismatched, FailToStore, NotStored}
use Rattle.code_flow.specs.Frames.{Frame}
use Rattle.code_flow.specs.Rows.{Row, row_of}
use Rattle.code_flow.specs.Stacks.{Each}
use Rattle.code_flow.specs.Effects.{taken, results, below_operands, effect}
use Rattle.code_flow.specs.Edges.{Carries, flowing, stated, Edge, fall, branch, leave, leave_finally, next_finally, finally_left, catches, filters, filtered, finally, fault}
use Rattle.code_flow.specs.Typings.{State, unreached, stack, clash, Typing, AtMost, stacks, carried, stack_after, IsSolution}
use Rattle.code_flow.specs.Rules.{Breaks, v1, v2, v4, v5, v5_stored, v6, v7, v11_deep, v15_deep, v19}
use Rattle.code_flow.specs.Paths.{Point, AreMet, IsWrong, past, too_few, unmet, returns_more, filters_more, by_reference, StandsFor, for_bad, assigned as stands, Becomes, Steps, Reaches, start, step, NeverWrong}
use Rattle.code_flow.specs.Laws.{Under, assigned, under_bad, AreMonotone, IsFormed, BreaksNothing}
use Rattle.body_verifier.proofs.Refining.{Refines, under_refines}
use Rattle.body_verifier.proofs.Monotone.{each_length, each_append, operands_lower, below_lower}
use Rattle.body_verifier.proofs.Shapes.{Shape, none, pair, store, shape_of}
use Rattle.code_flow.proofs.Targets.{target_within, clause_at, clause_in}

-- ---- relations after one another

chain_up : {w : Hierarchy} {s t : SigType} → Chain w s t → Up w s t
chain_up alone = itself
chain_up (further c e) = to_parent (chain_up c) e

module _ (w : Hierarchy) (trans : IsTransitive w) where
  from_assigned : {s t u : Stack} → Assignable w s t → Below w t u → Under w s u
  from_assigned a equal = assigned a
  from_assigned a below_bad = under_bad
  from_assigned {s = s} a (null_below_ref {t = t}) = assigned (trans s null (ref t) a null_ref)
  from_assigned {s = s} a (null_below_boxed {t = t}) = assigned (trans s null (boxed t) a null_boxed)
  from_assigned {s = s} a (ref_chain {s = x} {t = y} c) = assigned (trans s (ref x) (ref y) a (ref_up (chain_up c)))
  from_assigned {s = s} a (boxed_chain {s = x} {t = y} e c) = assigned (trans s (boxed x) (ref y) a (boxed_parent e (chain_up c)))

  above_bad : {s u : Stack} → Below w bad u → Under w s u
  above_bad equal = under_bad
  above_bad below_bad = under_bad

  under_below : {s t u : Stack} → Under w s t → Below w t u → Under w s u
  under_below (assigned a) b = from_assigned a b
  under_below under_bad b = above_bad b

  each_under_below : (ss ts us : List Stack) → Each (Under w) ss ts → Each (Below w) ts us → Each (Under w) ss us
  each_under_below [] [] [] a b = tt
  each_under_below [] [] (u ∷ us) a b = absurd b
  each_under_below [] (t ∷ ts) us a b = absurd a
  each_under_below (s ∷ ss) [] us a b = absurd a
  each_under_below (s ∷ ss) (t ∷ ts) [] a b = absurd b
  each_under_below (s ∷ ss) (t ∷ ts) (u ∷ us) a b = (under_below a.0 b.0, each_under_below ss ts us a.1 b.1)

  stands_assigned : {s t u : Stack} → Assignable w s t → Under w t u → Under w s u
  stands_assigned {s = s} {t = t} {u = u} a (assigned b) = assigned (trans s t u a b)
  stands_assigned a under_bad = under_bad

  bad_under : {s u : Stack} → Under w bad u → Under w s u
  bad_under (assigned (same h)) = absurd (h refl)
  bad_under under_bad = under_bad

  stands_under : {s t u : Stack} → StandsFor w s t → Under w t u → Under w s u
  stands_under for_bad b = b
  stands_under (stands a) b = stands_assigned a b

  each_stands_under : (ss ts us : List Stack) → Each (StandsFor w) ss ts → Each (Under w) ts us → Each (Under w) ss us
  each_stands_under [] [] [] a b = tt
  each_stands_under [] [] (u ∷ us) a b = absurd b
  each_stands_under [] (t ∷ ts) us a b = absurd a
  each_stands_under (s ∷ ss) [] us a b = absurd a
  each_stands_under (s ∷ ss) (t ∷ ts) [] a b = absurd b
  each_stands_under (s ∷ ss) (t ∷ ts) (u ∷ us) a b = (stands_under a.0 b.0, each_stands_under ss ts us a.1 b.1)

  stands_itself : {s t : Stack} → StandsFor w s t → Under w s t
  stands_itself for_bad = under_bad
  stands_itself (stands a) = assigned a

  each_stands : (ss ts : List Stack) → Each (StandsFor w) ss ts → Each (Under w) ss ts
  each_stands [] [] a = tt
  each_stands [] (t ∷ ts) a = absurd a
  each_stands (s ∷ ss) [] a = absurd a
  each_stands (s ∷ ss) (t ∷ ts) a = (stands_itself a.0, each_stands ss ts a.1)

  each_at : (ss ts : List Stack) → Each (Under w) ss ts → (n : ℕ) → Under w (get_or ss n bad) (get_or ts n bad)
  each_at [] [] h n = under_bad
  each_at [] (t ∷ ts) h n = absurd h
  each_at (s ∷ ss) [] h n = absurd h
  each_at (s ∷ ss) (t ∷ ts) h zero = h.0
  each_at (s ∷ ss) (t ∷ ts) h (suc n) = each_at ss ts h.1 n

-- ---- demands that no rule says are unmet

either_wrong : (w : Hierarchy) (d : Demand) (s : Stack) → (HasWrongKind w d s → ⊥) → (FailsToAssign w d s → ⊥) → (Meets w d s → ⊥) → ⊥
either_wrong w (to t) s a b n = b (record { kind = a; fails = n })
either_wrong w nothing s a b n = n tt
either_wrong w any s a b n = a n
either_wrong w number s a b n = a n
either_wrong w integer s a b n = a n
either_wrong w index s a b n = a n
either_wrong w object s a b n = a n
either_wrong w condition s a b n = a n
either_wrong w comparable s a b n = a n
either_wrong w (exactly t) s a b n = a n
either_wrong w (one_of t u) s a b n = a n
either_wrong w object_pointer s a b n = a n
either_wrong w vector s a b n = a n
either_wrong w (vector_of t) s a b n = a n
either_wrong w object_vector s a b n = a n

abbrev AllMet : Hierarchy → List Demand → (ℕ → Stack) → Type 0
AllMet w ds s = (n : ℕ) (d : Demand) → slice_get ds n ≡ Some d → Meets w d (s n)

one_more : (w : Hierarchy) (e : Demand) (ds : List Demand) (s : ℕ → Stack) → Meets w e (s 0) → AllMet w ds (λ n. s (suc n)) → AllMet w (e ∷ ds) s
one_more w e ds s m all zero d at = let is : e ≡ d = cc in subst (λ (x : Demand). Meets w x (s 0)) is m
one_more w e ds s m all (suc n) d at = all n d at

all_met : (w : Hierarchy) (ds : List Demand) (s : ℕ → Stack) → ((n : ℕ) (d : Demand) → slice_get ds n ≡ Some d → (Meets w d (s n) → ⊥) → ⊥)
    → (AllMet w ds s → ⊥) → ⊥
all_met w [] s each k = k (λ n d at. absurd (let f : ⊥ = cc in f))
all_met w (e ∷ ds) s each k =
    each 0 e refl (λ m. all_met w ds (λ n. s (suc n)) (λ n d at. each (suc n) d at) (λ all. k (one_more w e ds s m all)))

-- ---- a path beside the typing

module _ (f : Frame) (height : SigType → ℕ) (g : IsGrounded f.types height) (trans : IsTransitive f.types) (mono : AreMonotone f) (formed : IsFormed f)
    (typing : Typing) (solves : IsSolution f typing) (right : BreaksNothing f typing) where
  breaks_none : (k : ℕ) → k < length f.code → (typing k ≡ unreached → ⊥) → (n rule : ℕ) → rule < n → Breaks f typing k rule → ⊥
  breaks_none k below reached zero rule h b = absurd (omega arith)
  breaks_none k below reached (suc n) rule h b =
      right k rule below (record { reached = reached; breaks = b; first = λ r less c. breaks_none k below reached n r (omega arith) c })

  no_break : (k : ℕ) (s : List Stack) → k < length f.code → typing k ≡ stack s → (rule : ℕ) → Breaks f typing k rule → ⊥
  no_break k s below is rule b = breaks_none k below (λ e. let x : ⊥ = cc in x) (suc rule) rule (omega arith) b

  no_clash : (k : ℕ) → k < length f.code → typing k ≡ clash → ⊥
  no_clash k below is = breaks_none k below (λ e. let x : ⊥ = cc in x) 3 2 (omega arith) (v2 is)

  -- the typing of an instruction that has at least a stack
  record HasStack (k : ℕ) (s : List Stack) : Type 0 where
    types : List Stack
    is : typing k ≡ stack types
    above : Each (Below f.types) s types

  stack_at : (k : ℕ) (s : List Stack) → k < length f.code → AtMost f.types (stack s) (typing k) → HasStack k s
  stack_at k s below h = go (typing k) refl h where
    go : (y : State) → typing k ≡ y → AtMost f.types (stack s) y → HasStack k s
    go unreached e a = elim a [ ]
    go (stack t) e (stacks a) = record { types = t; is = e; above = a }
    go clash e a = absurd (no_clash k below e)

  -- a point within the code, at which the values may stand for those of the typing
  record Beside (p : Point) : Type 0 where
    below : p.at < length f.code
    types : List Stack
    is : typing p.at ≡ stack types
    under : Each (Under f.types) p.stack types

  -- ---- demands

  no_unmet : (k : ℕ) (i : Ins) (s : List Stack) → k < length f.code → typing k ≡ stack s → slice_get f.code k ≡ Some i → (n : ℕ) (d : Demand)
      → slice_get (row_of f k i).operands n ≡ Some d → (Meets f.types d (get_or (taken (row_of f k i) s) n bad) → ⊥) → ⊥
  no_unmet k i s below is at n d here fails =
      either_wrong f.types d (get_or (taken (row_of f k i) s) n bad) (λ h. no_break k s below is 4 (v4 n at is here h)) (λ h. no_break k s below is 5 (v5 n at is here h)) fails

  not_stored : (k : ℕ) (i : Ins) (s : List Stack) → k < length f.code → typing k ≡ stack s → slice_get f.code k ≡ Some i → (row_of f k i).together ≡ stored
      → (o : Option SigType) → referent (first (taken (row_of f k i) s)) ≡ o → IsTrue (is_some o) → (second (taken (row_of f k i) s) ≡ bad → ⊥)
      → (StoredIn f.types (second (taken (row_of f k i) s)) o → ⊥) → ⊥
  not_stored k i s below is at e None p h b n = let x : ⊥ = cc in x
  not_stored k i s below is at e (Some t) p h b n =
      let ts = taken (row_of f k i) s in
      let fails : NotStored f.types (second ts) (referent (first ts)) = subst (λ (o : Option SigType). NotStored f.types (second ts) o) (sym p) (record { kind = b; fails = n }) in
      no_break k s below is 5 (v5_stored at is (subst (λ (x : Together). FailToStore f.types x ts) (sym e) fails))

  no_mismatch : (k : ℕ) (i : Ins) (s : List Stack) → k < length f.code → typing k ≡ stack s → slice_get f.code k ≡ Some i
      → AllMet f.types (row_of f k i).operands (λ n. get_or (taken (row_of f k i) s) n bad) → (MeetTogether f.types (row_of f k i).together (taken (row_of f k i) s) → ⊥) → ⊥
  no_mismatch k i s below is at met n = go (shape_of f k i) where
    go : Shape (row_of f k i) → ⊥
    go (none e) = n (subst (λ (x : Together). MeetTogether f.types x (taken (row_of f k i) s)) (sym e) tt)
    go (pair {p = p} e ds) =
        let ts = taken (row_of f k i) s in
        let left : Meets f.types comparable (first ts) = met 0 comparable (ap (λ (l : List Demand). slice_get l 0) ds) in
        let second_met : Meets f.types comparable (second ts) = met 1 comparable (ap (λ (l : List Demand). slice_get l 1) ds) in
        let apart_pair : IsTrue (go_together p (first ts) (second ts)) → ⊥ = λ h. n (subst (λ (x : Together). MeetTogether f.types x ts) (sym e) h) in
        no_break k s below is 7 (v7 at is (subst (λ (x : Together). AreMismatched f.types x ts) (sym e) (record { left = left; right = second_met; fails = apart_pair })))
    go (store e ds) =
        let ts = taken (row_of f k i) s in
        let left : Meets f.types object_pointer (first ts) = met 0 object_pointer (ap (λ (l : List Demand). slice_get l 0) ds) in
        let second_met : Meets f.types any (second ts) = met 1 any (ap (λ (l : List Demand). slice_get l 1) ds) in
        not_stored k i s below is at e (referent (first ts)) refl left second_met (λ h. n (subst (λ (x : Together). MeetTogether f.types x ts) (sym e) h))

  refines : Refines f.types (Under f.types)
  refines = under_refines f.types height g trans

  met_beside : (p : Point) (b : Beside p) (i : Ins) → slice_get f.code p.at ≡ Some i → (AreMet f (row_of f p.at i) (taken (row_of f p.at i) p.stack) → ⊥) → ⊥
  met_beside p b i at n =
      let r = row_of f p.at i in
      let e : Each (Under f.types) (taken r p.stack) (taken r b.types) =
      operands_lower f.types (Under f.types) refines (length r.operands) p.stack b.types b.under in
      let m = mono.values p.at i in
      all_met f.types r.operands (λ n. get_or (taken r b.types) n bad) (no_unmet p.at i b.types b.below b.is at) (λ met.
      no_mismatch p.at i b.types b.below b.is at met (λ both. n (record {
        each = λ n d here. m.demands n d (get_or (taken r p.stack) n bad) (get_or (taken r b.types) n bad) here
            (each_at f.types trans (taken r p.stack) (taken r b.types) e n) (met n d here);
        together = m.together (taken r p.stack) (taken r b.types) e both;
      })))

  not_wrong : (p : Point) → Beside p → IsWrong f p → ⊥
  not_wrong p b (past h) = omega (arith, b.below)
  not_wrong p b (too_few {i = i} at h) =
      let same_depth = each_length f.types (Under f.types) refines p.stack b.types b.under in
      no_break p.at b.types b.below b.is 1 (v1 at b.is (omega (arith, same_depth)))
  not_wrong p b (unmet {i = i} at h) = met_beside p b i at h
  not_wrong p b (returns_more {i = i} d h) =
      let same_depth = each_length f.types (Under f.types) refines p.stack b.types b.under in
      no_break p.at b.types b.below b.is 11 (v11_deep d b.is (omega (arith, same_depth)))
  not_wrong p b (filters_more {i = i} d h) =
      let same_depth = each_length f.types (Under f.types) refines p.stack b.types b.under in
      no_break p.at b.types b.below b.is 15 (v15_deep d b.is (omega (arith, same_depth)))
  not_wrong p b (by_reference d here is) = no_break p.at b.types b.below b.is 19 (v19 d here is)

  -- ---- steps

  edge_within : (k t : ℕ) (c : Carries) (s : List Stack) → k < length f.code → typing k ≡ stack s → Edge f k t c → t < length f.code
  edge_within k t c s below is (fall d h e) = elim (cases_lt (k + 1) (length f.code)) [
    | inl less ↦ omega (arith, e)
    | inr far ↦ absurd (no_break k s below is 6 (v6 d h (omega arith)))
  ]
  edge_within k t x s below is (branch {i = i} d h c) = target_within f formed k i t d.is c
  edge_within k t c s below is (leave l out) = target_within f formed k l.ins t l.is.is l.to
  edge_within k t c s below is (leave_finally {place = place} {c = d} x e) = omega (arith, e, (clause_at f formed place d x.crosses.is).handler)
  edge_within k t c s below is (next_finally {place = place} {d = d} x y z e) = omega (arith, e, (clause_at f formed place d z.crosses.is).handler)
  edge_within k t c s below is (finally_left {l = l} x y out) = target_within f formed l y.leaves.ins t y.leaves.is.is y.leaves.to
  edge_within k t c s below is (catches {c = d} x e) = omega (arith, e, (clause_in f formed d x.is).handler)
  edge_within k t c s below is (filters {at = at} {c = d} x e) = omega (arith, e, (clause_in f formed d x.is).filter at x.handles)
  edge_within k t c s below is (filtered {c = d} x e) = omega (arith, e, (clause_in f formed d x.is).handler)
  edge_within k t c s below is (finally {c = d} x e) = omega (arith, e, (clause_in f formed d x.is).handler)
  edge_within k t c s below is (fault {c = d} x e) = omega (arith, e, (clause_in f formed d x.is).handler)

  -- the values along an edge may stand for what the typing has there
  left_under : (r : Row) (before types values : List Stack) → Each (Under f.types) before types → Each (Under f.types) values (results r types) → (b : Bool)
      → Each (Under f.types) (if b then [] else below_operands (length r.operands) before ++ values) (if b then [] else below_operands (length r.operands) types ++ results r types)
  left_under r before types values h v true = tt
  left_under r before types values h v false =
      each_append f.types (Under f.types) refines (below_operands (length r.operands) before) (below_operands (length r.operands) types) values (results r types)
      (below_lower f.types (Under f.types) refines (length r.operands) before types h) v

  carried_under : (p : Point) (b : Beside p) (i : Ins) → slice_get f.code p.at ≡ Some i → (c : Carries) (after : List Stack) → Becomes f i p c after
      → (x : List Stack) × (carried f p.at c (stack b.types) ≡ stack x) × Each (Under f.types) after x
  carried_under p b i at flowing after m =
      let r = row_of f p.at i in
      let mono_results = (mono.values p.at i).results p.stack b.types b.under in
      let values = each_stands_under f.types trans m.values (results r p.stack) (results r b.types) m.stand mono_results in (
        effect r b.types,
        ap (λ (o : Option Ins). stack (stack_after f p.at o b.types)) at,
        subst (λ (l : List Stack). Each (Under f.types) l (effect r b.types)) (sym m.is) (left_under r p.stack b.types m.values b.under values r.empties),
      )
  carried_under p b i at (stated s) after m = (s, refl, each_stands f.types trans after s m)

  next_beside : (p q : Point) → Beside p → Steps f p q → Beside q
  next_beside p q b s =
      let below = edge_within p.at q.at s.carries b.types b.below b.is s.edge in
      let c = carried_under p b s.ins s.is s.carries q.stack s.becomes in
      let along : AtMost f.types (carried f p.at s.carries (typing p.at)) (typing q.at) = solves.along p.at q.at s.carries b.below below s.edge in
      let comes : carried f p.at s.carries (typing p.at) ≡ stack c.0 = ap (carried f p.at s.carries) b.is ∙ c.1 in
      let high : AtMost f.types (stack c.0) (typing q.at) = subst (λ (x : State). AtMost f.types x (typing q.at)) comes along in
      let t = stack_at q.at c.0 below high in
      record { below = below; types = t.types; is = t.is; under = each_under_below f.types trans q.stack c.0 t.types c.2 t.above }

  at_start : Beside (record { at = 0; stack = [] })
  at_start =
      let t = stack_at 0 [] formed.some solves.start in
      record { below = formed.some; types = t.types; is = t.is; under = each_under_below f.types trans [] [] t.types tt t.above }

  beside : (p : Point) → Reaches f p → Beside p
  beside p start = at_start
  beside p (step {p = o} {q = q} r s) = next_beside o q (beside o r) s

  pub never_wrong : NeverWrong f
  never_wrong p r h = not_wrong p (beside p r) h
