-- Where nothing is broken: stacks are no deeper than the body's bound, and what an instruction leaves never comes to one to
-- which an edge of it states a stack.
use Rattle.std.proofs.Common.{◌≡◌, ◌⊎◌, inl, inr, refl, sym, ◌∙◌, ap, subst, ℕ, zero, suc, ◌+◌, ◌<◌, ◌≤◌, arith, Bool, true, false, List, [], ◌∷◌, length, get_or, Option, None, Some}
use Rattle.std.specs.Prelude.{slice_get, IsTrue}
use Rattle.std.specs.List.{Contains, list_all}
use Rattle.std.proofs.lemmas.Bool.{cases_lt}
use Rattle.assembly_tree.specs.declared.body.Clause.{Clause}
use Rattle.assembly_tree.specs.declared.body.ClauseKind.{ClauseKind}
use Rattle.assembly_tree.specs.declared.body.ClauseKind.TheVariants.{Catch, Filter, Finally, Fault}
use Rattle.assembly_tree.specs.declared.body.Ins.{Ins}
use Rattle.assembly_tree.specs.WellFormedBodies.{is_forward}
use Rattle.type_hierarchy.specs.Hierarchy.{Hierarchy}
use Rattle.type_hierarchy.specs.Relations.{Below}
use Rattle.type_hierarchy.specs.Stack.{Stack}
use Rattle.code_flow.specs.declared.operation.Operation.{Operation}
use Rattle.code_flow.specs.declared.operation.Operation.TheVariants as does
use Rattle.code_flow.specs.Blocks.{Block, try_block, handler_block, handling_blocks, filter_blocks, blocks_of, blocks, Holds, IsLevel, ClausesNest}
use Rattle.code_flow.specs.Edges.{Does, falls, branches, targets, Guards, Carries, flowing, stated, Edge, fall, branch, leave, leave_finally, next_finally, finally_left, catches, filters, filtered, finally, fault}
use Rattle.code_flow.specs.Frames.{Frame}
use Rattle.code_flow.specs.Laws.{BreaksNothing, IsFormed}
use Rattle.code_flow.specs.Operations.{operation}
use Rattle.body_verifier.specs.Potential.{IsLow}
use Rattle.code_flow.specs.Rules.{Breaks, BreaksFirst, v2, v3_before, v12, v13}
use Rattle.code_flow.specs.Stacks.{Each}
use Rattle.code_flow.specs.Typings.{State, unreached, stack, clash, Typing, AtMost, below_all, above_all, stacks, IsSolution, IsLeast}
use Rattle.body_verifier.specs.Ways.{IsUnderAll, IsDepth, FlowsApart}
use Rattle.code_flow.proofs.Members.{here, there, in_flat}
use Rattle.code_flow.proofs.Nesting.{filled}
use Rattle.stack_states.proofs.StackLemmas.{each_depth}

module _ (f : Frame) (typing : Typing) (solves : IsSolution f typing) (right : BreaksNothing f typing) where
  breaks_none : (k : ℕ) → k < length f.code → (typing k ≡ unreached → ⊥) → (n rule : ℕ) → rule < n → Breaks f typing k rule → ⊥
  breaks_none k below reached zero rule h b = absurd (omega arith)
  breaks_none k below reached (suc n) rule h b =
      right k rule below (record { reached = reached; breaks = b; first = λ r less c. breaks_none k below reached n r (omega arith) c })

  -- ---- depths

  low_by : (k : ℕ) → k < length f.code → (s : List Stack) (y : State) → typing k ≡ y → AtMost f.types (stack s) y → length s ≤ f.bound
  low_by k below s unreached e a = elim a [ ]
  low_by k below s clash e a = absurd (breaks_none k below (λ u. let x : ⊥ = cc in x) 3 2 (omega arith) (v2 e))
  low_by k below s (stack t) e (stacks a) =
      let same = each_depth (Below f.types) s t a in
      elim (cases_lt f.bound (length t)) [
        | inl deep ↦ absurd (breaks_none k below (λ u. let x : ⊥ = cc in x) 4 3 (omega arith) (v3_before e deep))
        | inr le ↦ (omega arith)
      ]

  pub deep_enough : IsDepth f f.bound
  deep_enough other under k below s e =
      let P : State → Type 0 = λ (x : State). AtMost f.types x (typing k) in
      low_by k below s (typing k) refl (subst P e (under typing solves k below))

  -- what is reached below the typing is reached in it
  reached_too : (other : Typing) (k : ℕ) → IsUnderAll f other → k < length f.code → (other k ≡ unreached → ⊥) → typing k ≡ unreached → ⊥
  reached_too other k under below reached none =
      let P : State → Type 0 = λ (y : State). AtMost f.types (other k) y in
      reached (by (other k) (subst P none (under typing solves k below))) where
        by : (x : State) → AtMost f.types x unreached → x ≡ unreached
        by unreached a = refl
        by (stack s) a = elim a [ ]
        by clash a = elim a [ ]

  -- ---- edges

  module _ (formed : IsFormed f) (nest : ClausesNest f.clauses) (forward : list_all is_forward f.clauses ≡ true) where
    one_operation : (k : ℕ) (o p : Operation) (i j : Ins) → Does f k o i → Does f k p j → o ≡ p
    one_operation k o p i j d e =
        let same : Some i ≡ Some j = sym d.is ∙ e.is in
        let ins : i ≡ j = cc in
        sym d.does ∙ ap (λ (x : Ins). operation x.op) ins ∙ e.does

    -- control goes on from the instruction, or to a target
    data GoesOn (k t : ℕ) : Type 0 where
      on : {i : Ins} {o : Operation} → Does f k o i → IsTrue (falls o) → t ≡ k + 1 → GoesOn k t
      off : {i : Ins} {o : Operation} → Does f k o i → IsTrue (branches o) → Contains (targets i.operand) t → GoesOn k t

    goes_by : (k t : ℕ) (c : Carries) → c ≡ flowing → Edge f k t c → GoesOn k t
    goes_by k t c e (fall d h is) = on d h is
    goes_by k t c e (branch d h to) = off d h to
    goes_by k t c e (leave l none) = absurd (let x : ⊥ = cc in x)
    goes_by k t c e (leave_finally l is) = absurd (let x : ⊥ = cc in x)
    goes_by k t c e (next_finally a b d is) = absurd (let x : ⊥ = cc in x)
    goes_by k t c e (finally_left a b none) = absurd (let x : ⊥ = cc in x)
    goes_by k t c e (catches g is) = absurd (let x : ⊥ = cc in x)
    goes_by k t c e (filters g is) = absurd (let x : ⊥ = cc in x)
    goes_by k t c e (filtered g is) = absurd (let x : ⊥ = cc in x)
    goes_by k t c e (finally g is) = absurd (let x : ⊥ = cc in x)
    goes_by k t c e (fault g is) = absurd (let x : ⊥ = cc in x)

    -- neither a `leave` nor an `endfinally` does
    stays_by : (k t : ℕ) (o : Operation) (i : Ins) → Does f k o i → falls o ≡ false → branches o ≡ false → GoesOn k t → ⊥
    stays_by k t o i d ends halts (on {i = j} {o = p} e h is) = let same = one_operation k o p i j d e in let g : falls o ≡ true = ap falls same ∙ h in cc
    stays_by k t o i d ends halts (off {i = j} {o = p} e h to) = let same = one_operation k o p i j d e in let g : branches o ≡ true = ap branches same ∙ h in cc

    -- a step that isn't level breaks a rule
    not_level : (k t : ℕ) → k < length f.code → t < length f.code → (typing k ≡ unreached → ⊥) → (IsLevel f.clauses k t → ⊥) → GoesOn k t → ⊥
    not_level k t below into reached across (on d h is) =
        let P : ℕ → Type 0 = λ (n : ℕ). IsLevel f.clauses k n → ⊥ in
        breaks_none k below reached 14 13 (omega arith) (v13 d h (omega arith) (subst P is across))
    not_level k t below into reached across (off d h to) = breaks_none k below reached 13 12 (omega arith) (v12 d h to across)

    -- a step into a handler or a filter from its try isn't
    from_try : (k t : ℕ) (c : Clause) (b : Block) → Contains f.clauses c → Contains (handling_blocks c) b → b.start ≡ t → Holds (try_block c) k → IsLevel f.clauses k t → ⊥
    from_try k t c b is part starts held level =
        let fw = Rattle.code_flow.proofs.Members.from_every (λ x. is_forward x ≡ true) f.clauses (Rattle.code_flow.proofs.Members.all_to is_forward f.clauses forward) c is in
        let some = filled c fw b (there (try_block c) (handling_blocks c) b part) in
        let guard : Contains (blocks f.clauses) (try_block c) = in_flat blocks_of f.clauses c (try_block c) is (here (try_block c) (handling_blocks c)) in
        let there_too : Holds (try_block c) t = level.stays (try_block c) guard held in
        nest.each c is (try_block c) b (here (try_block c) []) part t there_too (record { from = omega arith; to = omega arith })

    filter_part : (c : Clause) (at : ℕ) → c.kind ≡ Filter at → (b : Block) × Contains (handling_blocks c) b × (b.start ≡ at)
    filter_part c at e =
        let F : ClauseKind → Type 0 = λ (x : ClauseKind). (b : Block) × Contains (filter_blocks c.handler_start x) b × (b.start ≡ at) in
        let r = subst F (sym e) (record { kind = Rattle.code_flow.specs.Blocks.filter; start = at; end = c.handler_start }, here _ [], refl) in
        (r.0, there (handler_block c) (filter_blocks c.handler_start c.kind) r.0 r.1, r.2)

    guarded_by : (k t : ℕ) (kind : ClauseKind) (c : Clause) → k < length f.code → t < length f.code → (typing k ≡ unreached → ⊥) → Guards f k kind c → t ≡ c.handler_start → GoesOn k t → ⊥
    guarded_by k t kind c below into reached g is goes =
        not_level k t below into reached (from_try k t c (handler_block c) g.is (here (handler_block c) (filter_blocks c.handler_start c.kind)) (sym is) g.holds) goes

    stated_by : (k t : ℕ) (c : Carries) (xs : List Stack) → c ≡ stated xs → k < length f.code → t < length f.code → (typing k ≡ unreached → ⊥) → Edge f k t c → GoesOn k t → ⊥
    stated_by k t c xs e below into reached (fall d h is) goes = let x : ⊥ = cc in x
    stated_by k t c xs e below into reached (branch d h to) goes = let x : ⊥ = cc in x
    stated_by k t c xs e below into reached (leave l none) goes = stays_by k t does.Leave l.ins l.is refl refl goes
    stated_by k t c xs e below into reached (leave_finally l is) goes = stays_by k t does.Leave l.crosses.leaves.ins l.crosses.leaves.is refl refl goes
    stated_by k t c xs e below into reached (next_finally a b d is) goes = stays_by k t does.EndFinally a.ins a.does refl refl goes
    stated_by k t c xs e below into reached (finally_left a b none) goes = stays_by k t does.EndFinally a.ins a.does refl refl goes
    stated_by k t c xs e below into reached (catches {o = o} {c = d} g is) goes = guarded_by k t (Catch o) d below into reached g is goes
    stated_by k t c xs e below into reached (filters {at = at} {c = d} g is) goes =
        let p = filter_part d at g.handles in
        not_level k t below into reached (from_try k t d p.0 g.is p.1 (p.2 ∙ sym is) g.holds) goes
    stated_by k t c xs e below into reached (filtered {at = at} {c = d} g is) goes = guarded_by k t (Filter at) d below into reached g is goes
    stated_by k t c xs e below into reached (finally {c = d} g is) goes = guarded_by k t Finally d below into reached g is goes
    stated_by k t c xs e below into reached (fault {c = d} g is) goes = guarded_by k t Fault d below into reached g is goes

    pub flows_apart : FlowsApart f
    flows_apart other k t xs below into under reached flow state =
        stated_by k t (stated xs) xs refl below into (reached_too other k under below reached) state (goes_by k t flowing refl flow)
