-- The tests of an instruction tell whether it breaks the rules that ask no stack.
use Rattle.std.proofs.Common.{◌≡◌, inl, inr, ℕ, ◌+◌, ◌<◌, Bool, true, false, not, ◌&&◌, ◌||◌, List, [], ◌∷◌, map, length, refl, sym, ◌∙◌, ap, subst, Some, arith}
use Rattle.std.specs.Prelude.{◌↔◌, IsTrue, nat_eq, slice_get, slice_index_or}
use Rattle.std.specs.List.{Contains, flat_map}
use Rattle.std.proofs.lemmas.Bool.{and_parts, and_from, or_cases, or_left, or_right, eqb-true, eq-eqb, cases_lt, both_ways, not-true, not_from_false, false_from_ne_true, true_from_ne_false}
use Rattle.std.proofs.lemmas.List.{get_or_past}
use Rattle.assembly_tree.specs.declared.body.Clause.{Clause}
use Rattle.assembly_tree.specs.declared.body.ClauseKind.{ClauseKind}
use Rattle.assembly_tree.specs.declared.body.ClauseKind.TheVariants.{Catch, Filter, Finally, Fault}
use Rattle.assembly_tree.specs.declared.body.Ins.{Ins}
use Rattle.code_flow.specs.declared.blocks.Span.{Span}
use Rattle.code_flow.specs.declared.blocks.Spans.{Spans}
use Rattle.code_flow.specs.declared.operation.Operation.{Operation}
use Rattle.code_flow.specs.declared.operation.Operation.TheVariants as does
use Rattle.code_flow.specs.Operations.{operation}
use Rattle.code_flow.specs.Frames.{Frame}
use Rattle.code_flow.specs.Blocks.{filter, Block, try_block, handler_block, handling_blocks, filter_blocks, blocks_of, blocks, Holds, IsLevel}
use Rattle.code_flow.specs.BlockTests.{spans_of, filter_span, filter_any, is_held, is_level_test}
use Rattle.code_flow.specs.PlaceTests.{may_leave_test, may_rethrow_test, may_end_finally_test, may_end_filter_test}
use Rattle.code_flow.specs.Edges.{Does, falls, branches, targets}
use Rattle.code_flow.specs.Marks.{HaveMarks, boundary}
use Rattle.code_flow.specs.Prefixes.{IsBoundary, boundaries, filter_start}
use Rattle.code_flow.specs.Rules.{calls, states_this, MayLeave, MayRethrow, MayEndFinally, MayEndFilter}
use Rattle.code_flow.specs.CodeRules.{RunsOff, ReturnsInside, BranchesAcross, FallsAcross, IsMisplaced, leaves, rethrows, ends_finally, ends_filter, IsUnverified, unlisted, explicit}
use Rattle.code_flow.specs.CodeTests.{runs_off_by, has_inside, is_inside, is_return, returns_inside_by, goes_across, any_across, branches_across_by, falls_across_by, leaves_badly, misplaced_by, is_unlisted, unverified_by}
use Rattle.code_flow.proofs.Members.{here, there, either, none, of_flat, in_flat, any_to, any_from, any_map}
use Rattle.code_flow.proofs.Levels.{held, held_from, level_exact}
use Rattle.code_flow.proofs.Placing.{leave_exact}
use Rattle.code_flow.proofs.Innermost.{end_finally_exact, end_filter_exact, rethrow_exact}

-- ---- instructions

same_ins : (f : Frame) (k : ℕ) (i j : Ins) (o : Operation) → slice_get f.code k ≡ Some i → Does f k o j → i ≡ j
same_ins f k i j o is d =
    let w : Some i ≡ Some j = sym is ∙ d.is in
    let same : i ≡ j = cc in same

what : (f : Frame) (k : ℕ) (i j : Ins) (o : Operation) → slice_get f.code k ≡ Some i → Does f k o j → operation i.op ≡ o
what f k i j o is d = ap (λ (z : Ins). operation z.op) (same_ins f k i j o is d) ∙ d.does

pub return_op : (o : Operation) → is_return o ≡ true → o ≡ does.Return
return_op does.Return e = refl
return_op o e = absurd (let z : ⊥ = cc in z)

unlisted_op : (o : Operation) → is_unlisted o ≡ true → o ≡ does.Unlisted
unlisted_op does.Unlisted e = refl
unlisted_op o e = absurd (let z : ⊥ = cc in z)

-- what isn't, by a test that tells whether it is
not_so : (b : Bool) (P : Type 0) → (P → b ≡ true) → not b ≡ true → P → ⊥
not_so b P from n p = both_ways b (not-true b n) (from p)

so_not : (b : Bool) (P : Type 0) → (b ≡ true → P) → (P → ⊥) → not b ≡ true
so_not b P to n = not_from_false b (false_from_ne_true b (λ e. n (to e)))

-- ---- the end of the code

pub runs_off_exact : (f : Frame) (k : ℕ) (i : Ins) (count : ℕ) → slice_get f.code k ≡ Some i → length f.code ≡ count → IsTrue (runs_off_by count k (operation i.op)) ↔ RunsOff f k
runs_off_exact f k i count is len = (
  λ h.
      let p = and_parts (falls (operation i.op)) (nat_eq (k + 1) count) h in
      let last = eqb-true (k + 1) count p.1 in
      record { ins = i; operation = operation i.op; does = record { is = is; does = refl }; falls = p.0; last = omega (arith, last) },
  λ r.
      and_from (falls (operation i.op)) (nat_eq (k + 1) count) (ap falls (what f k i r.ins r.operation is r.does) ∙ r.falls)
      (eq-eqb (k + 1) count (omega (arith, r.last))),
)

-- ---- in a block

filter_held : (k start : ℕ) (x : ClauseKind) → filter_any (λ (s : Span). is_held s k) (filter_span start x) ≡ true → (b : Block) × Contains (filter_blocks start x) b × Holds b k
filter_held k start (Filter at) h = let b : Block = record { kind = filter; start = at; end = start } in (b, here b [], held b k h)
filter_held k start (Catch o) h = absurd (let z : ⊥ = cc in z)
filter_held k start Finally h = absurd (let z : ⊥ = cc in z)
filter_held k start Fault h = absurd (let z : ⊥ = cc in z)

held_filter : (k start : ℕ) (x : ClauseKind) (b : Block) → Contains (filter_blocks start x) b → Holds b k → filter_any (λ (s : Span). is_held s k) (filter_span start x) ≡ true
held_filter k start (Filter at) b is h = elim (either (record { kind = filter; start = at; end = start }) [] b is) [
  | inl e ↦ let c : Block = record { kind = filter; start = at; end = start } in held_from c k (subst (λ (z : Block). Holds z k) (sym e) h)
  | inr more ↦ absurd (none b more)
]
held_filter k start (Catch o) b is h = absurd (none b is)
held_filter k start Finally b is h = absurd (none b is)
held_filter k start Fault b is h = absurd (none b is)

inside_clause : (k : ℕ) (c : Clause) → has_inside k (spans_of c) ≡ true → (b : Block) × Contains (blocks_of c) b × Holds b k
inside_clause k c h =
    let s = spans_of c in
    elim (or_cases (is_held s.guarded k) (is_held s.handler k || filter_any (λ (s : Span). is_held s k) s.filter) h) [
      | inl e ↦ (try_block c, here (try_block c) (handling_blocks c), held (try_block c) k e)
      | inr more ↦ elim (or_cases (is_held s.handler k) (filter_any (λ (s : Span). is_held s k) s.filter) more) [
        | inl e ↦ (handler_block c, there (try_block c) (handling_blocks c) (handler_block c) (here (handler_block c) (filter_blocks c.handler_start c.kind)), held (handler_block c) k e)
        | inr e ↦
            let r = filter_held k c.handler_start c.kind e in
            (r.0, there (try_block c) (handling_blocks c) r.0 (there (handler_block c) (filter_blocks c.handler_start c.kind) r.0 r.1), r.2)
      ]
    ]

clause_inside : (k : ℕ) (c : Clause) (b : Block) → Contains (blocks_of c) b → Holds b k → has_inside k (spans_of c) ≡ true
clause_inside k c b is h =
    let s = spans_of c in
    elim (either (try_block c) (handling_blocks c) b is) [
      | inl e ↦
          or_left (is_held s.guarded k) (is_held s.handler k || filter_any (λ (s : Span). is_held s k) s.filter) (held_from (try_block c) k (subst (λ (z : Block). Holds z k) (sym e) h))
      | inr more ↦
          or_right (is_held s.guarded k) (is_held s.handler k || filter_any (λ (s : Span). is_held s k) s.filter)
          (elim (either (handler_block c) (filter_blocks c.handler_start c.kind) b more) [
            | inl e ↦ or_left (is_held s.handler k) (filter_any (λ (s : Span). is_held s k) s.filter) (held_from (handler_block c) k (subst (λ (z : Block). Holds z k) (sym e) h))
            | inr g ↦ or_right (is_held s.handler k) (filter_any (λ (s : Span). is_held s k) s.filter) (held_filter k c.handler_start c.kind b g h)
          ])
    ]

inside_to : (k : ℕ) (cs : List Clause) → is_inside (map spans_of cs) k ≡ true → (b : Block) × Contains (blocks cs) b × Holds b k
inside_to k cs h =
    let m = any_to (λ (c : Clause). has_inside k (spans_of c)) cs (sym (any_map (has_inside k) spans_of cs) ∙ h) in
    let r = inside_clause k m.0 m.2 in
    (r.0, in_flat blocks_of cs m.0 r.0 m.1 r.1, r.2)

to_inside : (k : ℕ) (cs : List Clause) (b : Block) → Contains (blocks cs) b → Holds b k → is_inside (map spans_of cs) k ≡ true
to_inside k cs b is h =
    let m = of_flat blocks_of cs b is in
    any_map (has_inside k) spans_of cs ∙ any_from (λ (c : Clause). has_inside k (spans_of c)) cs m.0 m.1 (clause_inside k m.0 b m.2 h)

pub returns_exact : (f : Frame) (k : ℕ) (i : Ins) (spans : List Spans) → slice_get f.code k ≡ Some i → spans ≡ map spans_of f.clauses
    → IsTrue (returns_inside_by spans k (operation i.op)) ↔ ReturnsInside f k
returns_exact f k i spans is e = (
  λ h.
      let p = and_parts (is_return (operation i.op)) (is_inside spans k) h in
      let r = inside_to k f.clauses (ap (λ (z : List Spans). is_inside z k) (sym e) ∙ p.1) in
      record { ins = i; block = r.0; does = record { is = is; does = return_op (operation i.op) p.0 }; is = r.1; holds = r.2 },
  λ r.
      and_from (is_return (operation i.op)) (is_inside spans k) (ap is_return (what f k i r.ins does.Return is r.does))
      (ap (λ (z : List Spans). is_inside z k) e ∙ to_inside k f.clauses r.block r.is r.holds),
)

-- ---- steps that aren't level

across_to : (f : Frame) (spans : List Spans) (k t : ℕ) → spans ≡ map spans_of f.clauses → goes_across spans k t ≡ true → IsLevel f.clauses k t → ⊥
across_to f spans k t e h = not_so (is_level_test spans k t) (IsLevel f.clauses k t) (level_exact f.clauses spans k t e).1 h

to_across : (f : Frame) (spans : List Spans) (k t : ℕ) → spans ≡ map spans_of f.clauses → (IsLevel f.clauses k t → ⊥) → goes_across spans k t ≡ true
to_across f spans k t e n = so_not (is_level_test spans k t) (IsLevel f.clauses k t) (level_exact f.clauses spans k t e).0 n

pub branches_exact : (f : Frame) (k : ℕ) (i : Ins) (spans : List Spans) → slice_get f.code k ≡ Some i → spans ≡ map spans_of f.clauses
    → IsTrue (branches_across_by spans k i) ↔ BranchesAcross f k
branches_exact f k i spans is e = (
  λ h.
      let p = and_parts (branches (operation i.op)) (any_across spans k (targets i.operand)) h in
      let m = any_to (goes_across spans k) (targets i.operand) p.1 in
      record { ins = i; operation = operation i.op; target = m.0; does = record { is = is; does = refl }; branches = p.0; to = m.1; across = across_to f spans k m.0 e m.2 },
  λ r.
      let same = same_ins f k i r.ins r.operation is r.does in
      and_from (branches (operation i.op)) (any_across spans k (targets i.operand)) (ap branches (what f k i r.ins r.operation is r.does) ∙ r.branches)
      (any_from (goes_across spans k) (targets i.operand) r.target (subst (λ (z : Ins). Contains (targets z.operand) r.target) (sym same) r.to) (to_across f spans k r.target e r.across)),
)

-- ---- steps to the next instruction

second : (a b : ℕ) (xs : List ℕ) → Contains (a ∷ b ∷ xs) b
second a b xs = there a (b ∷ xs) b (here b xs)

past_two : (a b x : ℕ) (xs : List ℕ) → Contains xs x → Contains (a ∷ b ∷ xs) x
past_two a b x xs h = there a (b ∷ xs) x (there b xs x h)

filter_bounds : (start : ℕ) (x : ClauseKind) (b : Block) → Contains (filter_blocks start x) b → Contains (filter_start x) b.start × (b.end ≡ start)
filter_bounds start (Filter at) b h = elim (either (record { kind = filter; start = at; end = start }) [] b h) [
  | inl e ↦ (subst (λ (z : Block). Contains (at ∷ []) z.start) e (here at []), ap (λ (z : Block). z.end) (sym e))
  | inr more ↦ absurd (none b more)
]
filter_bounds start (Catch o) b h = absurd (none b h)
filter_bounds start Finally b h = absurd (none b h)
filter_bounds start Fault b h = absurd (none b h)

-- a block starts and ends at boundaries of its clause
block_bounds : (c : Clause) (b : Block) → Contains (blocks_of c) b → Contains (boundaries c) b.start × Contains (boundaries c) b.end
block_bounds c b h =
    let P : Block → Type 0 = λ (z : Block). Contains (boundaries c) z.start × Contains (boundaries c) z.end in
    let rest : List ℕ = c.handler_start ∷ c.handler_end ∷ filter_start c.kind in
    let starts : Contains (boundaries c) c.handler_start = past_two c.try_start c.try_end c.handler_start rest (here c.handler_start (c.handler_end ∷ filter_start c.kind)) in
    elim (either (try_block c) (handling_blocks c) b h) [
      | inl e ↦ subst P e (here c.try_start (c.try_end ∷ rest), second c.try_start c.try_end rest)
      | inr more ↦ elim (either (handler_block c) (filter_blocks c.handler_start c.kind) b more) [
        | inl e ↦ subst P e (starts, past_two c.try_start c.try_end c.handler_end rest (second c.handler_start c.handler_end (filter_start c.kind)))
        | inr g ↦
            let r = filter_bounds c.handler_start c.kind b g in (
              past_two c.try_start c.try_end b.start rest (past_two c.handler_start c.handler_end b.start (filter_start c.kind) r.0),
              subst (λ (z : ℕ). Contains (boundaries c) z) (sym r.1) starts,
            )
      ]
    ]

-- the step to an instruction at which no block starts or ends is level
level_unmarked : (f : Frame) (k : ℕ) → (IsBoundary f (k + 1) → ⊥) → IsLevel f.clauses k (k + 1)
level_unmarked f k off =
    let start_off : (b : Block) → Contains (blocks f.clauses) b → b.start ≡ k + 1 → ⊥ = λ b is q.
    let m = of_flat blocks_of f.clauses b is in
    off (subst (λ (z : ℕ). Contains (flat_map boundaries f.clauses) z) q (in_flat boundaries f.clauses m.0 b.start m.1 (block_bounds m.0 b m.2).0)) in
    let end_off : (b : Block) → Contains (blocks f.clauses) b → b.end ≡ k + 1 → ⊥ = λ b is q.
    let m = of_flat blocks_of f.clauses b is in
    off (subst (λ (z : ℕ). Contains (flat_map boundaries f.clauses) z) q (in_flat boundaries f.clauses m.0 b.end m.1 (block_bounds m.0 b m.2).1)) in
    record {
      stays = λ b is h. let ne = end_off b is in record { from = omega (arith, h.from); to = omega (arith, h.to, ne) };
      enters = λ b is h out. let ne = start_off b is in absurd (out (record { from = omega (arith, h.from, ne); to = omega (arith, h.to) }));
    }

marked_within : (f : Frame) (marks : List Bool) → HaveMarks f marks → (t : ℕ) → slice_index_or marks t false ≡ true → t < length f.code
marked_within f marks have t h = elim (cases_lt t (length f.code)) [
  | inl less ↦ less
  | inr more ↦ absurd (both_ways (slice_index_or marks t false) (get_or_past marks t false (omega (arith, more, have.count))) h)
]

pub falls_exact : (f : Frame) (k : ℕ) (i : Ins) (marks : List Bool) (spans : List Spans) → slice_get f.code k ≡ Some i → HaveMarks f marks → spans ≡ map spans_of f.clauses
    → IsTrue (falls_across_by spans marks k (operation i.op)) ↔ FallsAcross f k
falls_exact f k i marks spans is have e = (
  λ h.
      let p = and_parts (falls (operation i.op) && slice_index_or marks (k + 1) false) (goes_across spans k (k + 1)) h in
      let q = and_parts (falls (operation i.op)) (slice_index_or marks (k + 1) false) p.0 in
      record { ins = i; operation = operation i.op; does = record { is = is; does = refl }; falls = q.0; next = marked_within f marks have (k + 1) q.1; across = across_to f spans k (k + 1) e p.1 },
  λ r.
      let there_is : slice_index_or marks (k + 1) false ≡ true =
      true_from_ne_false (slice_index_or marks (k + 1) false)
      (λ off. r.across (level_unmarked f k (λ b. both_ways (slice_index_or marks (k + 1) false) off ((have.are (k + 1) r.next).1 (boundary b))))) in
      and_from (falls (operation i.op) && slice_index_or marks (k + 1) false) (goes_across spans k (k + 1))
      (and_from (falls (operation i.op)) (slice_index_or marks (k + 1) false) (ap falls (what f k i r.ins r.operation is r.does) ∙ r.falls) there_is)
      (to_across f spans k (k + 1) e r.across),
)

-- ---- out of its place

misplaced_to : (f : Frame) (k : ℕ) (i : Ins) (spans : List Spans) → slice_get f.code k ≡ Some i → spans ≡ map spans_of f.clauses
    → (o : Operation) → operation i.op ≡ o → misplaced_by spans k (targets i.operand) o ≡ true → IsMisplaced f k
misplaced_to f k i spans is e does.Leave d h =
    let m = any_to (leaves_badly spans k) (targets i.operand) h in
    leaves (record { ins = i; is = record { is = is; does = d }; to = m.1 }) (not_so (may_leave_test spans k m.0) (MayLeave f k m.0) (leave_exact f spans k m.0 e).1 m.2)
misplaced_to f k i spans is e does.Rethrow d h =
    rethrows (record { is = is; does = d }) (not_so (may_rethrow_test spans k) (MayRethrow f k) (rethrow_exact f spans k e).1 h)
misplaced_to f k i spans is e does.EndFinally d h =
    ends_finally (record { is = is; does = d }) (not_so (may_end_finally_test spans k) (MayEndFinally f k) (end_finally_exact f spans k e).1 h)
misplaced_to f k i spans is e does.EndFilter d h =
    ends_filter (record { is = is; does = d }) (not_so (may_end_filter_test spans k) (MayEndFilter f k) (end_filter_exact f spans k e).1 h)
misplaced_to f k i spans is e o d h = absurd (let z : ⊥ = cc in z)

to_misplaced : (f : Frame) (k : ℕ) (i : Ins) (spans : List Spans) → slice_get f.code k ≡ Some i → spans ≡ map spans_of f.clauses
    → IsMisplaced f k → misplaced_by spans k (targets i.operand) (operation i.op) ≡ true
to_misplaced f k i spans is e (leaves {t = t} lv n) =
    let same = same_ins f k i lv.ins does.Leave is lv.is in
    let o = what f k i lv.ins does.Leave is lv.is in
    subst (λ (z : Operation). misplaced_by spans k (targets i.operand) z ≡ true) (sym o)
    (any_from (leaves_badly spans k) (targets i.operand) t (subst (λ (z : Ins). Contains (targets z.operand) t) (sym same) lv.to)
    (so_not (may_leave_test spans k t) (MayLeave f k t) (leave_exact f spans k t e).0 n))
to_misplaced f k i spans is e (rethrows {i = j} d n) =
    subst (λ (z : Operation). misplaced_by spans k (targets i.operand) z ≡ true) (sym (what f k i j does.Rethrow is d))
    (so_not (may_rethrow_test spans k) (MayRethrow f k) (rethrow_exact f spans k e).0 n)
to_misplaced f k i spans is e (ends_finally {i = j} d n) =
    subst (λ (z : Operation). misplaced_by spans k (targets i.operand) z ≡ true) (sym (what f k i j does.EndFinally is d))
    (so_not (may_end_finally_test spans k) (MayEndFinally f k) (end_finally_exact f spans k e).0 n)
to_misplaced f k i spans is e (ends_filter {i = j} d n) =
    subst (λ (z : Operation). misplaced_by spans k (targets i.operand) z ≡ true) (sym (what f k i j does.EndFilter is d))
    (so_not (may_end_filter_test spans k) (MayEndFilter f k) (end_filter_exact f spans k e).0 n)

pub misplaced_exact : (f : Frame) (k : ℕ) (i : Ins) (spans : List Spans) → slice_get f.code k ≡ Some i → spans ≡ map spans_of f.clauses
    → IsTrue (misplaced_by spans k (targets i.operand) (operation i.op)) ↔ IsMisplaced f k
misplaced_exact f k i spans is e = (λ h. misplaced_to f k i spans is e (operation i.op) refl h, λ m. to_misplaced f k i spans is e m)

-- ---- never verified

to_unverified : (f : Frame) (k : ℕ) (i : Ins) → slice_get f.code k ≡ Some i → IsUnverified f k → unverified_by (operation i.op) i.operand ≡ true
to_unverified f k i is (unlisted {i = j} d) =
    or_left (is_unlisted (operation i.op)) (calls (operation i.op) && states_this i.operand) (ap is_unlisted (what f k i j does.Unlisted is d))
to_unverified f k i is (explicit {i = j} {o = o} d c s) =
    let same = same_ins f k i j o is d in
    or_right (is_unlisted (operation i.op)) (calls (operation i.op) && states_this i.operand)
    (and_from (calls (operation i.op)) (states_this i.operand) (ap calls (what f k i j o is d) ∙ c) (ap (λ (z : Ins). states_this z.operand) same ∙ s))

pub unverified_exact : (f : Frame) (k : ℕ) (i : Ins) → slice_get f.code k ≡ Some i → IsTrue (unverified_by (operation i.op) i.operand) ↔ IsUnverified f k
unverified_exact f k i is = (
  λ h. elim (or_cases (is_unlisted (operation i.op)) (calls (operation i.op) && states_this i.operand) h) [
    | inl e ↦ unlisted (record { is = is; does = unlisted_op (operation i.op) e })
    | inr e ↦ let p = and_parts (calls (operation i.op)) (states_this i.operand) e in explicit (record { is = is; does = refl }) p.0 p.1
  ],
  λ u. to_unverified f k i is u,
)
