-- The tests of innermost blocks tell what is innermost.
use Rattle.std.proofs.Common.{◌≡◌, inl, inr, ℕ, ◌+◌, ◌≤◌, Bool, true, false, not, List, [], map, refl, sym, ◌∙◌, ap, subst, Some}
use Rattle.std.specs.Prelude.{nat_eq, nat_le, IsTrue, ◌↔◌}
use Rattle.std.specs.List.{Contains, list_all, list_any}
use Rattle.std.proofs.lemmas.Bool.{and_parts, and_from, or_cases, or_left, or_right, leb-true, le-leb, eqb-true, eq-eqb, both_ways, not-true, not_from_false, cases_Bool}
use Rattle.std.proofs.lemmas.List.Folds.{list_all-map}
use Rattle.assembly_tree.specs.declared.body.Clause.{Clause}
use Rattle.assembly_tree.specs.declared.body.ClauseKind.{ClauseKind}
use Rattle.assembly_tree.specs.declared.body.ClauseKind.TheVariants.{Catch, Filter, Finally, Fault}
use Rattle.code_flow.specs.declared.blocks.Span.{Span}
use Rattle.code_flow.specs.declared.blocks.Spans.{Spans}
use Rattle.code_flow.specs.Blocks.{BlockKind, guarded, handler, filter, Block, try_block, handler_block, handling_blocks, filter_blocks, blocks_of, blocks, Holds, IsInnermost}
use Rattle.code_flow.specs.BlockTests.{span, spans_of, handling_of, filter_span, filter_any, handling_all, blocks_all, is_held, is_within}
use Rattle.code_flow.specs.PlaceTests.{catches, encloses, is_innermost_range, is_innermost_handling, rethrows_in, may_rethrow_test, ends_finally_in, may_end_finally_test, is_last_of, ends_filter_in, may_end_filter_test}
use Rattle.code_flow.specs.Frames.{Frame}
use Rattle.code_flow.specs.Rules.{is_catching, is_ending, is_handling, MayRethrow, MayEndFinally, MayEndFilter}
use Rattle.code_flow.proofs.Members.{here, there, either, none, from_every, to_every, all_from, all_to, of_flat, in_flat, any_to, any_from, any_map}
use Rattle.code_flow.proofs.Levels.{span_of, held, held_from, not_held}
use Rattle.code_flow.proofs.Nesting.{blocks_to, blocks_from, handling_to, handling_from}

-- a block, where it holds `k`, has the range in it
abbrev Around : ℕ → Span → Block → Type 0
Around k s c = Holds c k → (c.start ≤ s.start) × (s.end ≤ c.end)

around_to : (k : ℕ) (s : Span) (c : Block) → encloses k s (span_of c) ≡ true → Around k s c
around_to k s c h holds = elim (or_cases (not (is_held (span_of c) k)) (is_within (span_of c) s) h) [
  | inl e ↦ absurd (not_held c k (not-true (is_held (span_of c) k) e) holds)
  | inr e ↦ let p = and_parts (nat_le c.start s.start) (nat_le s.end c.end) e in (leb-true c.start s.start p.0, leb-true s.end c.end p.1)
]

around_from : (k : ℕ) (s : Span) (c : Block) → Around k s c → encloses k s (span_of c) ≡ true
around_from k s c a = elim (cases_Bool (is_held (span_of c) k)) [
  | inl e ↦ let p = a (held c k e) in
      or_right (not (is_held (span_of c) k)) (is_within (span_of c) s) (and_from (nat_le c.start s.start) (nat_le s.end c.end) (le-leb c.start s.start p.0) (le-leb s.end c.end p.1))
  | inr e ↦ or_left (not (is_held (span_of c) k)) (is_within (span_of c) s) (not_from_false (is_held (span_of c) k) e)
]

-- ---- all blocks

enclosed_to : (cs : List Clause) (k : ℕ) (s : Span) → list_all (blocks_all (encloses k s)) (map spans_of cs) ≡ true → (b : Block) → Contains (blocks cs) b → Around k s b
enclosed_to cs k s h b is =
    let m = of_flat blocks_of cs b is in
    let each : list_all (λ (c : Clause). blocks_all (encloses k s) (spans_of c)) cs ≡ true = sym (list_all-map (blocks_all (encloses k s)) spans_of cs) ∙ h in
    let one = from_every (λ (c : Clause). blocks_all (encloses k s) (spans_of c) ≡ true) cs (all_to (λ (c : Clause). blocks_all (encloses k s) (spans_of c)) cs each) m.0 m.1 in
    around_to k s b (blocks_to (encloses k s) m.0 one b m.2)

enclosed_from : (cs : List Clause) (k : ℕ) (s : Span) → ((b : Block) → Contains (blocks cs) b → Around k s b) → list_all (blocks_all (encloses k s)) (map spans_of cs) ≡ true
enclosed_from cs k s h =
    list_all-map (blocks_all (encloses k s)) spans_of cs
    ∙ all_from (λ (c : Clause). blocks_all (encloses k s) (spans_of c)) cs
    (to_every (λ (c : Clause). blocks_all (encloses k s) (spans_of c) ≡ true) cs
    (λ c is. blocks_from (encloses k s) c (λ b a. around_from k s b (h b (in_flat blocks_of cs c b is a)))))

pub innermost_to : (cs : List Clause) (k : ℕ) (b : Block) → Contains (blocks cs) b → is_innermost_range (map spans_of cs) k (span_of b) ≡ true → IsInnermost cs k b
innermost_to cs k b is h =
    let p = and_parts (is_held (span_of b) k) (list_all (blocks_all (encloses k (span_of b))) (map spans_of cs)) h in
    record { is = is; holds = held b k p.0; inside = enclosed_to cs k (span_of b) p.1 }

pub innermost_from : (cs : List Clause) (k : ℕ) (b : Block) → IsInnermost cs k b → is_innermost_range (map spans_of cs) k (span_of b) ≡ true
innermost_from cs k b h =
    and_from (is_held (span_of b) k) (list_all (blocks_all (encloses k (span_of b))) (map spans_of cs)) (held_from b k h.holds) (enclosed_from cs k (span_of b) h.inside)

handler_in : (cs : List Clause) (c : Clause) → Contains cs c → Contains (blocks cs) (handler_block c)
handler_in cs c is = in_flat blocks_of cs c (handler_block c) is (there (try_block c) (handling_blocks c) (handler_block c) (here (handler_block c) (filter_blocks c.handler_start c.kind)))

-- ---- which block of a clause a block is

data Which (c : Clause) (b : Block) : Type 0 where
  its_try : b ≡ try_block c → Which c b
  its_handler : b ≡ handler_block c → Which c b
  its_filter : Contains (filter_blocks c.handler_start c.kind) b → Which c b

which : (c : Clause) (b : Block) → Contains (blocks_of c) b → Which c b
which c b is = elim (either (try_block c) (handling_blocks c) b is) [
  | inl e ↦ its_try (sym e)
  | inr more ↦ elim (either (handler_block c) (filter_blocks c.handler_start c.kind) b more) [
    | inl e ↦ its_handler (sym e)
    | inr f ↦ its_filter f
  ]
]

filter_is : (start : ℕ) (x : ClauseKind) (b : Block) → Contains (filter_blocks start x) b → (b.kind ≡ filter) × (filter_span start x ≡ Some (span_of b))
filter_is start (Filter at) b is = elim (either (record { kind = filter; start = at; end = start }) [] b is) [
  | inl e ↦ (ap (λ (x : Block). x.kind) (sym e), ap (λ (x : Block). Some (span_of x)) e)
  | inr more ↦ absurd (none b more)
]
filter_is start (Catch o) b is = absurd (none b is)
filter_is start Finally b is = absurd (none b is)
filter_is start Fault b is = absurd (none b is)

catching_kind : (x : ClauseKind) → is_catching (handler x) ≡ catches (handling_of x)
catching_kind (Catch o) = refl
catching_kind (Filter at) = refl
catching_kind Finally = refl
catching_kind Fault = refl

ending_kind : (x : ClauseKind) → is_ending (handler x) ≡ not (catches (handling_of x))
ending_kind (Catch o) = refl
ending_kind (Filter at) = refl
ending_kind Finally = refl
ending_kind Fault = refl

no_kind : (test : BlockKind → Bool) (x : BlockKind) (b : Block) → test x ≡ false → b.kind ≡ x → IsTrue (test b.kind) → ⊥
no_kind test x b a e h = both_ways (test x) a (ap test (sym e) ∙ h)

-- ---- endfinally

ending_clause : (cs : List Clause) (b : Block) → Contains (blocks cs) b → IsTrue (is_ending b.kind) → (c : Clause) × Contains cs c × (b ≡ handler_block c)
ending_clause cs b is h =
    let m = of_flat blocks_of cs b is in
    elim (which m.0 b m.2) [
      | its_try e ↦ absurd (no_kind is_ending guarded b refl (ap (λ (x : Block). x.kind) e) h)
      | its_handler e ↦ (m.0, m.1, e)
      | its_filter f ↦ absurd (no_kind is_ending filter b refl (filter_is m.0.handler_start m.0.kind b f).0 h)
    ]

end_finally_at : (cs : List Clause) (k : ℕ) (c : Clause) → Contains cs c → ends_finally_in (map spans_of cs) k (spans_of c) ≡ true → (b : Block) × IsInnermost cs k b × IsTrue (is_ending b.kind)
end_finally_at cs k c is h =
    let p = and_parts (not (catches (spans_of c).handling)) (is_innermost_range (map spans_of cs) k (spans_of c).handler) h in
    (handler_block c, innermost_to cs k (handler_block c) (handler_in cs c is) p.1, ending_kind c.kind ∙ p.0)

pub end_finally_exact : (f : Frame) (spans : List Spans) (k : ℕ) → spans ≡ map spans_of f.clauses → IsTrue (may_end_finally_test spans k) ↔ MayEndFinally f k
end_finally_exact f spans k e =
    let cs = f.clauses in
    let over : may_end_finally_test spans k ≡ list_any (λ (c : Clause). ends_finally_in (map spans_of cs) k (spans_of c)) cs =
    ap (λ (l : List Spans). may_end_finally_test l k) e ∙ any_map (ends_finally_in (map spans_of cs) k) spans_of cs in (
      λ h.
          let m = any_to (λ (c : Clause). ends_finally_in (map spans_of cs) k (spans_of c)) cs (sym over ∙ h) in
          let r = end_finally_at cs k m.0 m.1 m.2 in
          record { block = r.0; innermost = r.1; ending = r.2 },
      λ m.
          let r = ending_clause cs m.block m.innermost.is m.ending in
          let kind : m.block.kind ≡ handler r.0.kind = ap (λ (x : Block). x.kind) r.2 in
          let inner : is_innermost_range (map spans_of cs) k (spans_of r.0).handler ≡ true =
          subst (λ (x : Block). is_innermost_range (map spans_of cs) k (span_of x) ≡ true) r.2 (innermost_from cs k m.block m.innermost) in
          let ends : not (catches (spans_of r.0).handling) ≡ true = sym (ending_kind r.0.kind) ∙ ap is_ending (sym kind) ∙ m.ending in
          over ∙ any_from (λ (c : Clause). ends_finally_in (map spans_of cs) k (spans_of c)) cs r.0 r.1
          (and_from (not (catches (spans_of r.0).handling)) (is_innermost_range (map spans_of cs) k (spans_of r.0).handler) ends inner),
    )

-- ---- endfilter

record FilterOf (cs : List Clause) (b : Block) : Type 0 where
  clause : Clause
  is : Contains cs clause
  span_is : (spans_of clause).filter ≡ Some (span_of b)

filter_clause : (cs : List Clause) (b : Block) → Contains (blocks cs) b → b.kind ≡ filter → FilterOf cs b
filter_clause cs b is h =
    let m = of_flat blocks_of cs b is in
    elim (which m.0 b m.2) [
      | its_try e ↦ absurd (let k : guarded ≡ filter = ap (λ (x : Block). x.kind) (sym e) ∙ h in let z : ⊥ = cc in z)
      | its_handler e ↦ absurd (let k : handler m.0.kind ≡ filter = ap (λ (x : Block). x.kind) (sym e) ∙ h in let z : ⊥ = cc in z)
      | its_filter f ↦ record { clause = m.0; is = m.1; span_is = (filter_is m.0.handler_start m.0.kind b f).1 }
    ]

end_filter_by : (cs : List Clause) (k start : ℕ) (x : ClauseKind) → ((b : Block) → Contains (filter_blocks start x) b → Contains (blocks cs) b)
    → filter_any (is_last_of (map spans_of cs) k) (filter_span start x) ≡ true → (b : Block) × IsInnermost cs k b × (b.kind ≡ filter) × (b.end ≡ k + 1)
end_filter_by cs k start (Filter at) within h =
    let b : Block = record { kind = filter; start = at; end = start } in
    let p = and_parts (nat_eq start (k + 1)) (is_innermost_range (map spans_of cs) k (span at start)) h in
    (b, innermost_to cs k b (within b (here b [])) p.1, refl, eqb-true start (k + 1) p.0)
end_filter_by cs k start (Catch o) within h = absurd (let z : ⊥ = cc in z)
end_filter_by cs k start Finally within h = absurd (let z : ⊥ = cc in z)
end_filter_by cs k start Fault within h = absurd (let z : ⊥ = cc in z)

pub end_filter_exact : (f : Frame) (spans : List Spans) (k : ℕ) → spans ≡ map spans_of f.clauses → IsTrue (may_end_filter_test spans k) ↔ MayEndFilter f k
end_filter_exact f spans k e =
    let cs = f.clauses in
    let over : may_end_filter_test spans k ≡ list_any (λ (c : Clause). ends_filter_in (map spans_of cs) k (spans_of c)) cs =
    ap (λ (l : List Spans). may_end_filter_test l k) e ∙ any_map (ends_filter_in (map spans_of cs) k) spans_of cs in (
      λ h.
          let m = any_to (λ (c : Clause). ends_filter_in (map spans_of cs) k (spans_of c)) cs (sym over ∙ h) in
          let within = λ (b : Block) (a : Contains (filter_blocks m.0.handler_start m.0.kind) b).
          in_flat blocks_of cs m.0 b m.1 (there (try_block m.0) (handling_blocks m.0) b (there (handler_block m.0) (filter_blocks m.0.handler_start m.0.kind) b a)) in
          let r = end_filter_by cs k m.0.handler_start m.0.kind within m.2 in
          record { block = r.0; innermost = r.1; is_filter = r.2; last = r.3 },
      λ m.
          let r = filter_clause cs m.block m.innermost.is m.is_filter in
          let passes : is_last_of (map spans_of cs) k (span_of m.block) ≡ true =
          and_from (nat_eq m.block.end (k + 1)) (is_innermost_range (map spans_of cs) k (span_of m.block)) (eq-eqb m.block.end (k + 1) m.last) (innermost_from cs k m.block m.innermost) in
          over ∙ any_from (λ (c : Clause). ends_filter_in (map spans_of cs) k (spans_of c)) cs r.clause r.is
          (ap (filter_any (is_last_of (map spans_of cs) k)) r.span_is ∙ passes),
    )

-- ---- rethrow

in_handling : (c : Clause) (b : Block) → Contains (blocks_of c) b → IsTrue (is_handling b.kind) → Contains (handling_blocks c) b
in_handling c b is h = elim (either (try_block c) (handling_blocks c) b is) [
  | inl e ↦ absurd (no_kind is_handling guarded b refl (ap (λ (x : Block). x.kind) (sym e)) h)
  | inr more ↦ more
]

handles_kind : (c : Clause) (b : Block) → Contains (handling_blocks c) b → IsTrue (is_handling b.kind)
handles_kind c b is = elim (either (handler_block c) (filter_blocks c.handler_start c.kind) b is) [
  | inl e ↦ ap (λ (x : Block). is_handling x.kind) (sym e)
  | inr f ↦ ap is_handling (filter_is c.handler_start c.kind b f).0
]

handling_to_all : (cs : List Clause) (k : ℕ) (s : Span) → list_all (handling_all (encloses k s)) (map spans_of cs) ≡ true
    → (b : Block) → Contains (blocks cs) b → Holds b k → IsTrue (is_handling b.kind) → (b.start ≤ s.start) × (s.end ≤ b.end)
handling_to_all cs k s h b is holds kind =
    let m = of_flat blocks_of cs b is in
    let each : list_all (λ (c : Clause). handling_all (encloses k s) (spans_of c)) cs ≡ true = sym (list_all-map (handling_all (encloses k s)) spans_of cs) ∙ h in
    let one = from_every (λ (c : Clause). handling_all (encloses k s) (spans_of c) ≡ true) cs (all_to (λ (c : Clause). handling_all (encloses k s) (spans_of c)) cs each) m.0 m.1 in
    around_to k s b (handling_to (encloses k s) m.0 one b (in_handling m.0 b m.2 kind)) holds

handling_from_all : (cs : List Clause) (k : ℕ) (s : Span)
    → ((b : Block) → Contains (blocks cs) b → Holds b k → IsTrue (is_handling b.kind) → (b.start ≤ s.start) × (s.end ≤ b.end))
    → list_all (handling_all (encloses k s)) (map spans_of cs) ≡ true
handling_from_all cs k s h =
    list_all-map (handling_all (encloses k s)) spans_of cs
    ∙ all_from (λ (c : Clause). handling_all (encloses k s) (spans_of c)) cs
    (to_every (λ (c : Clause). handling_all (encloses k s) (spans_of c) ≡ true) cs
    (λ c is. handling_from (encloses k s) c (λ b a. around_from k s b (λ holds.
    h b (in_flat blocks_of cs c b is (there (try_block c) (handling_blocks c) b a)) holds (handles_kind c b a)))))

catching_clause : (cs : List Clause) (b : Block) → Contains (blocks cs) b → IsTrue (is_catching b.kind) → (c : Clause) × Contains cs c × (b ≡ handler_block c)
catching_clause cs b is h =
    let m = of_flat blocks_of cs b is in
    elim (which m.0 b m.2) [
      | its_try e ↦ absurd (no_kind is_catching guarded b refl (ap (λ (x : Block). x.kind) e) h)
      | its_handler e ↦ (m.0, m.1, e)
      | its_filter f ↦ absurd (no_kind is_catching filter b refl (filter_is m.0.handler_start m.0.kind b f).0 h)
    ]

pub rethrow_exact : (f : Frame) (spans : List Spans) (k : ℕ) → spans ≡ map spans_of f.clauses → IsTrue (may_rethrow_test spans k) ↔ MayRethrow f k
rethrow_exact f spans k e =
    let cs = f.clauses in
    let over : may_rethrow_test spans k ≡ list_any (λ (c : Clause). rethrows_in (map spans_of cs) k (spans_of c)) cs =
    ap (λ (l : List Spans). may_rethrow_test l k) e ∙ any_map (rethrows_in (map spans_of cs) k) spans_of cs in (
      λ h.
          let m = any_to (λ (c : Clause). rethrows_in (map spans_of cs) k (spans_of c)) cs (sym over ∙ h) in
          let c = m.0 in
          let p = and_parts (catches (spans_of c).handling) (is_innermost_handling (map spans_of cs) k (spans_of c).handler) m.2 in
          let q = and_parts (is_held (spans_of c).handler k) (list_all (handling_all (encloses k (spans_of c).handler)) (map spans_of cs)) p.1 in
          record {
            block = handler_block c;
            is = handler_in cs c m.1;
            holds = held (handler_block c) k q.0;
            catching = catching_kind c.kind ∙ p.0;
            innermost = handling_to_all cs k (spans_of c).handler q.1;
          },
      λ m.
          let r = catching_clause cs m.block m.is m.catching in
          let kind : m.block.kind ≡ handler r.0.kind = ap (λ (x : Block). x.kind) r.2 in
          let inner : is_innermost_handling (map spans_of cs) k (span_of m.block) ≡ true =
          and_from (is_held (span_of m.block) k) (list_all (handling_all (encloses k (span_of m.block))) (map spans_of cs)) (held_from m.block k m.holds)
          (handling_from_all cs k (span_of m.block) m.innermost) in
          let there_too : is_innermost_handling (map spans_of cs) k (spans_of r.0).handler ≡ true = subst (λ (x : Block). is_innermost_handling (map spans_of cs) k (span_of x) ≡ true) r.2 inner in
          let catches_it : catches (spans_of r.0).handling ≡ true = sym (catching_kind r.0.kind) ∙ ap is_catching (sym kind) ∙ m.catching in
          over ∙ any_from (λ (c : Clause). rethrows_in (map spans_of cs) k (spans_of c)) cs r.0 r.1
          (and_from (catches (spans_of r.0).handling) (is_innermost_handling (map spans_of cs) k (spans_of r.0).handler) catches_it there_too),
    )
