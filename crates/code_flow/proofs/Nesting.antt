-- The tests of nesting tell whether clauses nest.
use Rattle.std.proofs.Common.{◌≡◌, inl, inr, ℕ, zero, suc, ◌+◌, ◌<◌, ◌≤◌, Bool, true, false, ◌&&◌, ◌||◌, List, [], ◌∷◌, map, refl, sym, ◌∙◌, ap, subst, Some, arith}
use Rattle.std.specs.Prelude.{nat_eq, nat_lt, nat_le, if◌then◌else◌, IsTrue, ◌↔◌, slice_get}
use Rattle.std.specs.List.{Contains, list_all}
use Rattle.std.proofs.lemmas.Bool.{and_parts, and_from, or_cases, or_left, or_right, cases_lt, ltb-true, leb-true, le-leb, eqb-true, eq-eqb, both_ways}
use Rattle.std.proofs.lemmas.List.Folds.{list_all-map}
use Rattle.assembly_tree.specs.declared.body.Clause.{Clause}
use Rattle.assembly_tree.specs.declared.body.ClauseKind.{ClauseKind}
use Rattle.assembly_tree.specs.declared.body.ClauseKind.TheVariants.{Catch, Filter, Finally, Fault}
use Rattle.assembly_tree.specs.WellFormedBodies.{is_forward, filter_before}
use Rattle.code_flow.specs.declared.blocks.Span.{Span}
use Rattle.code_flow.specs.declared.blocks.Spans.{Spans}
use Rattle.code_flow.specs.Blocks.{filter, Block, try_block, handler_block, handling_blocks, filter_blocks, blocks_of, Holds, AreDisjoint, LiesIn, AllDisjoint, SameTry, LieIn, AreNested, disjoint, first_inside, second_inside, ClausesNest}
use Rattle.code_flow.specs.BlockTests.{spans_of, filter_span, filter_all, filter_any, handling_all, handling_any, blocks_all, blocks_any, are_apart, is_within, lie_in, is_handling_apart, is_all_apart, has_same_try, is_apart, is_nested, are_nested}
use Rattle.code_flow.proofs.Members.{Every, here, there, either, none, contains_at, place_of, from_every, to_every, all_from}
use Rattle.code_flow.proofs.Levels.{span_of}
use Rattle.code_flow.proofs.Targets.{all_in}

-- ---- ranges that aren't empty

abbrev pub Filled : Block → Type 0
Filled b = b.start < b.end

apart_disjoint : (a b : Block) → are_apart (span_of a) (span_of b) ≡ true → AreDisjoint a b
apart_disjoint a b h k x y = elim (or_cases (nat_le a.end b.start) (nat_le b.end a.start) h) [
  | inl e ↦ omega (arith, leb-true a.end b.start e, x.to, y.from)
  | inr e ↦ omega (arith, leb-true b.end a.start e, y.to, x.from)
]

disjoint_apart : (a b : Block) → Filled a → Filled b → AreDisjoint a b → are_apart (span_of a) (span_of b) ≡ true
disjoint_apart a b fa fb d = elim (cases_lt b.start a.end) [
  | inr e ↦ or_left (nat_le a.end b.start) (nat_le b.end a.start) (le-leb a.end b.start e)
  | inl e ↦ elim (cases_lt a.start b.end) [
    | inr f ↦ or_right (nat_le a.end b.start) (nat_le b.end a.start) (le-leb b.end a.start f)
    | inl f ↦ elim (cases_lt a.start b.start) [
      | inl g ↦ absurd (d b.start (record { from = omega arith; to = e }) (record { from = omega arith; to = fb }))
      | inr g ↦ absurd (d a.start (record { from = omega arith; to = fa }) (record { from = g; to = f }))
    ]
  ]
]

within_lies : (a b : Block) → is_within (span_of b) (span_of a) ≡ true → LiesIn a b
within_lies a b h k x =
    let p = and_parts (nat_le b.start a.start) (nat_le a.end b.end) h in
    let low : b.start ≤ a.start = leb-true b.start a.start p.0 in
    let high : a.end ≤ b.end = leb-true a.end b.end p.1 in
    record { from = omega (arith, x.from); to = omega (arith, x.to) }

-- the last instruction that a block holds
record LastOf (c : Block) : Type 0 where
  at : ℕ
  is : c.end ≡ at + 1
  holds : Holds c at

last_by : (c : Block) (e : ℕ) → c.end ≡ e → c.start < e → LastOf c
last_by c zero is h = absurd (omega arith)
last_by c (suc e) is h = record { at = e; is = omega arith; holds = record { from = omega arith; to = omega arith } }

lies_within : (a b : Block) → Filled a → LiesIn a b → is_within (span_of b) (span_of a) ≡ true
lies_within a b fa l =
    let low = (l a.start (record { from = omega arith; to = fa })).from in
    let last : LastOf a = last_by a a.end refl fa in
    let high = (l last.at last.holds).to in
    and_from (nat_le b.start a.start) (nat_le a.end b.end) (le-leb b.start a.start low) (le-leb a.end b.end (omega (arith, last.is)))

-- ---- blocks of a clause by their tests

filter_to : (test : Span → Bool) (start : ℕ) (x : ClauseKind) → filter_all test (filter_span start x) ≡ true → Every (λ (b : Block). test (span_of b) ≡ true) (filter_blocks start x)
filter_to test start (Filter at) h = (h, tt)
filter_to test start (Catch o) h = tt
filter_to test start Finally h = tt
filter_to test start Fault h = tt

filter_from : (test : Span → Bool) (start : ℕ) (x : ClauseKind) → Every (λ (b : Block). test (span_of b) ≡ true) (filter_blocks start x) → filter_all test (filter_span start x) ≡ true
filter_from test start (Filter at) h = h.0
filter_from test start (Catch o) h = refl
filter_from test start Finally h = refl
filter_from test start Fault h = refl

pub handling_to : (test : Span → Bool) (c : Clause) → handling_all test (spans_of c) ≡ true → (b : Block) → Contains (handling_blocks c) b → test (span_of b) ≡ true
handling_to test c h b is =
    let p = and_parts (test (spans_of c).handler) (filter_all test (spans_of c).filter) h in
    from_every (λ (b : Block). test (span_of b) ≡ true) (handling_blocks c) (p.0, filter_to test c.handler_start c.kind p.1) b is

pub handling_from : (test : Span → Bool) (c : Clause) → ((b : Block) → Contains (handling_blocks c) b → test (span_of b) ≡ true) → handling_all test (spans_of c) ≡ true
handling_from test c h =
    let e = to_every (λ (b : Block). test (span_of b) ≡ true) (handling_blocks c) h in
    and_from (test (spans_of c).handler) (filter_all test (spans_of c).filter) e.0 (filter_from test c.handler_start c.kind e.1)

pub blocks_to : (test : Span → Bool) (c : Clause) → blocks_all test (spans_of c) ≡ true → (b : Block) → Contains (blocks_of c) b → test (span_of b) ≡ true
blocks_to test c h b is =
    let p = and_parts (test (spans_of c).guarded) (handling_all test (spans_of c)) h in
    elim (either (try_block c) (handling_blocks c) b is) [
      | inl e ↦ ap (λ (x : Block). test (span_of x)) (sym e) ∙ p.0
      | inr more ↦ handling_to test c p.1 b more
    ]

pub blocks_from : (test : Span → Bool) (c : Clause) → ((b : Block) → Contains (blocks_of c) b → test (span_of b) ≡ true) → blocks_all test (spans_of c) ≡ true
blocks_from test c h =
    and_from (test (spans_of c).guarded) (handling_all test (spans_of c)) (h (try_block c) (here (try_block c) (handling_blocks c)))
    (handling_from test c (λ b is. h b (there (try_block c) (handling_blocks c) b is)))

-- one of them
record Found (test : Span → Bool) (bs : List Block) : Type 0 where
  block : Block
  is : Contains bs block
  passes : test (span_of block) ≡ true

filter_found : (test : Span → Bool) (start : ℕ) (x : ClauseKind) → filter_any test (filter_span start x) ≡ true → Found test (filter_blocks start x)
filter_found test start (Filter at) h = let b : Block = record { kind = filter; start = at; end = start } in record { block = b; is = here b []; passes = h }
filter_found test start (Catch o) h = absurd (let z : ⊥ = cc in z)
filter_found test start Finally h = absurd (let z : ⊥ = cc in z)
filter_found test start Fault h = absurd (let z : ⊥ = cc in z)

found_filter : (test : Span → Bool) (start : ℕ) (x : ClauseKind) (b : Block) → Contains (filter_blocks start x) b → test (span_of b) ≡ true → filter_any test (filter_span start x) ≡ true
found_filter test start (Filter at) b is h = elim (either (record { kind = filter; start = at; end = start }) [] b is) [
  | inl e ↦ ap (λ (x : Block). test (span_of x)) e ∙ h
  | inr more ↦ absurd (none b more)
]
found_filter test start (Catch o) b is h = absurd (none b is)
found_filter test start Finally b is h = absurd (none b is)
found_filter test start Fault b is h = absurd (none b is)

handling_found : (test : Span → Bool) (c : Clause) → handling_any test (spans_of c) ≡ true → Found test (handling_blocks c)
handling_found test c h = elim (or_cases (test (spans_of c).handler) (filter_any test (spans_of c).filter) h) [
  | inl e ↦ record { block = handler_block c; is = here (handler_block c) (filter_blocks c.handler_start c.kind); passes = e }
  | inr e ↦
      let f = filter_found test c.handler_start c.kind e in
      record { block = f.block; is = there (handler_block c) (filter_blocks c.handler_start c.kind) f.block f.is; passes = f.passes }
]

found_handling : (test : Span → Bool) (c : Clause) (b : Block) → Contains (handling_blocks c) b → test (span_of b) ≡ true → handling_any test (spans_of c) ≡ true
found_handling test c b is h = elim (either (handler_block c) (filter_blocks c.handler_start c.kind) b is) [
  | inl e ↦ or_left (test (spans_of c).handler) (filter_any test (spans_of c).filter) (ap (λ (x : Block). test (span_of x)) e ∙ h)
  | inr more ↦ or_right (test (spans_of c).handler) (filter_any test (spans_of c).filter) (found_filter test c.handler_start c.kind b more h)
]

blocks_found : (test : Span → Bool) (c : Clause) → blocks_any test (spans_of c) ≡ true → Found test (blocks_of c)
blocks_found test c h = elim (or_cases (test (spans_of c).guarded) (handling_any test (spans_of c)) h) [
  | inl e ↦ record { block = try_block c; is = here (try_block c) (handling_blocks c); passes = e }
  | inr e ↦
      let f = handling_found test c e in
      record { block = f.block; is = there (try_block c) (handling_blocks c) f.block f.is; passes = f.passes }
]

found_blocks : (test : Span → Bool) (c : Clause) (b : Block) → Contains (blocks_of c) b → test (span_of b) ≡ true → blocks_any test (spans_of c) ≡ true
found_blocks test c b is h = elim (either (try_block c) (handling_blocks c) b is) [
  | inl e ↦ or_left (test (spans_of c).guarded) (handling_any test (spans_of c)) (ap (λ (x : Block). test (span_of x)) e ∙ h)
  | inr more ↦ or_right (test (spans_of c).guarded) (handling_any test (spans_of c)) (found_handling test c b more h)
]

-- ---- clauses in a well-formed body

filled_filter : (start : ℕ) (x : ClauseKind) → filter_before start x ≡ true → Every Filled (filter_blocks start x)
filled_filter start (Filter at) h = (ltb-true at start h, tt)
filled_filter start (Catch o) h = tt
filled_filter start Finally h = tt
filled_filter start Fault h = tt

pub filled : (c : Clause) → is_forward c ≡ true → (b : Block) → Contains (blocks_of c) b → Filled b
filled c h b is =
    let p = and_parts (nat_lt c.try_start c.try_end && nat_lt c.handler_start c.handler_end) (filter_before c.handler_start c.kind) h in
    let q = and_parts (nat_lt c.try_start c.try_end) (nat_lt c.handler_start c.handler_end) p.0 in
    from_every Filled (blocks_of c) (ltb-true c.try_start c.try_end q.0, (ltb-true c.handler_start c.handler_end q.1, filled_filter c.handler_start c.kind p.1)) b is

filled_handling : (c : Clause) → is_forward c ≡ true → (b : Block) → Contains (handling_blocks c) b → Filled b
filled_handling c h b is = filled c h b (there (try_block c) (handling_blocks c) b is)

-- ---- one clause, and two

module _ (c d : Clause) (fc : is_forward c ≡ true) (fd : is_forward d ≡ true) where
  all_apart_to : is_all_apart (spans_of c) (spans_of d) ≡ true → AllDisjoint (blocks_of c) (blocks_of d)
  all_apart_to h x y a b =
      apart_disjoint x y (blocks_to (are_apart (span_of x)) d (blocks_to (λ s. blocks_all (are_apart s) (spans_of d)) c h x a) y b)

  all_apart_from : AllDisjoint (blocks_of c) (blocks_of d) → is_all_apart (spans_of c) (spans_of d) ≡ true
  all_apart_from h =
      blocks_from (λ s. blocks_all (are_apart s) (spans_of d)) c (λ x a. blocks_from (are_apart (span_of x)) d (λ y b. disjoint_apart x y (filled c fc x a) (filled d fd y b) (h x y a b)))

  handling_apart_to : is_handling_apart (spans_of c) (spans_of d) ≡ true → AllDisjoint (handling_blocks c) (handling_blocks d)
  handling_apart_to h x y a b =
      apart_disjoint x y (handling_to (are_apart (span_of x)) d (handling_to (λ s. handling_all (are_apart s) (spans_of d)) c h x a) y b)

  handling_apart_from : AllDisjoint (handling_blocks c) (handling_blocks d) → is_handling_apart (spans_of c) (spans_of d) ≡ true
  handling_apart_from h =
      handling_from (λ s. handling_all (are_apart s) (spans_of d)) c
      (λ x a. handling_from (are_apart (span_of x)) d (λ y b. disjoint_apart x y (filled_handling c fc x a) (filled_handling d fd y b) (h x y a b)))

  same_to : has_same_try (spans_of c) (spans_of d) ≡ true → SameTry c d
  same_to h =
      let p = and_parts (nat_eq c.try_start d.try_start) (nat_eq c.try_end d.try_end) h in
      record { starts = eqb-true c.try_start d.try_start p.0; ends = eqb-true c.try_end d.try_end p.1 }

  same_from : SameTry c d → has_same_try (spans_of c) (spans_of d) ≡ true
  same_from h = and_from (nat_eq c.try_start d.try_start) (nat_eq c.try_end d.try_end) (eq-eqb c.try_start d.try_start h.starts) (eq-eqb c.try_end d.try_end h.ends)

lie_to : (c : Clause) (b : Block) → lie_in (spans_of c) (span_of b) ≡ true → LieIn c b
lie_to c b h = record { all = λ x a. within_lies x b (blocks_to (is_within (span_of b)) c h x a) }

lie_from : (c : Clause) → is_forward c ≡ true → (b : Block) → LieIn c b → lie_in (spans_of c) (span_of b) ≡ true
lie_from c fc b h = blocks_from (is_within (span_of b)) c (λ x a. lies_within x b (filled c fc x a) (h.all x a))

-- ---- two clauses in order

record PairNests (c d : Clause) : Type 0 where
  shared : SameTry c d → AllDisjoint (handling_blocks c) (handling_blocks d)
  nested : (SameTry c d → ⊥) → AreNested c d

module _ (c d : Clause) (fc : is_forward c ≡ true) (fd : is_forward d ≡ true) where
  nested_to : (is_all_apart (spans_of c) (spans_of d) || blocks_any (lie_in (spans_of c)) (spans_of d) || handling_any (lie_in (spans_of d)) (spans_of c)) ≡ true → AreNested c d
  nested_to h =
      elim (or_cases (is_all_apart (spans_of c) (spans_of d) || blocks_any (lie_in (spans_of c)) (spans_of d)) (handling_any (lie_in (spans_of d)) (spans_of c)) h) [
        | inl two ↦ elim (or_cases (is_all_apart (spans_of c) (spans_of d)) (blocks_any (lie_in (spans_of c)) (spans_of d)) two) [
          | inl a ↦ disjoint (all_apart_to c d fc fd a)
          | inr b ↦ let f = blocks_found (lie_in (spans_of c)) d b in first_inside f.block f.is (lie_to c f.block f.passes)
        ]
        | inr e ↦ let f = handling_found (lie_in (spans_of d)) c e in second_inside f.block f.is (lie_to d f.block f.passes)
      ]

  nested_from : AreNested c d → (is_all_apart (spans_of c) (spans_of d) || blocks_any (lie_in (spans_of c)) (spans_of d) || handling_any (lie_in (spans_of d)) (spans_of c)) ≡ true
  nested_from (disjoint a) =
      or_left (is_all_apart (spans_of c) (spans_of d) || blocks_any (lie_in (spans_of c)) (spans_of d)) (handling_any (lie_in (spans_of d)) (spans_of c))
      (or_left (is_all_apart (spans_of c) (spans_of d)) (blocks_any (lie_in (spans_of c)) (spans_of d)) (all_apart_from c d fc fd a))
  nested_from (first_inside b is l) =
      or_left (is_all_apart (spans_of c) (spans_of d) || blocks_any (lie_in (spans_of c)) (spans_of d)) (handling_any (lie_in (spans_of d)) (spans_of c))
      (or_right (is_all_apart (spans_of c) (spans_of d)) (blocks_any (lie_in (spans_of c)) (spans_of d))
      (found_blocks (lie_in (spans_of c)) d b is (lie_from c fc b l)))
  nested_from (second_inside b is l) =
      or_right (is_all_apart (spans_of c) (spans_of d) || blocks_any (lie_in (spans_of c)) (spans_of d)) (handling_any (lie_in (spans_of d)) (spans_of c))
      (found_handling (lie_in (spans_of d)) c b is (lie_from d fd b l))

  pair_by : (x : Bool) → has_same_try (spans_of c) (spans_of d) ≡ x
      → (if x then is_handling_apart (spans_of c) (spans_of d)
      else (is_all_apart (spans_of c) (spans_of d) || blocks_any (lie_in (spans_of c)) (spans_of d) || handling_any (lie_in (spans_of d)) (spans_of c))) ≡ true
      → PairNests c d
  pair_by true e h = record { shared = λ s. handling_apart_to c d fc fd h; nested = λ n. absurd (n (same_to c d fc fd e)) }
  pair_by false e h = record { shared = λ s. absurd (both_ways (has_same_try (spans_of c) (spans_of d)) e (same_from c d fc fd s)); nested = λ n. nested_to h }

  pair_to : is_nested (spans_of c) (spans_of d) ≡ true → PairNests c d
  pair_to h = pair_by (has_same_try (spans_of c) (spans_of d)) refl h

  pair_back : (x : Bool) → has_same_try (spans_of c) (spans_of d) ≡ x → PairNests c d
      → (if x then is_handling_apart (spans_of c) (spans_of d)
      else (is_all_apart (spans_of c) (spans_of d) || blocks_any (lie_in (spans_of c)) (spans_of d) || handling_any (lie_in (spans_of d)) (spans_of c))) ≡ true
  pair_back true e p = handling_apart_from c d fc fd (p.shared (same_to c d fc fd e))
  pair_back false e p = nested_from (p.nested (λ s. both_ways (has_same_try (spans_of c) (spans_of d)) e (same_from c d fc fd s)))

  pair_from : PairNests c d → is_nested (spans_of c) (spans_of d) ≡ true
  pair_from p = pair_back (has_same_try (spans_of c) (spans_of d)) refl p

-- ---- one clause

record Apart (c : Clause) : Type 0 where
  each : AllDisjoint (try_block c ∷ []) (handling_blocks c)
  filters : AllDisjoint (handler_block c ∷ []) (filter_blocks c.handler_start c.kind)

only : (x y z : Block) → Contains (x ∷ []) y → AreDisjoint x z → AreDisjoint y z
only x y z is h = elim (either x [] y is) [
  | inl e ↦ subst (λ (b : Block). AreDisjoint b z) e h
  | inr more ↦ absurd (none y more)
]

apart_to : (c : Clause) → is_apart (spans_of c) ≡ true → Apart c
apart_to c h =
    let p = and_parts (handling_all (are_apart (spans_of c).guarded) (spans_of c)) (filter_all (are_apart (spans_of c).handler) (spans_of c).filter) h in
    record {
      each = λ x y a b. only (try_block c) x y a (apart_disjoint (try_block c) y (handling_to (are_apart (spans_of c).guarded) c p.0 y b));
      filters = λ x y a b. only (handler_block c) x y a (apart_disjoint (handler_block c) y
          (from_every (λ (z : Block). are_apart (spans_of c).handler (span_of z) ≡ true) (filter_blocks c.handler_start c.kind)
          (filter_to (are_apart (spans_of c).handler) c.handler_start c.kind p.1) y b));
    }

apart_from : (c : Clause) → is_forward c ≡ true → Apart c → is_apart (spans_of c) ≡ true
apart_from c f h =
    and_from (handling_all (are_apart (spans_of c).guarded) (spans_of c)) (filter_all (are_apart (spans_of c).handler) (spans_of c).filter)
    (handling_from (are_apart (spans_of c).guarded) c
    (λ y b. disjoint_apart (try_block c) y (filled c f (try_block c) (here (try_block c) (handling_blocks c))) (filled_handling c f y b) (h.each (try_block c) y (here (try_block c) []) b)))
    (filter_from (are_apart (spans_of c).handler) c.handler_start c.kind
    (to_every (λ (z : Block). are_apart (spans_of c).handler (span_of z) ≡ true) (filter_blocks c.handler_start c.kind)
    (λ y b. disjoint_apart (handler_block c) y (filled_handling c f (handler_block c) (here (handler_block c) (filter_blocks c.handler_start c.kind)))
    (filled_handling c f y (there (handler_block c) (filter_blocks c.handler_start c.kind) y b)) (h.filters (handler_block c) y (here (handler_block c) []) b))))

-- ---- all clauses

no_clauses : ClausesNest []
no_clauses = record {
  each = λ c is. absurd (none c is);
  filters = λ c is. absurd (none c is);
  shared = λ i j c d less a b s. absurd (let z : ⊥ = cc in z);
  nested = λ i j c d less a b n. absurd (let z : ⊥ = cc in z);
}

first_of : (c x : Clause) (cs : List Clause) → slice_get (c ∷ cs) 0 ≡ Some x → c ≡ x
first_of c x cs h = cc

module _ (c : Clause) (cs : List Clause) where
  pair_at : ((d : Clause) → Contains cs d → PairNests c d) → ClausesNest cs → (i j : ℕ) (x y : Clause) → i < j → slice_get (c ∷ cs) i ≡ Some x → slice_get (c ∷ cs) j ≡ Some y → PairNests x y
  pair_at first rest i zero x y less a b = absurd (omega arith)
  pair_at first rest zero (suc j) x y less a b = subst (λ (z : Clause). PairNests z y) (first_of c x cs a) (first y (contains_at cs j y b))
  pair_at first rest (suc i) (suc j) x y less a b = record { shared = rest.shared i j x y (omega arith) a b; nested = rest.nested i j x y (omega arith) a b }

  more_nest : Apart c → ((d : Clause) → Contains cs d → PairNests c d) → ClausesNest cs → ClausesNest (c ∷ cs)
  more_nest a first rest = record {
    each = λ x is. elim (either c cs x is) [
      | inl e ↦ subst (λ (z : Clause). AllDisjoint (try_block z ∷ []) (handling_blocks z)) e a.each
      | inr more ↦ rest.each x more
    ];
    filters = λ x is. elim (either c cs x is) [
      | inl e ↦ subst (λ (z : Clause). AllDisjoint (handler_block z ∷ []) (filter_blocks z.handler_start z.kind)) e a.filters
      | inr more ↦ rest.filters x more
    ];
    shared = λ i j x y less p q. (pair_at first rest i j x y less p q).shared;
    nested = λ i j x y less p q. (pair_at first rest i j x y less p q).nested;
  }

  rest_nests : ClausesNest (c ∷ cs) → ClausesNest cs
  rest_nests h = record {
    each = λ x is. h.each x (there c cs x is);
    filters = λ x is. h.filters x (there c cs x is);
    shared = λ i j x y less p q. h.shared (suc i) (suc j) x y (omega arith) p q;
    nested = λ i j x y less p q. h.nested (suc i) (suc j) x y (omega arith) p q;
  }

  first_nests : ClausesNest (c ∷ cs) → (j : ℕ) (d : Clause) → slice_get cs j ≡ Some d → PairNests c d
  first_nests h j d is = record { shared = h.shared 0 (suc j) c d (omega arith) refl is; nested = h.nested 0 (suc j) c d (omega arith) refl is }

nests_to : (cs : List Clause) → list_all is_forward cs ≡ true → are_nested (map spans_of cs) ≡ true → ClausesNest cs
nests_to [] f h = no_clauses
nests_to (c ∷ cs) f h =
    let forward = and_parts (is_forward c) (list_all is_forward cs) f in
    let rest = and_parts (is_apart (spans_of c) && list_all (is_nested (spans_of c)) (map spans_of cs)) (are_nested (map spans_of cs)) h in
    let own = and_parts (is_apart (spans_of c)) (list_all (is_nested (spans_of c)) (map spans_of cs)) rest.0 in
    let pairs : list_all (λ (d : Clause). is_nested (spans_of c) (spans_of d)) cs ≡ true = sym (list_all-map (is_nested (spans_of c)) spans_of cs) ∙ own.1 in
    more_nest c cs (apart_to c own.0)
    (λ d is. pair_to c d forward.0 (all_in is_forward cs d forward.1 is) (all_in (λ (x : Clause). is_nested (spans_of c) (spans_of x)) cs d pairs is))
    (nests_to cs forward.1 rest.1)

nests_from : (cs : List Clause) → list_all is_forward cs ≡ true → ClausesNest cs → are_nested (map spans_of cs) ≡ true
nests_from [] f h = refl
nests_from (c ∷ cs) f h =
    let forward = and_parts (is_forward c) (list_all is_forward cs) f in
    let pairs : list_all (λ (d : Clause). is_nested (spans_of c) (spans_of d)) cs ≡ true =
    all_from (λ (d : Clause). is_nested (spans_of c) (spans_of d)) cs (to_every (λ (d : Clause). is_nested (spans_of c) (spans_of d) ≡ true) cs (λ d is.
    let at = place_of cs d is in pair_from c d forward.0 (all_in is_forward cs d forward.1 is) (first_nests c cs h at.0 d at.1))) in
    and_from (is_apart (spans_of c) && list_all (is_nested (spans_of c)) (map spans_of cs)) (are_nested (map spans_of cs))
    (and_from (is_apart (spans_of c)) (list_all (is_nested (spans_of c)) (map spans_of cs))
    (apart_from c forward.0 (record { each = h.each c (here c cs); filters = h.filters c (here c cs) }))
    (list_all-map (is_nested (spans_of c)) spans_of cs ∙ pairs))
    (nests_from cs forward.1 (rest_nests c cs h))

pub nest_exact : (cs : List Clause) (spans : List Spans) → spans ≡ map spans_of cs → list_all is_forward cs ≡ true → IsTrue (are_nested spans) ↔ ClausesNest cs
nest_exact cs spans e f =
    (λ h. nests_to cs f (ap are_nested (sym e) ∙ h), λ n. ap are_nested e ∙ nests_from cs f n)
