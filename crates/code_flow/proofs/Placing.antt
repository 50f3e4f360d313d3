-- The tests of where `leave`, `rethrow`, `endfinally` and `endfilter` may stand tell whether they may.
use Rattle.std.proofs.Common.{◌≡◌, inl, inr, ℕ, Bool, true, false, not, ◌&&◌, ◌||◌, List, map, refl, sym, ◌∙◌, ap}
use Rattle.std.specs.Prelude.{nat_eq, if◌then◌else◌, IsTrue, ◌↔◌}
use Rattle.std.specs.List.{list_all}
use Rattle.std.proofs.lemmas.Bool.{and_parts, and_from, eqb-true, eq-eqb, both_ways, cases_Bool}
use Rattle.std.proofs.lemmas.List.Folds.{list_all-map}
use Rattle.assembly_tree.specs.declared.body.Clause.{Clause}
use Rattle.assembly_tree.specs.declared.body.ClauseKind.{ClauseKind}
use Rattle.assembly_tree.specs.declared.body.ClauseKind.TheVariants.{Catch, Filter, Finally, Fault}
use Rattle.code_flow.specs.declared.blocks.Spans.{Spans}
use Rattle.code_flow.specs.Blocks.{guarded, handler, filter, Block, try_block, filter_blocks, blocks_of, blocks, Holds, BeginsAt}
use Rattle.code_flow.specs.BlockTests.{span, spans_of, handling_of, filter_span, filter_all, is_held, keeps}
use Rattle.code_flow.specs.PlaceTests.{catches, opens, releases, handler_releases, clause_releases, may_leave_test}
use Rattle.code_flow.specs.Frames.{Frame}
use Rattle.code_flow.specs.Rules.{may_be_left, MayLeave}
use Rattle.code_flow.proofs.Members.{Every, from_every, to_every, every_flat, every_of_flat, every_map, all_from, all_to}
use Rattle.code_flow.proofs.Levels.{span_of, held, not_held, kept, kept_from}

-- ---- leave

record Lets (k t : ℕ) (b : Block) : Type 0 where
  out : Holds b k → (Holds b t → ⊥) → IsTrue (may_be_left b.kind)
  into : Holds b t → (Holds b k → ⊥) → BeginsAt b t

opens_by : (k t : ℕ) (b : Block) → b.kind ≡ guarded → (x y : Bool) → is_held (span_of b) k ≡ x → is_held (span_of b) t ≡ y → (x || not y || nat_eq b.start t) ≡ true → Lets k t b
opens_by k t b g x y e f h = record { out = λ p n. ap may_be_left g; into = go x y e f h } where
  go : (x y : Bool) → is_held (span_of b) k ≡ x → is_held (span_of b) t ≡ y → (x || not y || nat_eq b.start t) ≡ true → Holds b t → (Holds b k → ⊥) → BeginsAt b t
  go true y e f h p n = absurd (n (held b k e))
  go false true e f h p n = record { is_try = g; begins = eqb-true b.start t h }
  go false false e f h p n = absurd (not_held b t f p)

opens_back : (k t : ℕ) (b : Block) → Lets k t b → (x y : Bool) → is_held (span_of b) k ≡ x → is_held (span_of b) t ≡ y → (x || not y || nat_eq b.start t) ≡ true
opens_back k t b l true y e f = refl
opens_back k t b l false true e f = eq-eqb b.start t (l.into (held b t f) (not_held b k e)).begins
opens_back k t b l false false e f = refl

releases_by : (k t : ℕ) (b : Block) → may_be_left b.kind ≡ true → (x y : Bool) → is_held (span_of b) k ≡ x → is_held (span_of b) t ≡ y → (x || not y) ≡ true → Lets k t b
releases_by k t b g true y e f h = record { out = λ p n. g; into = λ p n. absurd (n (held b k e)) }
releases_by k t b g false true e f h = absurd (let z : ⊥ = cc in z)
releases_by k t b g false false e f h = record { out = λ p n. g; into = λ p n. absurd (not_held b t f p) }

releases_back : (k t : ℕ) (b : Block) → (b.kind ≡ guarded → ⊥) → Lets k t b → (x y : Bool) → is_held (span_of b) k ≡ x → is_held (span_of b) t ≡ y → (x || not y) ≡ true
releases_back k t b g l true y e f = refl
releases_back k t b g l false true e f = absurd (g (l.into (held b t f) (not_held b k e)).is_try)
releases_back k t b g l false false e f = refl

keeps_lets : (k t : ℕ) (b : Block) → keeps k t (span_of b) ≡ true → Lets k t b
keeps_lets k t b h = let p = kept k t b h in record { out = λ a n. absurd (n (p.stays a)); into = p.enters }

keeps_back : (k t : ℕ) (b : Block) → (b.kind ≡ guarded → ⊥) → may_be_left b.kind ≡ false → Lets k t b → keeps k t (span_of b) ≡ true
keeps_back k t b g closed l = kept_from k t b g (record {
  stays = λ a. elim (cases_Bool (is_held (span_of b) t)) [
    | inl e ↦ held b t e
    | inr e ↦ absurd (both_ways (may_be_left b.kind) closed (l.out a (not_held b t e)))
  ];
  enters = l.into;
})

handler_lets : (k t s e : ℕ) (x : ClauseKind) → (if catches (handling_of x) then releases k t (span s e) else keeps k t (span s e)) ≡ true → Lets k t (record { kind = handler x; start = s; end = e })
handler_lets k t s e (Catch o) h = let b : Block = record { kind = handler (Catch o); start = s; end = e } in releases_by k t b refl (is_held (span s e) k) (is_held (span s e) t) refl refl h
handler_lets k t s e (Filter at) h = let b : Block = record { kind = handler (Filter at); start = s; end = e } in releases_by k t b refl (is_held (span s e) k) (is_held (span s e) t) refl refl h
handler_lets k t s e Finally h = keeps_lets k t (record { kind = handler Finally; start = s; end = e }) h
handler_lets k t s e Fault h = keeps_lets k t (record { kind = handler Fault; start = s; end = e }) h

handler_back : (k t s e : ℕ) (x : ClauseKind) → Lets k t (record { kind = handler x; start = s; end = e }) → (if catches (handling_of x) then releases k t (span s e) else keeps k t (span s e)) ≡ true
handler_back k t s e (Catch o) l = releases_back k t (record { kind = handler (Catch o); start = s; end = e }) (λ g. let z : ⊥ = cc in z) l (is_held (span s e) k) (is_held (span s e) t) refl refl
handler_back k t s e (Filter at) l = releases_back k t (record { kind = handler (Filter at); start = s; end = e }) (λ g. let z : ⊥ = cc in z) l (is_held (span s e) k) (is_held (span s e) t) refl refl
handler_back k t s e Finally l = keeps_back k t (record { kind = handler Finally; start = s; end = e }) (λ g. let z : ⊥ = cc in z) refl l
handler_back k t s e Fault l = keeps_back k t (record { kind = handler Fault; start = s; end = e }) (λ g. let z : ⊥ = cc in z) refl l

filters_let : (k t start : ℕ) (x : ClauseKind) → filter_all (keeps k t) (filter_span start x) ≡ true → Every (Lets k t) (filter_blocks start x)
filters_let k t start (Filter at) h = (keeps_lets k t (record { kind = filter; start = at; end = start }) h, tt)
filters_let k t start (Catch o) h = tt
filters_let k t start Finally h = tt
filters_let k t start Fault h = tt

filters_back : (k t start : ℕ) (x : ClauseKind) → Every (Lets k t) (filter_blocks start x) → filter_all (keeps k t) (filter_span start x) ≡ true
filters_back k t start (Filter at) h = keeps_back k t (record { kind = filter; start = at; end = start }) (λ g. let z : ⊥ = cc in z) refl h.0
filters_back k t start (Catch o) h = refl
filters_back k t start Finally h = refl
filters_back k t start Fault h = refl

clause_lets : (k t : ℕ) (c : Clause) → clause_releases k t (spans_of c) ≡ true → Every (Lets k t) (blocks_of c)
clause_lets k t c h =
    let p = and_parts (opens k t (spans_of c).guarded && handler_releases k t (spans_of c)) (filter_all (keeps k t) (spans_of c).filter) h in
    let q = and_parts (opens k t (spans_of c).guarded) (handler_releases k t (spans_of c)) p.0 in (
      opens_by k t (try_block c) refl (is_held (spans_of c).guarded k) (is_held (spans_of c).guarded t) refl refl q.0,
      (handler_lets k t c.handler_start c.handler_end c.kind q.1, filters_let k t c.handler_start c.kind p.1),
    )

clause_back : (k t : ℕ) (c : Clause) → Every (Lets k t) (blocks_of c) → clause_releases k t (spans_of c) ≡ true
clause_back k t c h =
    and_from (opens k t (spans_of c).guarded && handler_releases k t (spans_of c)) (filter_all (keeps k t) (spans_of c).filter)
    (and_from (opens k t (spans_of c).guarded) (handler_releases k t (spans_of c))
    (opens_back k t (try_block c) h.0 (is_held (spans_of c).guarded k) (is_held (spans_of c).guarded t) refl refl)
    (handler_back k t c.handler_start c.handler_end c.kind h.1.0))
    (filters_back k t c.handler_start c.kind h.1.1)

pub leave_exact : (f : Frame) (spans : List Spans) (k t : ℕ) → spans ≡ map spans_of f.clauses → IsTrue (may_leave_test spans k t) ↔ MayLeave f k t
leave_exact f spans k t e =
    let cs = f.clauses in
    let over : may_leave_test spans k t ≡ list_all (λ (c : Clause). clause_releases k t (spans_of c)) cs =
    ap (λ (l : List Spans). may_leave_test l k t) e ∙ list_all-map (clause_releases k t) spans_of cs in (
      λ h.
          let every = every_flat (Lets k t) blocks_of cs
          (every_map (λ (c : Clause). clause_releases k t (spans_of c) ≡ true) (λ (c : Clause). Every (Lets k t) (blocks_of c)) cs (clause_lets k t)
          (all_to (λ (c : Clause). clause_releases k t (spans_of c)) cs (sym over ∙ h))) in
          record { out = λ b is. (from_every (Lets k t) (blocks cs) every b is).out; into = λ b is. (from_every (Lets k t) (blocks cs) every b is).into },
      λ m. over ∙ all_from (λ (c : Clause). clause_releases k t (spans_of c)) cs
          (every_map (λ (c : Clause). Every (Lets k t) (blocks_of c)) (λ (c : Clause). clause_releases k t (spans_of c) ≡ true) cs (clause_back k t)
          (every_of_flat (Lets k t) blocks_of cs (to_every (Lets k t) (blocks cs) (λ b is. record { out = m.out b is; into = m.into b is })))),
    )
