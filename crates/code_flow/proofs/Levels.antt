-- The tests of a level step tell whether it is one.
use Rattle.std.proofs.Common.{◌≡◌, ℕ, Bool, true, false, not, ◌||◌, List, map, refl, sym, ◌∙◌, ap}
use Rattle.std.specs.Prelude.{nat_eq, nat_lt, nat_le, if◌then◌else◌, IsTrue, ◌↔◌}
use Rattle.std.specs.List.{list_all}
use Rattle.std.proofs.lemmas.Bool.{and_parts, and_from, ltb-true, leb-true, lt-ltb, le-leb, eqb-true, eq-eqb, false_from_ne_true, both_ways}
use Rattle.std.proofs.lemmas.List.Folds.{list_all-map}
use Rattle.assembly_tree.specs.declared.body.Clause.{Clause}
use Rattle.assembly_tree.specs.declared.body.ClauseKind.{ClauseKind}
use Rattle.assembly_tree.specs.declared.body.ClauseKind.TheVariants.{Catch, Filter, Finally, Fault}
use Rattle.code_flow.specs.declared.blocks.Span.{Span}
use Rattle.code_flow.specs.declared.blocks.Spans.{Spans}
use Rattle.code_flow.specs.Blocks.{guarded, filter, Block, try_block, handler_block, filter_blocks, blocks_of, blocks, Holds, BeginsAt, IsLevel}
use Rattle.code_flow.specs.BlockTests.{span, spans_of, filter_span, filter_all, handling_all, is_held, keeps, admits, is_clause_level, is_level_test}
use Rattle.code_flow.proofs.Members.{Every, from_every, to_every, every_flat, every_of_flat, all_from, all_to, every_map}

-- ---- one block

-- a step is level as far as a block goes
pub record Passes (k t : ℕ) (b : Block) : Type 0 where
  pub stays : Holds b k → Holds b t
  pub enters : Holds b t → (Holds b k → ⊥) → BeginsAt b t

abbrev pub span_of : Block → Span
span_of b = span b.start b.end

pub held : (b : Block) (k : ℕ) → is_held (span_of b) k ≡ true → Holds b k
held b k h =
    let p = and_parts (nat_le b.start k) (nat_lt k b.end) h in
    record { from = leb-true b.start k p.0; to = ltb-true k b.end p.1 }

pub held_from : (b : Block) (k : ℕ) → Holds b k → is_held (span_of b) k ≡ true
held_from b k h = and_from (nat_le b.start k) (nat_lt k b.end) (le-leb b.start k h.from) (lt-ltb k b.end h.to)

pub not_held : (b : Block) (k : ℕ) → is_held (span_of b) k ≡ false → Holds b k → ⊥
not_held b k e h = both_ways (is_held (span_of b) k) e (held_from b k h)

pub not_held_from : (b : Block) (k : ℕ) → (Holds b k → ⊥) → is_held (span_of b) k ≡ false
not_held_from b k n = false_from_ne_true (is_held (span_of b) k) (λ e. n (held b k e))

-- by whether it holds the first instruction, and the second
keeps_passes : (k t : ℕ) (b : Block) (x y : Bool) → is_held (span_of b) k ≡ x → is_held (span_of b) t ≡ y → (if x then y else not y) ≡ true → Passes k t b
keeps_passes k t b true true e f h = record { stays = λ _. held b t f; enters = λ _ n. absurd (n (held b k e)) }
keeps_passes k t b true false e f h = absurd (let z : ⊥ = cc in z)
keeps_passes k t b false true e f h = absurd (let z : ⊥ = cc in z)
keeps_passes k t b false false e f h = record { stays = λ a. absurd (not_held b k e a); enters = λ a n. absurd (not_held b t f a) }

admits_passes : (k t : ℕ) (b : Block) → b.kind ≡ guarded → (x y : Bool) → is_held (span_of b) k ≡ x → is_held (span_of b) t ≡ y
    → (if x then y else (not y || nat_eq b.start t)) ≡ true → Passes k t b
admits_passes k t b g true true e f h = record { stays = λ _. held b t f; enters = λ _ n. absurd (n (held b k e)) }
admits_passes k t b g true false e f h = absurd (let z : ⊥ = cc in z)
admits_passes k t b g false true e f h = record { stays = λ a. absurd (not_held b k e a); enters = λ a n. record { is_try = g; begins = eqb-true b.start t h } }
admits_passes k t b g false false e f h = record { stays = λ a. absurd (not_held b k e a); enters = λ a n. absurd (not_held b t f a) }

passes_keeps : (k t : ℕ) (b : Block) → (b.kind ≡ guarded → ⊥) → Passes k t b → (x y : Bool) → is_held (span_of b) k ≡ x → is_held (span_of b) t ≡ y
    → (if x then y else not y) ≡ true
passes_keeps k t b g p true true e f = refl
passes_keeps k t b g p true false e f = absurd (not_held b t f (p.stays (held b k e)))
passes_keeps k t b g p false true e f = absurd (g (p.enters (held b t f) (not_held b k e)).is_try)
passes_keeps k t b g p false false e f = refl

passes_admits : (k t : ℕ) (b : Block) → Passes k t b → (x y : Bool) → is_held (span_of b) k ≡ x → is_held (span_of b) t ≡ y
    → (if x then y else (not y || nat_eq b.start t)) ≡ true
passes_admits k t b p true true e f = refl
passes_admits k t b p true false e f = absurd (not_held b t f (p.stays (held b k e)))
passes_admits k t b p false true e f = eq-eqb b.start t (p.enters (held b t f) (not_held b k e)).begins
passes_admits k t b p false false e f = refl

pub kept : (k t : ℕ) (b : Block) → keeps k t (span_of b) ≡ true → Passes k t b
kept k t b h = keeps_passes k t b (is_held (span_of b) k) (is_held (span_of b) t) refl refl h

pub kept_from : (k t : ℕ) (b : Block) → (b.kind ≡ guarded → ⊥) → Passes k t b → keeps k t (span_of b) ≡ true
kept_from k t b g p = passes_keeps k t b g p (is_held (span_of b) k) (is_held (span_of b) t) refl refl

admitted : (k t : ℕ) (b : Block) → b.kind ≡ guarded → admits k t (span_of b) ≡ true → Passes k t b
admitted k t b g h = admits_passes k t b g (is_held (span_of b) k) (is_held (span_of b) t) refl refl h

admitted_from : (k t : ℕ) (b : Block) → Passes k t b → admits k t (span_of b) ≡ true
admitted_from k t b p = passes_admits k t b p (is_held (span_of b) k) (is_held (span_of b) t) refl refl

-- ---- a clause

filters_pass : (k t start : ℕ) (x : ClauseKind) → filter_all (keeps k t) (filter_span start x) ≡ true → Every (Passes k t) (filter_blocks start x)
filters_pass k t start (Filter at) h = (kept k t (record { kind = filter; start = at; end = start }) h, tt)
filters_pass k t start (Catch o) h = tt
filters_pass k t start Finally h = tt
filters_pass k t start Fault h = tt

filters_pass_from : (k t start : ℕ) (x : ClauseKind) → Every (Passes k t) (filter_blocks start x) → filter_all (keeps k t) (filter_span start x) ≡ true
filters_pass_from k t start (Filter at) h = kept_from k t (record { kind = filter; start = at; end = start }) (λ e. let z : ⊥ = cc in z) h.0
filters_pass_from k t start (Catch o) h = refl
filters_pass_from k t start Finally h = refl
filters_pass_from k t start Fault h = refl

clause_passes : (k t : ℕ) (c : Clause) → is_clause_level k t (spans_of c) ≡ true → Every (Passes k t) (blocks_of c)
clause_passes k t c h =
    let p = and_parts (admits k t (spans_of c).guarded) (handling_all (keeps k t) (spans_of c)) h in
    let q = and_parts (keeps k t (spans_of c).handler) (filter_all (keeps k t) (spans_of c).filter) p.1 in
    (admitted k t (try_block c) refl p.0, (kept k t (handler_block c) q.0, filters_pass k t c.handler_start c.kind q.1))

clause_passes_from : (k t : ℕ) (c : Clause) → Every (Passes k t) (blocks_of c) → is_clause_level k t (spans_of c) ≡ true
clause_passes_from k t c h =
    and_from (admits k t (spans_of c).guarded) (handling_all (keeps k t) (spans_of c)) (admitted_from k t (try_block c) h.0)
    (and_from (keeps k t (spans_of c).handler) (filter_all (keeps k t) (spans_of c).filter)
    (kept_from k t (handler_block c) (λ e. let z : ⊥ = cc in z) h.1.0)
    (filters_pass_from k t c.handler_start c.kind h.1.1))

-- ---- all clauses

level : (cs : List Clause) (k t : ℕ) → Every (Passes k t) (blocks cs) → IsLevel cs k t
level cs k t h = record {
  stays = λ b is. (from_every (Passes k t) (blocks cs) h b is).stays;
  enters = λ b is. (from_every (Passes k t) (blocks cs) h b is).enters;
}

level_from : (cs : List Clause) (k t : ℕ) → IsLevel cs k t → Every (Passes k t) (blocks cs)
level_from cs k t h = to_every (Passes k t) (blocks cs) (λ b is. record { stays = h.stays b is; enters = h.enters b is })

pub level_exact : (cs : List Clause) (spans : List Spans) (k t : ℕ) → spans ≡ map spans_of cs → IsTrue (is_level_test spans k t) ↔ IsLevel cs k t
level_exact cs spans k t e =
    let over : is_level_test spans k t ≡ list_all (λ (c : Clause). is_clause_level k t (spans_of c)) cs =
    ap (λ (l : List Spans). is_level_test l k t) e ∙ list_all-map (is_clause_level k t) spans_of cs in (
      λ h. level cs k t (every_flat (Passes k t) blocks_of cs
          (every_map (λ (c : Clause). is_clause_level k t (spans_of c) ≡ true) (λ (c : Clause). Every (Passes k t) (blocks_of c)) cs (clause_passes k t)
          (all_to (λ (c : Clause). is_clause_level k t (spans_of c)) cs (sym over ∙ h)))),
      λ l. over ∙ all_from (λ (c : Clause). is_clause_level k t (spans_of c)) cs
          (every_map (λ (c : Clause). Every (Passes k t) (blocks_of c)) (λ (c : Clause). is_clause_level k t (spans_of c) ≡ true) cs (clause_passes_from k t)
          (every_of_flat (Passes k t) blocks_of cs (level_from cs k t l))),
    )
