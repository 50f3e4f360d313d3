-- Tests of an instruction ask only the clauses near it.
use Rattle.std.proofs.Common.{◌≡◌, refl, ◌∙◌, ap, ℕ, ◌+◌, Bool, true, false, ◌&&◌, ◌||◌, List, Option, None, Some, if◌then◌else◌}
use Rattle.std.specs.Prelude.{not, nat_eq}
use Rattle.std.specs.List.{list_any}
use Rattle.code_flow.specs.declared.blocks.Span.{Span}
use Rattle.code_flow.specs.declared.blocks.Spans.{Spans}
use Rattle.code_flow.specs.declared.clauses.Region.{Region}
use Rattle.code_flow.specs.BlockTests.{is_held, admits, keeps, is_within, filter_all, filter_any, handling_all, blocks_all, is_clause_level, is_level_test}
use Rattle.code_flow.specs.CodeTests.{has_inside, is_inside}
use Rattle.code_flow.specs.GoingTests.{is_finally, goes_through, guards_from, is_ended}
use Rattle.code_flow.specs.PlaceTests.{catches, opens, releases, handler_releases, clause_releases, may_leave_test, encloses, is_innermost_range, is_innermost_handling, rethrows_in, may_rethrow_test, ends_finally_in, may_end_finally_test, is_last_of, ends_filter_in, may_end_filter_test}
use Rattle.code_flow.specs.Regions.{IsAway, AreNear, guards_among}
use Rattle.code_flow.proofs.RegionLemmas.{all_near, all_near_one, any_near, through_near, guards_near}

-- ---- a clause that is away

record Parts (k : ℕ) (s : Spans) : Type 0 where
  tries : is_held s.guarded k ≡ false
  handler : is_held s.handler k ≡ false
  filter : filter_any (λ (b : Span). is_held b k) s.filter ≡ false

left : (a b : Bool) → (a || b) ≡ false → a ≡ false
left false b e = refl
left true b e = e

right : (a b : Bool) → (a || b) ≡ false → b ≡ false
right false b e = e
right true b e = absurd (let f : ⊥ = cc in f)

parts : (k : ℕ) (s : Spans) → IsAway k s → Parts k s
parts k s h =
    let more = right (is_held s.guarded k) _ h in
    record { tries = left (is_held s.guarded k) _ h; handler = left (is_held s.handler k) _ more; filter = right (is_held s.handler k) _ more }

both_true : (a b : Bool) → a ≡ true → b ≡ true → (a && b) ≡ true
both_true true b e f = f
both_true false b e f = e

no_second : (a b c : Bool) → b ≡ false → (a && (b && c)) ≡ false
no_second false b c e = refl
no_second true false c e = refl
no_second true true c e = absurd (let f : ⊥ = cc in f)

keeps_away : (k t : ℕ) (s : Span) → is_held s k ≡ false → is_held s t ≡ false → keeps k t s ≡ true
keeps_away k t s e f = λ i. if e i then is_held s t else not (f i)

admits_away : (k t : ℕ) (s : Span) → is_held s k ≡ false → is_held s t ≡ false → admits k t s ≡ true
admits_away k t s e f = λ i. if e i then is_held s t else (not (f i) || nat_eq s.start t)

opens_away : (k t : ℕ) (s : Span) → is_held s k ≡ false → is_held s t ≡ false → opens k t s ≡ true
opens_away k t s e f = λ i. (e i || not (f i)) || nat_eq s.start t

releases_away : (k t : ℕ) (s : Span) → is_held s k ≡ false → is_held s t ≡ false → releases k t s ≡ true
releases_away k t s e f = λ i. e i || not (f i)

encloses_away : (k : ℕ) (s other : Span) → is_held other k ≡ false → encloses k s other ≡ true
encloses_away k s other e = λ i. not (e i) || is_within other s

filter_keeps : (k t : ℕ) (f : Option Span) → filter_any (λ (b : Span). is_held b k) f ≡ false → filter_any (λ (b : Span). is_held b t) f ≡ false → filter_all (keeps k t) f ≡ true
filter_keeps k t None e f = refl
filter_keeps k t (Some s) e f = keeps_away k t s e f

filter_encloses : (k : ℕ) (s : Span) (f : Option Span) → filter_any (λ (b : Span). is_held b k) f ≡ false → filter_all (encloses k s) f ≡ true
filter_encloses k s None e = refl
filter_encloses k s (Some t) e = encloses_away k s t e

-- ---- tests of all

level_away : (k t : ℕ) (s : Spans) → IsAway k s → IsAway t s → is_clause_level k t s ≡ true
level_away k t s h g =
    let p = parts k s h in
    let q = parts t s g in
    both_true (admits k t s.guarded) _ (admits_away k t s.guarded p.tries q.tries) (both_true (keeps k t s.handler) _ (keeps_away k t s.handler p.handler q.handler) (filter_keeps k t s.filter p.filter q.filter))

either : (b : Bool) (x y : Bool) → x ≡ true → y ≡ true → (if b then x else y) ≡ true
either true x y e f = e
either false x y e f = f

release_away : (k t : ℕ) (s : Spans) → IsAway k s → IsAway t s → clause_releases k t s ≡ true
release_away k t s h g =
    let p = parts k s h in
    let q = parts t s g in
    both_true (opens k t s.guarded && handler_releases k t s) (filter_all (keeps k t) s.filter) (both_true (opens k t s.guarded) (handler_releases k t s) (opens_away k t s.guarded p.tries q.tries)
    (either (catches s.handling) (releases k t s.handler) (keeps k t s.handler) (releases_away k t s.handler p.handler q.handler) (keeps_away k t s.handler p.handler q.handler))) (filter_keeps k t s.filter p.filter q.filter)

handling_away : (k : ℕ) (range : Span) (s : Spans) → IsAway k s → handling_all (encloses k range) s ≡ true
handling_away k range s h =
    let p = parts k s h in
    both_true (encloses k range s.handler) _ (encloses_away k range s.handler p.handler) (filter_encloses k range s.filter p.filter)

blocks_away : (k : ℕ) (range : Span) (s : Spans) → IsAway k s → blocks_all (encloses k range) s ≡ true
blocks_away k range s h = both_true (encloses k range s.guarded) _ (encloses_away k range s.guarded (parts k s h).tries) (handling_away k range s h)

module _ (k t : ℕ) (clauses : List Spans) (r q : Region) (h : AreNear k clauses r) (g : AreNear t clauses q) where
  pub level_near : (is_level_test r.spans k t && is_level_test q.spans k t) ≡ is_level_test clauses k t
  level_near = (λ i. is_level_test (h.spans i) k t && is_level_test (g.spans i) k t) ∙ all_near (is_clause_level k t) k t (level_away k t) h.picks g.picks

  pub release_near : (may_leave_test r.spans k t && may_leave_test q.spans k t) ≡ may_leave_test clauses k t
  release_near = (λ i. may_leave_test (h.spans i) k t && may_leave_test (g.spans i) k t) ∙ all_near (clause_releases k t) k t (release_away k t) h.picks g.picks

module _ (k : ℕ) (clauses : List Spans) (r : Region) (h : AreNear k clauses r) where
  pub innermost_near : (range : Span) → is_innermost_range r.spans k range ≡ is_innermost_range clauses k range
  innermost_near range = ap (λ l. is_innermost_range l k range) h.spans ∙ ap (λ b. is_held range k && b) (all_near_one (blocks_all (encloses k range)) k (blocks_away k range) h.picks)

  handling_near : (range : Span) → is_innermost_handling r.spans k range ≡ is_innermost_handling clauses k range
  handling_near range = ap (λ l. is_innermost_handling l k range) h.spans ∙ ap (λ b. is_held range k && b) (all_near_one (handling_all (encloses k range)) k (handling_away k range) h.picks)

  -- whether one passes a test that is the same by those that are near
  any_same : (f g : Spans → Bool) → ((s : Spans) → f s ≡ g s) → ((s : Spans) → IsAway k s → g s ≡ false) → list_any f r.spans ≡ list_any g clauses
  any_same f g e n = ap (λ (test : Spans → Bool). list_any test r.spans) (λ i s. e s i) ∙ ap (list_any g) h.spans ∙ any_near g k n h.picks

  pub inside_near : is_inside r.spans k ≡ is_inside clauses k
  inside_near = any_same (has_inside k) (has_inside k) (λ s. refl) (λ s a. a)

  pub rethrow_near : may_rethrow_test r.spans k ≡ may_rethrow_test clauses k
  rethrow_near = any_same (rethrows_in r.spans k) (rethrows_in clauses k) (λ s. ap (λ b. catches s.handling && b) (handling_near s.handler))
      (λ s a. no_second (catches s.handling) (is_held s.handler k) _ (parts k s a).handler)

  pub end_finally_near : may_end_finally_test r.spans k ≡ may_end_finally_test clauses k
  end_finally_near = any_same (ends_finally_in r.spans k) (ends_finally_in clauses k) (λ s. ap (λ b. not (catches s.handling) && b) (innermost_near s.handler))
      (λ s a. no_second (not (catches s.handling)) (is_held s.handler k) _ (parts k s a).handler)

  filter_same : (f : Option Span) → filter_any (is_last_of r.spans k) f ≡ filter_any (is_last_of clauses k) f
  filter_same None = refl
  filter_same (Some s) = ap (λ b. nat_eq s.end (k + 1) && b) (innermost_near s)

  no_filter : (f : Option Span) → filter_any (λ (b : Span). is_held b k) f ≡ false → filter_any (is_last_of clauses k) f ≡ false
  no_filter None e = refl
  no_filter (Some s) e = no_second _ (is_held s k) _ e

  pub end_filter_near : may_end_filter_test r.spans k ≡ may_end_filter_test clauses k
  end_filter_near = any_same (ends_filter_in r.spans k) (ends_filter_in clauses k) (λ s. filter_same s.filter) (λ s a. no_filter s.filter (parts k s a).filter)

  pub through_by : (t : ℕ) → goes_through k t r.spans ≡ goes_through k t clauses
  through_by t = ap (goes_through k t) h.spans ∙ through_near k t h.picks

  pub guards_by : guards_among k r.placed ≡ guards_from k 0 clauses
  guards_by = guards_near k h.picks

  -- a clause that is away isn't ended
  pub away_unended : (s : Spans) → IsAway k s → is_ended clauses k s ≡ false
  away_unended s a = no_second (is_finally s.handling) (is_held s.handler k) _ (parts k s a).handler
