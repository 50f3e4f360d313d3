-- The clauses near an instruction tell as much of it as all.
use Rattle.std.proofs.Common.{◌≡◌, ◌⊎◌, inl, inr, refl, sym, ◌∙◌, ap, subst, ℕ, zero, suc, ◌+◌, ◌-◌, ◌*◌, ◌<◌, ◌≤◌, max, min, arith, Bool, true, false, ◌&&◌, ◌||◌, List, [], ◌∷◌, ◌++◌, length, map, get_or, if◌then◌else◌}
use Rattle.std.specs.Prelude.{◌/◌, not, nat_le, nat_lt, slice_get, slice_set, drop, Option, None, Some}
use Rattle.std.specs.List.{list_all, list_any}
use Rattle.std.proofs.Math.Nat.{mul-div-le}
use Rattle.std.proofs.lemmas.Bool.{and_parts, and_from, or_cases, cases_Bool, cases_lt, leb-true, le-leb, ltb-true}
use Rattle.std.proofs.lemmas.Nat.{le-div}
use Rattle.std.proofs.lemmas.List.{map-append}
use Rattle.code_flow.specs.declared.blocks.Span.{Span}
use Rattle.code_flow.specs.declared.blocks.Spans.{Spans}
use Rattle.code_flow.specs.declared.clauses.Placed.{Placed}
use Rattle.code_flow.specs.declared.clauses.Region.{Region}
use Rattle.code_flow.specs.BlockTests.{is_held, filter_all, filter_any, handling_all, handling_any, blocks_all, blocks_any, are_apart, lie_in, is_handling_apart, is_all_apart, has_same_try, is_nested}
use Rattle.code_flow.specs.CodeTests.{has_inside}
use Rattle.code_flow.specs.GoingTests.{guarded_by, guards_from, handled, is_finally, is_crossed, goes_through}
use Rattle.code_flow.specs.Regions.{Picks, none_left, picked, passed, placed_at, IsAway, IsIdle, AreLowest, AreNear, EndBy, IsRegion, StartFrom, ends_by, starts_from, HaveRegions, no_region, with_placed, AddsClause, AddsTo, GrowsTo, guards_among}

abbrev spans_in : List Placed → List Spans
spans_in ps = map (λ (p : Placed). p.spans) ps

-- ---- picking

pub picks_map : {I J : Spans → Type 0} → ((s : Spans) → I s → J s) → {n : ℕ} {ss : List Spans} {ps : List Placed} → Picks I n ss ps → Picks J n ss ps
picks_map f none_left = none_left
picks_map f (picked p) = picked (picks_map f p)
picks_map f (passed i p) = passed (f _ i) (picks_map f p)

add_zero : (n : ℕ) → n + 0 ≡ n
add_zero n = omega arith

add_one : (n m : ℕ) → n + 1 + m ≡ n + suc m
add_one n m = omega arith

-- one clause more, picked
pub picks_end : {I : Spans → Type 0} {n : ℕ} {ss : List Spans} {ps : List Placed} (s : Spans) → Picks I n ss ps → Picks I n (ss ++ s ∷ []) (ps ++ placed_at (n + length ss) s ∷ [])
picks_end {I} {n} s none_left = subst (λ (m : ℕ). Picks I n (s ∷ []) (placed_at m s ∷ [])) (sym (add_zero n)) (picked none_left)
picks_end {I} {n} s (picked {s = t} {ss = ss} {ps = ps} p) =
    subst (λ (m : ℕ). Picks I n (t ∷ (ss ++ s ∷ [])) (placed_at n t ∷ (ps ++ placed_at m s ∷ []))) (add_one n (length ss)) (picked (picks_end s p))
picks_end {I} {n} s (passed {s = t} {ss = ss} {ps = ps} i p) =
    subst (λ (m : ℕ). Picks I n (t ∷ (ss ++ s ∷ [])) (ps ++ placed_at m s ∷ [])) (add_one n (length ss)) (passed i (picks_end s p))

-- one clause more, passed
pub passes_end : {I : Spans → Type 0} {n : ℕ} {ss : List Spans} {ps : List Placed} (s : Spans) → I s → Picks I n ss ps → Picks I n (ss ++ s ∷ []) ps
passes_end s j none_left = passed j none_left
passes_end s j (picked p) = picked (passes_end s j p)
passes_end s j (passed i p) = passed i (passes_end s j p)

-- ---- building

pub no_clauses : (r : List Region) → r ≡ [] → HaveRegions [] r
no_clauses r e k = subst (λ (l : List Region). IsRegion k [] (get_or l k no_region)) (sym e) (record { picks = none_left; spans = refl })

plus_none : (n : ℕ) → 0 + n ≡ n
plus_none n = omega arith

with_region : (k : ℕ) (ss : List Spans) (s : Spans) (r : Region) → IsRegion k ss r → IsRegion k (ss ++ s ∷ []) (with_placed r (length ss) s)
with_region k ss s r h = record {
  picks = subst (λ (m : ℕ). Picks (IsIdle k) 0 (ss ++ s ∷ []) (r.placed ++ placed_at m s ∷ [])) (plus_none (length ss)) (picks_end s h.picks);
  spans = ap (λ l. l ++ s ∷ []) h.spans ∙ sym (map-append (λ (p : Placed). p.spans) r.placed (placed_at (length ss) s ∷ []));
}

pub regions_more : (ss : List Spans) (s : Spans) (old new : List Region) → HaveRegions ss old → AddsClause (length ss) s old new → HaveRegions (ss ++ s ∷ []) new
regions_more ss s old new h a k = elim (a k) [
  | inl e ↦ subst (λ (r : Region). IsRegion k (ss ++ s ∷ []) r) (sym e) (with_region k ss s (get_or old k no_region) (h k))
  | inr e ↦ subst (λ (r : Region). IsRegion k (ss ++ s ∷ []) r) (sym e.0) (let g = h k in record { picks = passes_end s e.1 g.picks; spans = g.spans })
]

-- ---- what needs no look at a clause that is away

away_tries : (k : ℕ) (s : Spans) → IsAway k s → is_held s.guarded k ≡ false
away_tries k s h = first (is_held s.guarded k) _ h
  where
    first : (a b : Bool) → (a || b) ≡ false → a ≡ false
    first false b e = refl
    first true b e = e

pub guards_near : (k : ℕ) {n : ℕ} {ss : List Spans} {ps : List Placed} → Picks (IsAway k) n ss ps → guards_among k ps ≡ guards_from k n ss
guards_near k none_left = refl
guards_near k {n} (picked {s = s} p) = ap (λ l. guarded_by k n s ++ l) (guards_near k p)
guards_near k {n} (passed {s = s} {ss = ss} i p) =
    let e : guarded_by k n s ≡ [] = ap (λ (b : Bool). if b then handled n s else []) (away_tries k s i) in
    guards_near k p ∙ ap (λ l. l ++ guards_from k (n + 1) ss) (sym e)

pub away_uncrossed : (l t : ℕ) (s : Spans) → IsAway l s → is_crossed l t s ≡ false
away_uncrossed l t s h = middle (is_finally s.handling) (is_held s.guarded l) (not (is_held s.guarded t)) (away_tries l s h)
  where
    middle : (a b c : Bool) → b ≡ false → (a && b && c) ≡ false
    middle false b c e = refl
    middle true false c e = refl
    middle true true c e = absurd (let f : ⊥ = cc in f)

pub through_near : (l t : ℕ) {n : ℕ} {ss : List Spans} {ps : List Placed} → Picks (IsAway l) n ss ps → goes_through l t (spans_in ps) ≡ goes_through l t ss
through_near l t none_left = refl
through_near l t (picked {s = s} p) = ap (λ (z : ℕ). if is_crossed l t s then s.handler.start else z) (through_near l t p)
through_near l t (passed {s = s} {ss = ss} i p) = through_near l t p ∙ sym (ap (λ (b : Bool). if b then s.handler.start else goes_through l t ss) (away_uncrossed l t s i))

-- a test of all that asks nothing of a clause that is away from both instructions
pub all_near : (test : Spans → Bool) (k t : ℕ) → ((s : Spans) → IsAway k s → IsAway t s → test s ≡ true) → {n : ℕ} {ss : List Spans} {ps qs : List Placed}
    → Picks (IsAway k) n ss ps → Picks (IsAway t) n ss qs → (list_all test (spans_in ps) && list_all test (spans_in qs)) ≡ list_all test ss
all_near test k t f none_left none_left = refl
all_near test k t f (picked {s = s} p) (picked q) = both (test s) (list_all test (spans_in _)) (list_all test (spans_in _)) ∙ ap (λ b. test s && b) (all_near test k t f p q)
  where
    both : (a b c : Bool) → ((a && b) && (a && c)) ≡ (a && (b && c))
    both true b c = refl
    both false b c = refl
all_near test k t f (picked {s = s} p) (passed i q) = left (test s) (list_all test (spans_in _)) (list_all test (spans_in _)) ∙ ap (λ b. test s && b) (all_near test k t f p q)
  where
    left : (a b c : Bool) → ((a && b) && c) ≡ (a && (b && c))
    left true b c = refl
    left false b c = refl
all_near test k t f (passed i p) (picked {s = s} q) = right (test s) (list_all test (spans_in _)) (list_all test (spans_in _)) ∙ ap (λ b. test s && b) (all_near test k t f p q)
  where
    right : (a b c : Bool) → (b && (a && c)) ≡ (a && (b && c))
    right true b c = refl
    right false true c = refl
    right false false c = refl
all_near test k t f (passed {s = s} {ss = ss} i p) (passed j q) = all_near test k t f p q ∙ ap (λ b. b && list_all test ss) (sym (f s i j))

-- a test of one instruction
pub all_near_one : (test : Spans → Bool) (k : ℕ) → ((s : Spans) → IsAway k s → test s ≡ true) → {n : ℕ} {ss : List Spans} {ps : List Placed} → Picks (IsAway k) n ss ps → list_all test (spans_in ps) ≡ list_all test ss
all_near_one test k f none_left = refl
all_near_one test k f (picked {s = s} p) = ap (λ b. test s && b) (all_near_one test k f p)
all_near_one test k f (passed {s = s} {ss = ss} i p) = all_near_one test k f p ∙ ap (λ b. b && list_all test ss) (sym (f s i))

-- whether there is one
pub any_near : (test : Spans → Bool) (k : ℕ) → ((s : Spans) → IsAway k s → test s ≡ false) → {n : ℕ} {ss : List Spans} {ps : List Placed} → Picks (IsAway k) n ss ps → list_any test (spans_in ps) ≡ list_any test ss
any_near test k f none_left = refl
any_near test k f (picked {s = s} p) = ap (λ b. test s || b) (any_near test k f p)
any_near test k f (passed {s = s} {ss = ss} i p) = any_near test k f p ∙ ap (λ b. b || list_any test ss) (sym (f s i))

-- ---- where blocks begin and end

held_from : (n k : ℕ) (b : Span) → starts_from n b ≡ true → is_held b k ≡ true → n ≤ k
held_from n k b h e =
    let p = and_parts (nat_le b.start k) (nat_lt k b.end) e in
    let low = leb-true n b.start h in
    let high = leb-true b.start k p.0 in
    omega arith

held_by : (n k : ℕ) (b : Span) → ends_by n b ≡ true → is_held b k ≡ true → k < n
held_by n k b h e =
    let p = and_parts (nat_le b.start k) (nat_lt k b.end) e in
    let low = leb-true b.end n h in
    let high = ltb-true k b.end p.1 in
    omega arith

-- what each block says that holds an instruction
module _ (k : ℕ) (P : Span → Bool) (C : Type 0) (f : (b : Span) → P b ≡ true → is_held b k ≡ true → C) where
  in_filter : (o : Option Span) → filter_all P o ≡ true → filter_any (λ (b : Span). is_held b k) o ≡ true → C
  in_filter None h e = absurd (let g : ⊥ = cc in g)
  in_filter (Some b) h e = f b h e

  in_block : (s : Spans) → blocks_all P s ≡ true → has_inside k s ≡ true → C
  in_block s h e =
      let p = and_parts (P s.guarded) (handling_all P s) h in
      let q = and_parts (P s.handler) (filter_all P s.filter) p.1 in
      elim (or_cases (is_held s.guarded k) _ e) [
        | inl a ↦ f s.guarded p.0 a
        | inr b ↦ elim (or_cases (is_held s.handler k) _ b) [
          | inl a ↦ f s.handler q.0 a
          | inr c ↦ in_filter s.filter q.1 c
        ]
      ]

away_unless : (k : ℕ) (s : Spans) → (has_inside k s ≡ true → ⊥) → IsAway k s
away_unless k s n = elim (cases_Bool (has_inside k s)) [ inl e ↦ absurd (n e) | inr e ↦ e ]

filter_weak : (P Q : Span → Bool) → ((b : Span) → P b ≡ true → Q b ≡ true) → (o : Option Span) → filter_all P o ≡ true → filter_all Q o ≡ true
filter_weak P Q f None e = refl
filter_weak P Q f (Some b) e = f b e

handling_weak : (P Q : Span → Bool) → ((b : Span) → P b ≡ true → Q b ≡ true) → (s : Spans) → handling_all P s ≡ true → handling_all Q s ≡ true
handling_weak P Q f s h =
    let p = and_parts (P s.handler) (filter_all P s.filter) h in
    and_from (Q s.handler) (filter_all Q s.filter) (f s.handler p.0) (filter_weak P Q f s.filter p.1)

blocks_weak : (P Q : Span → Bool) → ((b : Span) → P b ≡ true → Q b ≡ true) → (s : Spans) → blocks_all P s ≡ true → blocks_all Q s ≡ true
blocks_weak P Q f s h =
    let p = and_parts (P s.guarded) (handling_all P s) h in
    and_from (Q s.guarded) (handling_all Q s) (f s.guarded p.0) (handling_weak P Q f s p.1)

region_low : (k : ℕ) → 16 * (k / 16) ≤ k
region_low k = mul-div-le k 16

region_high : (k : ℕ) → k < 16 * (k / 16) + 16
region_high k = elim (cases_lt k (16 * (k / 16) + 16)) [
  | inl h ↦ h
  | inr h ↦ let more : k / 16 + 1 ≤ k / 16 = le-div (k / 16 + 1) k 16 (omega arith) (omega arith) in absurd (omega arith)
]

-- a block that doesn't reach a region
abbrev beyond : ℕ → Span → Bool
beyond r b = nat_le (16 * r + 16) b.start || nat_le b.end (16 * r)

held_beyond : (r k : ℕ) (b : Span) → 16 * r ≤ k → k < 16 * r + 16 → beyond r b ≡ true → is_held b k ≡ true → ⊥
held_beyond r k b low high h e =
    let p = and_parts (nat_le b.start k) (nat_lt k b.end) e in
    let from = leb-true b.start k p.0 in
    let to = ltb-true k b.end p.1 in
    elim (or_cases (nat_le (16 * r + 16) b.start) (nat_le b.end (16 * r)) h) [
      | inl a ↦ let x = leb-true (16 * r + 16) b.start a in omega arith
      | inr a ↦ let x = leb-true b.end (16 * r) a in omega arith
    ]

idle_if : (r : ℕ) (s : Spans) → beyond r s.guarded ≡ true → handling_all (beyond r) s ≡ true → IsIdle r s
idle_if r s g h k low high = away_unless k s (λ e. in_block k (beyond r) ⊥ (λ b p q. held_beyond r k b low high p q) s (and_from (beyond r s.guarded) (handling_all (beyond r) s) g h) e)

or_second : (a b : Bool) → b ≡ true → (a || b) ≡ true
or_second true b e = refl
or_second false b e = e

starts_beyond : (r n : ℕ) (b : Span) → r < n / 16 → n ≤ b.start → beyond r b ≡ true
starts_beyond r n b h l =
    let low = mul-div-le n 16 in
    let most : 16 * r + 16 ≤ b.start = omega arith in
    ap (λ z. z || nat_le b.end (16 * r)) (le-leb (16 * r + 16) b.start most)

ends_beyond : (r n : ℕ) (b : Span) → n / 16 + 1 ≤ r → b.end ≤ n → beyond r b ≡ true
ends_beyond r n b h l =
    let high = region_high n in
    or_second (nat_le (16 * r + 16) b.start) (nat_le b.end (16 * r)) (le-leb b.end (16 * r) (omega arith))

-- the regions of the try, from `f` to `e`, of handler and filter, from `g` to `d`
module _ (s : Spans) (f e g d n m : ℕ) (first : f ≡ s.guarded.start / 16) (end : s.guarded.end / 16 + 1 ≤ e) (from : handling_all (starts_from n) s ≡ true) (to : handling_all (ends_by m) s ≡ true)
    (begins : g ≡ n / 16) (ends : m / 16 + 1 ≤ d) where
  try_beyond : (r : ℕ) → ((r < f) ⊎ (e ≤ r)) → beyond r s.guarded ≡ true
  try_beyond r (inl h) = starts_beyond r s.guarded.start s.guarded (omega arith) (omega arith)
  try_beyond r (inr h) = ends_beyond r s.guarded.end s.guarded (omega arith) (omega arith)

  handling_beyond : (r : ℕ) → ((r < g) ⊎ (d ≤ r)) → handling_all (beyond r) s ≡ true
  handling_beyond r (inl h) = handling_weak (starts_from n) (beyond r) (λ b p. starts_beyond r n b (omega arith) (leb-true n b.start p)) s from
  handling_beyond r (inr h) = handling_weak (ends_by m) (beyond r) (λ b p. ends_beyond r m b (omega arith) (leb-true b.end m p)) s to

  pub adds_blocks : (place count before behind : ℕ) (old grown a b new : List Region) → GrowsTo count old grown → AddsTo f e place s grown a → AddsTo g before place s a b → AddsTo behind d place s b new
      → f ≤ e → g ≤ d → before ≡ max g (min d f) → behind ≡ min d (max g e) → AddsClause place s old new
  adds_blocks place count before behind old grown a b new grows x y z fe gd eb ed r = elim (cases_lt r f) [
    | inl low ↦ elim (cases_lt r g) [
      | inl lower ↦ inr (z.outside r (inl (omega arith)) ∙ y.outside r (inl lower) ∙ x.outside r (inl low) ∙ grows.same r, idle_if r s (try_beyond r (inl low)) (handling_beyond r (inl lower)))
      | inr since ↦ elim (cases_lt r d) [
        | inl inside ↦ inl (z.outside r (inl (omega arith)) ∙ y.inside r since (omega arith) ∙ ap (λ q. with_placed q place s) (x.outside r (inl low) ∙ grows.same r))
        | inr past ↦ inr (z.outside r (inr past) ∙ y.outside r (inr (omega arith)) ∙ x.outside r (inl low) ∙ grows.same r, idle_if r s (try_beyond r (inl low)) (handling_beyond r (inr past)))
      ]
    ]
    | inr since ↦ elim (cases_lt r e) [
      | inl inside ↦ inl (z.outside r (outside_behind inside) ∙ y.outside r (outside_before since) ∙ x.inside r since inside ∙ ap (λ q. with_placed q place s) (grows.same r))
      | inr past ↦ elim (cases_lt r g) [
        | inl lower ↦ inr (z.outside r (inl (omega arith)) ∙ y.outside r (inl lower) ∙ x.outside r (inr past) ∙ grows.same r, idle_if r s (try_beyond r (inr past)) (handling_beyond r (inl lower)))
        | inr later ↦ elim (cases_lt r d) [
          | inl within ↦ inl (z.inside r (omega arith) within ∙ ap (λ q. with_placed q place s) (y.outside r (inr (omega arith)) ∙ x.outside r (inr past) ∙ grows.same r))
          | inr over ↦ inr (z.outside r (inr over) ∙ y.outside r (inr (omega arith)) ∙ x.outside r (inr past) ∙ grows.same r, idle_if r s (try_beyond r (inr past)) (handling_beyond r (inr over)))
        ]
      ]
    ]
  ]
    where
      outside_behind : r < e → (r < behind) ⊎ (d ≤ r)
      outside_behind h = elim (cases_lt r d) [ inl i ↦ inl (omega arith) | inr o ↦ inr o ]

      outside_before : f ≤ r → (r < g) ⊎ (before ≤ r)
      outside_before h = elim (cases_lt r g) [ inl i ↦ inl i | inr o ↦ inr (omega arith) ]

-- ---- clauses that lie behind each other

apart_if : (e low : ℕ) (a b : Span) → e ≤ low → ends_by e a ≡ true → starts_from low b ≡ true → are_apart a b ≡ true
apart_if e low a b h p q =
    let x = leb-true a.end e p in
    let y = leb-true low b.start q in
    ap (λ z. z || nat_le b.end a.start) (le-leb a.end b.start (omega arith))

-- one that begins where another has ended nests with it
pub nested_behind : (e low : ℕ) (c d : Spans) → e ≤ low → EndBy e c → StartFrom low d → is_nested c d ≡ true
nested_behind e low c d h p q = nests (has_same_try c d)
  where
    blocks : (a : Span) → ends_by e a ≡ true → blocks_all (are_apart a) d ≡ true
    blocks a f = blocks_weak (starts_from low) (are_apart a) (λ b g. apart_if e low a b h f g) d q

    handling : (a : Span) → ends_by e a ≡ true → handling_all (are_apart a) d ≡ true
    handling a f = (and_parts (are_apart a d.guarded) (handling_all (are_apart a) d) (blocks a f)).1

    all : is_all_apart c d ≡ true
    all = blocks_weak (ends_by e) (λ a. blocks_all (are_apart a) d) blocks c p

    some : is_handling_apart c d ≡ true
    some = handling_weak (ends_by e) (λ a. handling_all (are_apart a) d) handling c (and_parts (ends_by e c.guarded) (handling_all (ends_by e) c) p).1

    nests : (b : Bool) → (if b then is_handling_apart c d else (is_all_apart c d || blocks_any (lie_in c) d || handling_any (lie_in d) c)) ≡ true
    nests true = some
    nests false = ap (λ z. z || blocks_any (lie_in c) d || handling_any (lie_in d) c) all

all_true : {X : Type 0} (test : X → Bool) (xs : List X) → ((j : ℕ) (x : X) → slice_get xs j ≡ Some x → test x ≡ true) → list_all test xs ≡ true
all_true test [] h = refl
all_true test (x ∷ xs) h = and_from (test x) (list_all test xs) (h 0 x refl) (all_true test xs (λ j y e. h (suc j) y e))

at_drop : {X : Type 0} (k j : ℕ) (xs : List X) (x : X) → slice_get (drop k xs) j ≡ Some x → slice_get xs (k + j) ≡ Some x
at_drop zero j xs x e = ap (λ n. slice_get xs n) (zero_plus j) ∙ e
  where
    zero_plus : (n : ℕ) → 0 + n ≡ n
    zero_plus n = omega arith
at_drop (suc k) j [] x e = absurd (let g : ⊥ = cc in g)
at_drop (suc k) j (y ∷ xs) x e = ap (λ n. slice_get (y ∷ xs) n) (plus k j) ∙ at_drop k j xs x e
  where
    plus : (k j : ℕ) → suc k + j ≡ suc (k + j)
    plus k j = omega arith

pub nests_all_behind : (all behind : List Spans) (lowest : List ℕ) (k e low : ℕ) (c : Spans) → AreLowest all lowest → slice_get lowest k ≡ Some low → EndBy e c → e ≤ low → behind ≡ drop k all → list_all (is_nested c) behind ≡ true
nests_all_behind all behind lowest k e low c a f p h b =
    ap (list_all (is_nested c)) b ∙ all_true (is_nested c) (drop k all) (λ j d g. nested_behind e low c d h p (a k low (k + j) d f (omega arith) (at_drop k j all d g)))

-- ---- reading

region_near : (k : ℕ) (clauses : List Spans) (r : Region) → IsRegion (k / 16) clauses r → AreNear k clauses r
region_near k clauses r h = record { picks = picks_map (λ s i. i k (region_low k) (region_high k)) h.picks; spans = h.spans }

got : (rs : List Region) (n : ℕ) (r : Region) → slice_get rs n ≡ Some r → get_or rs n no_region ≡ r
got [] n r e = absurd (let g : ⊥ = cc in g)
got (x ∷ rs) zero r e = cc
got (x ∷ rs) (suc n) r e = got rs n r e

not_got : (rs : List Region) (n : ℕ) → slice_get rs n ≡ None → get_or rs n no_region ≡ no_region
not_got [] n e = refl
not_got (x ∷ rs) zero e = absurd (let g : ⊥ = cc in g)
not_got (x ∷ rs) (suc n) e = not_got rs n e

pub near_some : (k : ℕ) (clauses : List Spans) (rs : List Region) (r : Region) → HaveRegions clauses rs → slice_get rs (k / 16) ≡ Some r → AreNear k clauses r
near_some k clauses rs r h e = region_near k clauses r (subst (IsRegion (k / 16) clauses) (got rs (k / 16) r e) (h (k / 16)))

pub near_none : (k : ℕ) (clauses : List Spans) (rs : List Region) (r : Region) → HaveRegions clauses rs → r ≡ no_region → slice_get rs (k / 16) ≡ None → AreNear k clauses r
near_none k clauses rs r h n e = region_near k clauses r (subst (IsRegion (k / 16) clauses) (not_got rs (k / 16) e ∙ sym n) (h (k / 16)))

-- ---- the lowest

starts_weak : (n m : ℕ) (s : Spans) → n ≤ m → StartFrom m s → StartFrom n s
starts_weak n m s h p = blocks_weak (starts_from m) (starts_from n) (λ b e. let l = leb-true m b.start e in le-leb n b.start (omega arith)) s p

set_read : {X : Type 0} (xs : List X) (i k : ℕ) (p q : X) → slice_get (slice_set xs i q) k ≡ Some p → ((k ≡ i) × (p ≡ q)) ⊎ ((k ≡ i → ⊥) × (slice_get xs k ≡ Some p))
set_read [] i k p q e = absurd (let g : ⊥ = cc in g)
set_read (x ∷ xs) zero zero p q e = inl (refl, sym (same e))
  where
    same : Some q ≡ Some p → q ≡ p
    same f = cc
set_read (x ∷ xs) zero (suc k) p q e = inr (λ h. omega arith, e)
set_read (x ∷ xs) (suc i) zero p q e = inr (λ h. omega arith, e)
set_read (x ∷ xs) (suc i) (suc k) p q e = elim (set_read xs i k p q e) [
  | inl h ↦ inl (ap suc h.0, h.1)
  | inr h ↦ inr (λ g. h.0 (omega arith), h.1)
]

-- from a place on
pub record LowFrom (clauses : List Spans) (lowest : List ℕ) (least k : ℕ) : Type 0 where
  pub all : (j : ℕ) (s : Spans) → k ≤ j → slice_get clauses j ≡ Some s → StartFrom least s
  pub set : (i n j : ℕ) (s : Spans) → k ≤ i → slice_get lowest i ≡ Some n → i ≤ j → slice_get clauses j ≡ Some s → StartFrom n s

pub low_more : (clauses : List Spans) (lowest new : List ℕ) (least first m k : ℕ) (s : Spans) → LowFrom clauses lowest least k → 0 < k → slice_get clauses (k - 1) ≡ Some s → StartFrom first s → m ≤ least → m ≤ first → new ≡ slice_set lowest (k - 1) m
    → LowFrom clauses new m (k - 1)
low_more clauses lowest new least first m k s h some here start a b e = record { all = all; set = set }
  where
    all : (j : ℕ) (t : Spans) → k - 1 ≤ j → slice_get clauses j ≡ Some t → StartFrom m t
    all j t l f = elim (cases_lt j k) [
      | inl less ↦
          let is : j ≡ k - 1 = omega arith in
          let one : Some s ≡ Some t = sym here ∙ ap (slice_get clauses) (sym is) ∙ f in
          let same : s ≡ t = cc in
          subst (StartFrom m) same (starts_weak m first s b start)
      | inr more ↦ starts_weak m least t a (h.all j t more f)
    ]

    set : (i n j : ℕ) (t : Spans) → k - 1 ≤ i → slice_get new i ≡ Some n → i ≤ j → slice_get clauses j ≡ Some t → StartFrom n t
    set i n j t l f g u = elim (set_read lowest (k - 1) i n m (subst (λ (x : List ℕ). slice_get x i ≡ Some n) e f)) [
      | inl p ↦ subst (λ (x : ℕ). StartFrom x t) (sym p.1) (all j t (omega arith) u)
      | inr p ↦ h.set i n j t (elim (apart i p.0) [ inl x ↦ absurd (omega arith) | inr x ↦ x ]) p.1 g u
    ]
      where
        apart : (i : ℕ) → (i ≡ k - 1 → ⊥) → (i < k - 1) ⊎ (k ≤ i)
        apart i q = elim (cases_lt i (k - 1)) [ inl x ↦ inl x | inr x ↦ elim (cases_lt i k) [ inl y ↦ absurd (q (omega arith)) | inr y ↦ inr y ] ]
