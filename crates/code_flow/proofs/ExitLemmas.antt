-- Where leaves go on from the clauses that they cross.
use Rattle.std.proofs.Common.{◌≡◌, ◌⊎◌, inl, inr, refl, sym, ◌∙◌, ap, subst, ℕ, zero, suc, ◌+◌, ◌-◌, ◌<◌, ◌≤◌, arith, Bool, true, false, ◌&&◌, List, [], ◌∷◌, ◌++◌, length, map, take, drop, slice_get, None, Some, if◌then◌else◌}
use Rattle.std.specs.Prelude.{nat_le, nat_lt}
use Rattle.std.specs.List.{Contains, flat_map}
use Rattle.std.proofs.lemmas.Bool.{lt-ltb, le-ltb, lt-leb}
use Rattle.std.proofs.lemmas.Grind.{flat_map-append}
use Rattle.std.proofs.lemmas.List.{map-append, append_assoc, append-nil, take-append-drop, length-append, drop_all}
use Rattle.std.proofs.lemmas.List.Elements.{Contains-append_left, Contains-append_right, Contains-append_cases}
use Rattle.assembly_tree.specs.declared.body.Ins.{Ins}
use Rattle.code_flow.specs.declared.blocks.Span.{Span}
use Rattle.code_flow.specs.declared.blocks.Spans.{Spans}
use Rattle.code_flow.specs.declared.clauses.Placed.{Placed}
use Rattle.code_flow.specs.declared.clauses.Region.{Region}
use Rattle.code_flow.specs.declared.goings.Carried.TheVariants as carries
use Rattle.code_flow.specs.declared.goings.Going.{Going}
use Rattle.code_flow.specs.declared.leaving.Leave.{Leave}
use Rattle.code_flow.specs.BlockTests.{is_held}
use Rattle.code_flow.specs.Edges.{targets}
use Rattle.code_flow.specs.GoingTests.{AddsSame, AreExits, going, is_finally, is_crossed, is_leave, goes_through, leave_to, leaves_at, on_from, on_behind, is_ended, ends_from}
use Rattle.code_flow.specs.Operations.{operation}
use Rattle.code_flow.specs.Leaving.{IsSplit, AreStarts, HaveExits, goes_behind, ended_by}
use Rattle.code_flow.specs.Regions.{Picks, none_left, picked, passed, IsAway, AreNear, placed_at}
use Rattle.code_flow.proofs.RegionLemmas.{away_uncrossed}
use Rattle.code_flow.proofs.PairLemmas.{of_map, in_map}
use Rattle.code_flow.proofs.NearLemmas.{away_unended}

-- ---- where a `leave` goes on

behind_all : (place : ℕ) (l : Leave) {n : ℕ} {ss : List Spans} {ps : List Placed} → place < n → Picks (IsAway l.at) n ss ps → goes_behind place l ps ≡ goes_through l.at l.to ss
behind_all place l h none_left = refl
behind_all place l {n} h (picked {s = s} {ps = ps} p) =
    (λ i. if lt-ltb place n h i && is_crossed l.at l.to s then s.handler.start else goes_behind place l ps) ∙ ap (λ z. if is_crossed l.at l.to s then s.handler.start else z) (behind_all place l (omega arith) p)
behind_all place l {n} h (passed {s = s} {ss = ss} i p) =
    behind_all place l (omega arith) p ∙ sym (ap (λ (b : Bool). if b then s.handler.start else goes_through l.at l.to ss) (away_uncrossed l.at l.to s i))

pub behind_near : (place : ℕ) (l : Leave) {n : ℕ} {ss : List Spans} {ps : List Placed} (d : ℕ) → n + d ≡ place + 1 → Picks (IsAway l.at) n ss ps → goes_behind place l ps ≡ goes_through l.at l.to (drop d ss)
behind_near place l zero e p = behind_all place l (omega arith) p
behind_near place l (suc d) e none_left = refl
behind_near place l {n} (suc d) e (picked {s = s} {ps = ps} p) =
    (λ i. if le-ltb place n (omega arith) i && is_crossed l.at l.to s then s.handler.start else goes_behind place l ps) ∙ behind_near place l {n = n + 1} d (omega arith) p
behind_near place l {n} (suc d) e (passed i p) = behind_near place l {n = n + 1} d (omega arith) p

-- ---- where an `endfinally` goes

flat_mapped : (place : ℕ) (s : Spans) (all outer : List Spans) → outer ≡ drop (place + 1) all → (leaves : List Leave)
    → map (going carries.Nothing) (flat_map (on_behind all place s) leaves) ≡ flat_map (on_from s outer) leaves
flat_mapped place s all outer e [] = refl
flat_mapped place s all outer e (l ∷ leaves) =
    map-append (going carries.Nothing) (on_behind all place s l) (flat_map (on_behind all place s) leaves) ∙ (λ i. one (is_crossed l.at l.to s) i ++ flat_mapped place s all outer e leaves i)
  where
    one : (b : Bool) → map (going carries.Nothing) (if b then goes_through l.at l.to (drop (place + 1) all) ∷ [] else []) ≡ (if b then going carries.Nothing (goes_through l.at l.to outer) ∷ [] else [])
    one true = ap (λ o. going carries.Nothing (goes_through l.at l.to o) ∷ []) (sym e)
    one false = refl

drop_tail : (n : ℕ) (s : Spans) (ss all : List Spans) → s ∷ ss ≡ drop n all → ss ≡ drop (n + 1) all
drop_tail zero s ss [] e = absurd (let f : ⊥ = cc in f)
drop_tail zero s ss (t ∷ all) e = cc
drop_tail (suc n) s ss [] e = absurd (let f : ⊥ = cc in f)
drop_tail (suc n) s ss (t ∷ all) e = drop_tail n s ss all e ∙ ap (λ m. drop m (t ∷ all)) (plus n)
  where
    plus : (m : ℕ) → suc (m + 1) ≡ suc m + 1
    plus m = omega arith

abbrev pub ends_among : List Spans → List Leave → ℕ → List Placed → List Going
ends_among all leaves k ps = flat_map (ended_by all leaves k) ps

pub ends_near : (all : List Spans) (leaves : List Leave) (k : ℕ) (r : Region) (h : AreNear k all r) {n : ℕ} {ss : List Spans} {ps : List Placed} → ss ≡ drop n all → Picks (IsAway k) n ss ps
    → ends_among all leaves k ps ≡ ends_from all leaves k ss
ends_near all leaves k r h e none_left = refl
ends_near all leaves k r h {n} e (picked {s = s} {ss = ss} p) =
    let t = drop_tail n s ss all e in
    λ i. (if is_ended all k s then flat_mapped n s all ss t leaves i else []) ++ ends_near all leaves k r h t p i
ends_near all leaves k r h {n} e (passed {s = s} {ss = ss} a p) =
    ends_near all leaves k r h (drop_tail n s ss all e) p ∙ sym (ap (λ (b : Bool). (if b then flat_map (on_from s ss) leaves else []) ++ ends_from all leaves k ss) (away_unended k all r h s a))

-- ---- what is picked stands at its place

pub picks_at : {I : Spans → Type 0} {n : ℕ} {ss : List Spans} {ps : List Placed} (all : List Spans) → ss ≡ drop n all → Picks I n ss ps → (j : ℕ) (p : Placed) → slice_get ps j ≡ Some p → slice_get all p.place ≡ Some p.spans
picks_at all e none_left j p f = absurd (let g : ⊥ = cc in g)
picks_at {I} {n} all e (picked {s = s} {ss = ss} r) zero p f =
    let one : placed_at n s ≡ p = cc in
    subst (λ (q : Placed). slice_get all q.place ≡ Some q.spans) one (head n s ss all e)
  where
    head : (n : ℕ) (s : Spans) (ss all : List Spans) → s ∷ ss ≡ drop n all → slice_get all n ≡ Some s
    head zero s ss [] e = absurd (let g : ⊥ = cc in g)
    head zero s ss (t ∷ all) e = cc
    head (suc n) s ss [] e = absurd (let g : ⊥ = cc in g)
    head (suc n) s ss (t ∷ all) e = head n s ss all e
picks_at {I} {n} all e (picked {s = s} {ss = ss} r) (suc j) p f = picks_at all (drop_tail n s ss all e) r j p f
picks_at {I} {n} all e (passed {s = s} {ss = ss} i r) j p f = picks_at all (drop_tail n s ss all e) r j p f

-- ---- the leaves in a range

take_none : {X : Type 0} (n : ℕ) (xs : List X) → xs ≡ [] → take n xs ≡ []
take_none zero xs e = refl
take_none (suc n) [] e = refl
take_none (suc n) (x ∷ xs) e = absurd (let f : ⊥ = cc in f)

from_to : {X : Type 0} (from to : ℕ) (xs : List X) → from ≤ to → take (to - from) (drop from xs) ++ drop to xs ≡ drop from xs
from_to zero to xs h = let e : to - 0 ≡ to = omega arith in ap (λ n. take n xs ++ drop to xs) e ∙ take-append-drop to xs
from_to (suc from) zero xs h = absurd (omega arith)
from_to (suc from) (suc to) [] h = ap (λ l. l ++ []) (take_none (suc to - suc from) [] refl)
from_to (suc from) (suc to) (x ∷ xs) h =
    let e : suc to - suc from ≡ to - from = omega arith in
    ap (λ n. take n (drop from xs) ++ drop to xs) e ∙ from_to from to xs (omega arith)

flat_none : {X Y : Type 0} (f : X → List Y) (xs : List X) → ((x : X) → Contains xs x → f x ≡ []) → flat_map f xs ≡ []
flat_none f [] h = refl
flat_none f (x ∷ xs) h = ap (λ l. l ++ flat_map f xs) (h x (0, omega arith, refl)) ∙ flat_none f xs (λ y c. h y (suc c.0, let g = c.1 in omega arith, c.2))

pub range_leaves : (f : Leave → List ℕ) (leaves : List Leave) (from to : ℕ) → from ≤ to → ((l : Leave) → Contains (take from leaves) l → f l ≡ []) → ((l : Leave) → Contains (drop to leaves) l → f l ≡ [])
    → flat_map f (take (to - from) (drop from leaves)) ≡ flat_map f leaves
range_leaves f leaves from to h before behind =
    let inside = take (to - from) (drop from leaves) in
    let one : flat_map f (drop from leaves) ≡ flat_map f inside =
    ap (flat_map f) (sym (from_to from to leaves h)) ∙ flat_map-append f inside (drop to leaves) ∙ ap (λ l. flat_map f inside ++ l) (flat_none f (drop to leaves) behind) ∙ append-nil (flat_map f inside) in
    let two : flat_map f leaves ≡ flat_map f (drop from leaves) =
    ap (flat_map f) (sym (take-append-drop from leaves)) ∙ flat_map-append f (take from leaves) (drop from leaves) ∙ ap (λ l. l ++ flat_map f (drop from leaves)) (flat_none f (take from leaves) before) in
    sym (two ∙ one)

-- as they are split at the ends of a range
pub split_range : (leaves : List Leave) (span : Span) (from to : ℕ) → IsSplit leaves span.start from → IsSplit leaves span.end to → from ≤ to → (f : Leave → List ℕ) → ((l : Leave) → is_held span l.at ≡ false → f l ≡ [])
    → flat_map f (take (to - from) (drop from leaves)) ≡ flat_map f leaves
split_range leaves span from to a b h f away = range_leaves f leaves from to h (λ l c. away l (low l (a.before l c))) (λ l c. away l (high l (b.behind l c)))
  where
    low : (l : Leave) → l.at < span.start → is_held span l.at ≡ false
    low l g = ap (λ x. x && nat_lt l.at span.end) (lt-leb span.start l.at g)

    no_second : (x y : Bool) → y ≡ false → (x && y) ≡ false
    no_second true y e = e
    no_second false y e = refl

    high : (l : Leave) → span.end ≤ l.at → is_held span l.at ≡ false
    high l g = no_second (nat_le span.start l.at) (nat_lt l.at span.end) (le-ltb l.at span.end g)

-- ---- the leaves of a body

pub no_exit : (all : List Spans) (place : ℕ) (s : Spans) (l : Leave) → is_held s.guarded l.at ≡ false → on_behind all place s l ≡ []
no_exit all place s l h = ap (λ (b : Bool). if b then goes_through l.at l.to (drop (place + 1) all) ∷ [] else []) (uncrossed (is_finally s.handling) (is_held s.guarded l.at) _ h)
  where
    uncrossed : (a b c : Bool) → b ≡ false → (a && b && c) ≡ false
    uncrossed false b c e = refl
    uncrossed true false c e = refl
    uncrossed true true c e = absurd (let f : ⊥ = cc in f)

take_front : {X : Type 0} (n : ℕ) (xs ys : List X) → n ≤ length xs → take n (xs ++ ys) ≡ take n xs
take_front zero xs ys h = refl
take_front (suc n) [] ys h = absurd (omega arith)
take_front (suc n) (x ∷ xs) ys h = ap (λ l. x ∷ l) (take_front n xs ys (omega arith))

drop_front : {X : Type 0} (n : ℕ) (xs ys : List X) → n ≤ length xs → drop n (xs ++ ys) ≡ drop n xs ++ ys
drop_front zero xs ys h = refl
drop_front (suc n) [] ys h = absurd (omega arith)
drop_front (suc n) (x ∷ xs) ys h = drop_front n xs ys (omega arith)

in_take : (n : ℕ) (xs : List Leave) (l : Leave) → Contains (take n xs) l → Contains xs l
in_take n xs l c = subst (λ (z : List Leave). Contains z l) (take-append-drop n xs) (Contains-append_left (take n xs) (drop n xs) l c)

-- each is below what comes
pub record LowLeaves (all : List Leave) (counts : List ℕ) (at : ℕ) : Type 0 where
  pub count : length counts ≡ at
  pub starts : AreStarts all counts
  pub low : (x : Leave) → Contains all x → x.at < at

split_old : (all more : List Leave) (k count at : ℕ) → IsSplit all k count → k ≤ at → ((x : Leave) → Contains more x → x.at ≡ at) → IsSplit (all ++ more) k count
split_old all more k count at h less here = record {
  within = let w = h.within in let l = length-append all more in omega arith;
  before = λ x c. h.before x (subst (λ (z : List Leave). Contains z x) (take_front count all more h.within) c);
  behind = λ x c. elim (Contains-append_cases (drop count all) more x (subst (λ (z : List Leave). Contains z x) (drop_front count all more h.within) c)) [
    | inl d ↦ h.behind x d
    | inr d ↦ let e = here x d in omega arith
  ];
}

split_new : (all more : List Leave) (at : ℕ) → ((x : Leave) → Contains all x → x.at < at) → ((x : Leave) → Contains more x → x.at ≡ at) → IsSplit (all ++ more) at (length all)
split_new all more at low here = record {
  within = let l = length-append all more in omega arith;
  before = λ x c. low x (in_take (length all) all x (subst (λ (z : List Leave). Contains z x) (take_front (length all) all more (omega arith)) c));
  behind = λ x c. elim (Contains-append_cases (drop (length all) all) more x (subst (λ (z : List Leave). Contains z x) (drop_front (length all) all more (omega arith)) c)) [
    | inl d ↦ absurd (none (subst (λ (z : List Leave). Contains z x) (drop_all (length all) all (omega arith)) d))
    | inr d ↦ let e = here x d in omega arith
  ];
}
  where
    none : {x : Leave} → Contains [] x → ⊥
    none (k, h, e) = omega arith

push_cases : (xs : List ℕ) (y k v : ℕ) → slice_get (xs ++ y ∷ []) k ≡ Some v → ((k < length xs) × (slice_get xs k ≡ Some v)) ⊎ ((k ≡ length xs) × (v ≡ y))
push_cases [] y zero v e = inr (refl, cc)
push_cases [] y (suc k) v e = absurd (let f : ⊥ = cc in f)
push_cases (x ∷ xs) y zero v e = inl (omega arith, e)
push_cases (x ∷ xs) y (suc k) v e = elim (push_cases xs y k v e) [ inl h ↦ inl (let a = h.0 in omega arith, h.1) | inr h ↦ inr (ap suc h.0, h.1) ]

-- an instruction more
module _ (all more new : List Leave) (starts later : List ℕ) (at : ℕ) (h : LowLeaves all starts at) (here : (x : Leave) → Contains more x → x.at ≡ at) (e : new ≡ all ++ more) (f : later ≡ starts ++ length all ∷ []) where
  starts_all : AreStarts (all ++ more) (starts ++ length all ∷ [])
  starts_all k count g = elim (push_cases starts (length all) k count g) [
    | inl p ↦ split_old all more k count at (h.starts k count p.1) (let a = p.0 in let b = h.count in omega arith) here
    | inr p ↦ subst (λ (j : ℕ). IsSplit (all ++ more) j count) (sym (p.0 ∙ h.count)) (subst (IsSplit (all ++ more) at) (sym p.1) (split_new all more at h.low here))
  ]

  pub starts_more : AreStarts new later
  starts_more = subst (λ (z : List Leave). AreStarts z later) (sym e) (subst (AreStarts (all ++ more)) (sym f) starts_all)

  pub low_leaves : LowLeaves new later (at + 1)
  low_leaves = record {
    count = let a = ap length f in let b = length-append starts (length all ∷ []) in let d = h.count in omega arith;
    starts = starts_more;
    low = λ x c. elim (Contains-append_cases all more x (subst (λ (z : List Leave). Contains z x) e c)) [
      | inl d ↦ let l = h.low x d in omega arith
      | inr d ↦ let l = here x d in omega arith
    ];
  }

pub leaves_here : (k : ℕ) (i : Ins) (x : Leave) → Contains (leaves_at k i) x → x.at ≡ k
leaves_here k i x c = by (is_leave (operation i.op)) c
  where
    each : (ts : List ℕ) → Contains (map (leave_to k) ts) x → x.at ≡ k
    each [] (j, h, e) = absurd (omega arith)
    each (t ∷ ts) (zero, h, e) = sym (ap (λ (l : Leave). l.at) e)
    each (t ∷ ts) (suc j, h, e) = each ts (j, omega arith, e)

    by : (b : Bool) → Contains (if b then map (leave_to k) (targets i.operand) else []) x → x.at ≡ k
    by true d = each (targets i.operand) d
    by false (j, h, e) = absurd (omega arith)

pub low_none : (all : List Leave) (counts : List ℕ) → all ≡ [] → counts ≡ [] → LowLeaves all counts 0
low_none all counts e f = record {
  count = ap length f;
  starts = λ k n g. absurd (nothing k n (subst (λ (z : List ℕ). slice_get z k ≡ Some n) f g));
  low = λ x c. absurd (none (subst (λ (z : List Leave). Contains z x) e c));
}
  where
    nothing : (k n : ℕ) → slice_get [] k ≡ Some n → ⊥
    nothing k n g = let h : ⊥ = cc in h

    none : {x : Leave} → Contains [] x → ⊥
    none (k, h, g) = omega arith

-- ---- edges with the same members

pub adds_none : (old : List Going) → AddsSame old old []
adds_none old = record { more = []; is = sym (append-nil old); same = λ g. (λ c. c, λ c. c) }

pub adds_exact : (old new gs : List Going) → new ≡ old ++ gs → AddsSame old new gs
adds_exact old new gs e = record { more = gs; is = e; same = λ g. (λ c. c, λ c. c) }

pub adds_more : (a b c gs hs : List Going) → AddsSame a b gs → AddsSame b c hs → AddsSame a c (gs ++ hs)
adds_more a b c gs hs x y = record {
  more = x.more ++ y.more;
  is = y.is ∙ ap (λ l. l ++ y.more) x.is ∙ append_assoc a x.more y.more;
  same = λ g. (both x.more y.more gs hs g (x.same g).0 (y.same g).0, both gs hs x.more y.more g (x.same g).1 (y.same g).1);
}
  where
    both : (p q r s : List Going) (g : Going) → (Contains p g → Contains r g) → (Contains q g → Contains s g) → Contains (p ++ q) g → Contains (r ++ s) g
    both p q r s g f h m = elim (Contains-append_cases p q g m) [
      | inl d ↦ Contains-append_left r s g (f d)
      | inr d ↦ Contains-append_right r s g (h d)
    ]

same_mapped : (ts us : List ℕ) (g : Going) → ((t : ℕ) → Contains ts t → Contains us t) → Contains (map (going carries.Nothing) ts) g → Contains (map (going carries.Nothing) us) g
same_mapped ts us g f c =
    let q = of_map (going carries.Nothing) ts g c in
    subst (λ (z : Going). Contains (map (going carries.Nothing) us) z) q.2 (in_map (going carries.Nothing) us q.0 (f q.0 q.1))

pub adds_ended : (all : List Spans) (leaves : List Leave) (k : ℕ) (p : Placed) (old new : List Going) (ts : List ℕ) → is_ended all k p.spans ≡ true → AreExits all leaves p.place p.spans ts → new ≡ old ++ map (going carries.Nothing) ts
    → AddsSame old new (ended_by all leaves k p)
adds_ended all leaves k p old new ts e h is =
    subst (AddsSame old new) (sym (ap (λ (b : Bool). if b then map (going carries.Nothing) (flat_map (on_behind all p.place p.spans) leaves) else []) e)) (record {
      more = map (going carries.Nothing) ts;
      is = is;
      same = λ g. (same_mapped ts (flat_map (on_behind all p.place p.spans) leaves) g (λ t. (h t).0), same_mapped (flat_map (on_behind all p.place p.spans) leaves) ts g (λ t. (h t).1));
    })

pub adds_unended : (all : List Spans) (leaves : List Leave) (k : ℕ) (p : Placed) (old : List Going) → is_ended all k p.spans ≡ false → AddsSame old old (ended_by all leaves k p)
adds_unended all leaves k p old e =
    subst (AddsSame old old) (sym (ap (λ (b : Bool). if b then map (going carries.Nothing) (flat_map (on_behind all p.place p.spans) leaves) else []) e)) (adds_none old)

beyond : {X Y : Type 0} (xs : List X) (ys : List Y) (k : ℕ) (y : Y) → length xs ≡ length ys → slice_get xs k ≡ None → slice_get ys k ≡ Some y → ⊥
beyond [] [] k y e f g = let h : ⊥ = cc in h
beyond [] (z ∷ ys) k y e f g = omega arith
beyond (x ∷ xs) [] k y e f g = omega arith
beyond (x ∷ xs) (z ∷ ys) zero y e f g = let h : ⊥ = cc in h
beyond (x ∷ xs) (z ∷ ys) (suc k) y e f g = beyond xs ys k y (omega arith) f g

pub has_exits : (all : List Spans) (leaves : List Leave) (exits : List (List ℕ)) (place : ℕ) (s : Spans) → HaveExits all leaves exits → slice_get exits place ≡ None → slice_get all place ≡ Some s → ⊥
has_exits all leaves exits place s h e f = beyond exits all place s h.count e f
