-- The edges to handlers stay the same from one instruction to the next, where no try begins or ends.
use Rattle.std.proofs.Common.{◌≡◌, ◌∙◌, ap, sym, inl, inr, ℕ, zero, suc, ◌+◌, ◌<◌, arith, Bool, true, false, ◌&&◌, List, [], ◌∷◌, ◌++◌, length, refl, if◌then◌else◌}
use Rattle.std.specs.Prelude.{nat_le, nat_lt, replicate, slice_index_or}
use Rattle.std.proofs.lemmas.Bool.{cases_lt, le-leb, lt-leb, lt-ltb, le-ltb}
use Rattle.std.proofs.lemmas.List.{length-replicate}
use Rattle.code_flow.specs.declared.blocks.Span.{Span}
use Rattle.code_flow.specs.declared.blocks.Spans.{Spans}
use Rattle.code_flow.specs.declared.goings.Going.{Going}
use Rattle.code_flow.specs.BlockTests.{is_held}
use Rattle.code_flow.specs.GoingTests.{guards_from, handled}
use Rattle.code_flow.specs.Marks.{set_mark, marked_bounds}
use Rattle.code_flow.proofs.Marking.{set_length, was_kept, now_set}

bounds_length : (m : List Bool) (ss : List Spans) → length (marked_bounds m ss) ≡ length m
bounds_length m [] = refl
bounds_length m (s ∷ ss) =
    bounds_length (set_mark (set_mark m s.guarded.start) s.guarded.end) ss ∙ set_length (set_mark m s.guarded.start) s.guarded.end ∙ set_length m s.guarded.start

-- a mark for each
pub bounds_as_many : (n : ℕ) (ss : List Spans) (bs : List Bool) → bs ≡ marked_bounds (replicate n false) ss → length bs ≡ n
bounds_as_many n ss bs e = ap length e ∙ bounds_length (replicate n false) ss ∙ length-replicate n false

pub bounds_are : (n : ℕ) (ss : List Spans) (bs : List Bool) → bs ≡ marked_bounds (replicate n false) ss → bs ≡ marked_bounds (replicate (length bs) false) ss
bounds_are n ss bs e = e ∙ ap (λ (z : ℕ). marked_bounds (replicate z false) ss) (sym (bounds_as_many n ss bs e))

set_kept : (m : List Bool) (p t : ℕ) → t < length m → slice_index_or m t false ≡ true → slice_index_or (set_mark m p) t false ≡ true
set_kept m p t less h = was_kept (nat_lt p (length m)) m p t less h

bounds_kept : (m : List Bool) (ss : List Spans) (t : ℕ) → t < length m → slice_index_or m t false ≡ true → slice_index_or (marked_bounds m ss) t false ≡ true
bounds_kept m [] t less h = h
bounds_kept m (s ∷ ss) t less h =
    let once = set_mark m s.guarded.start in
    let a = set_length m s.guarded.start in
    let b = set_length once s.guarded.end in
    bounds_kept (set_mark once s.guarded.end) ss t (omega (arith, a, b)) (set_kept once s.guarded.end t (omega (arith, a)) (set_kept m s.guarded.start t less h))

no_start : (m : List Bool) (s : Spans) (ss : List Spans) (t : ℕ) → t < length m → slice_index_or (marked_bounds m (s ∷ ss)) t false ≡ false → s.guarded.start ≡ t → ⊥
no_start m s ss t less h e =
    let once = set_mark m s.guarded.start in
    let a = set_length m s.guarded.start in
    let b = set_length once s.guarded.end in
    let here : slice_index_or once t false ≡ true = ap (λ (z : ℕ). slice_index_or once z false) (sym e) ∙ now_set m s.guarded.start (omega (arith, e)) in
    let yes = bounds_kept (set_mark once s.guarded.end) ss t (omega (arith, a, b)) (set_kept once s.guarded.end t (omega (arith, a)) here) in
    cc

no_end : (m : List Bool) (s : Spans) (ss : List Spans) (t : ℕ) → t < length m → slice_index_or (marked_bounds m (s ∷ ss)) t false ≡ false → s.guarded.end ≡ t → ⊥
no_end m s ss t less h e =
    let once = set_mark m s.guarded.start in
    let a = set_length m s.guarded.start in
    let b = set_length once s.guarded.end in
    let twice = set_mark once s.guarded.end in
    let here : slice_index_or twice t false ≡ true = ap (λ (z : ℕ). slice_index_or twice z false) (sym e) ∙ now_set once s.guarded.end (omega (arith, e, a)) in
    let yes = bounds_kept twice ss t (omega (arith, a, b)) here in
    cc

-- past a place, and past the next where it isn't that
past_next : (a j : ℕ) → (a ≡ j + 1 → ⊥) → j < a → j + 1 < a
past_next a j ne after = elim (cases_lt (j + 1) a) [
  | inl more ↦ more
  | inr not_more ↦ absurd (ne (omega arith))
]

starts_same : (a j : ℕ) → (a ≡ j + 1 → ⊥) → nat_le a (j + 1) ≡ nat_le a j
starts_same a j ne = elim (cases_lt j a) [
  | inl after ↦ lt-leb a (j + 1) (past_next a j ne after) ∙ sym (lt-leb a j after)
  | inr before ↦ le-leb a (j + 1) (omega arith) ∙ sym (le-leb a j before)
]

ends_same : (a j : ℕ) → (a ≡ j + 1 → ⊥) → nat_lt (j + 1) a ≡ nat_lt j a
ends_same a j ne = elim (cases_lt j a) [
  | inl after ↦ lt-ltb (j + 1) a (past_next a j ne after) ∙ sym (lt-ltb j a after)
  | inr before ↦ le-ltb (j + 1) a (omega arith) ∙ sym (le-ltb j a before)
]

held_same : (s : Span) (j : ℕ) → (s.start ≡ j + 1 → ⊥) → (s.end ≡ j + 1 → ⊥) → is_held s (j + 1) ≡ is_held s j
held_same s j a b = let f = starts_same s.start j a in let g = ends_same s.end j b in λ i. f i && g i

pub guards_same : (m : List Bool) (place : ℕ) (ss : List Spans) (j : ℕ) → j + 1 < length m → slice_index_or (marked_bounds m ss) (j + 1) false ≡ false
    → guards_from (j + 1) place ss ≡ guards_from j place ss
guards_same m place [] j less h = refl
guards_same m place (s ∷ ss) j less h =
    let once = set_mark m s.guarded.start in
    let a = set_length m s.guarded.start in
    let b = set_length once s.guarded.end in
    let first = held_same s.guarded j (no_start m s ss (j + 1) less h) (no_end m s ss (j + 1) less h) in
    let rest = guards_same (set_mark once s.guarded.end) (place + 1) ss j (omega (arith, a, b)) h in
    λ i. (if first i then handled place s else []) ++ rest i

-- as the code has them
pub guards_kept : (ss : List Spans) (bs : List Bool) (k : ℕ) (gs : List Going) → bs ≡ marked_bounds (replicate (length bs) false) ss → k < length bs → 0 < k → slice_index_or bs k false ≡ false
    → ((j : ℕ) → j + 1 ≡ k → gs ≡ guards_from j 0 ss) → gs ≡ guards_from k 0 ss
guards_kept ss bs zero gs e below some off before = absurd (omega arith)
guards_kept ss bs (suc j) gs e below some off before =
    let next : j + 1 ≡ suc j = omega arith in
    let long = length-replicate (length bs) false in
    let still : slice_index_or (marked_bounds (replicate (length bs) false) ss) (j + 1) false ≡ false =
    ap (λ (xs : List Bool). slice_index_or xs (j + 1) false) (sym e) ∙ ap (λ (z : ℕ). slice_index_or bs z false) next ∙ off in
    before j next ∙ sym (guards_same (replicate (length bs) false) 0 ss j (omega (arith, long)) still) ∙ ap (λ (z : ℕ). guards_from z 0 ss) next
