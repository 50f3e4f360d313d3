-- The marks that are set stand at targets and boundaries.
use Rattle.std.proofs.Common.{◌≡◌, ◌⊎◌, inl, inr, ℕ, ◌<◌, Bool, true, false, List, [], ◌∷◌, map, length, refl, sym, ◌∙◌, ap, subst, arith}
use Rattle.std.specs.Prelude.{nat_lt, nat_eq, if◌then◌else◌, replicate, slice_index_or, slice_set}
use Rattle.std.specs.List.{Contains, flat_map}
use Rattle.std.proofs.lemmas.Bool.{cases_Bool, eqb-true, eqb-false, lt-ltb}
use Rattle.std.proofs.lemmas.Grind.{get_or-set_at}
use Rattle.std.proofs.lemmas.List.{length-set, length-replicate, get_or-replicate, get_or-set_same, get_or-set_other}
use Rattle.std.proofs.lemmas.List.Elements.{Contains-append_left, Contains-append_right, Contains-append_cases}
use Rattle.assembly_tree.specs.declared.body.Clause.{Clause}
use Rattle.assembly_tree.specs.declared.body.ClauseKind.{ClauseKind}
use Rattle.assembly_tree.specs.declared.body.ClauseKind.TheVariants.{Catch, Filter, Finally, Fault}
use Rattle.assembly_tree.specs.declared.body.Ins.{Ins}
use Rattle.code_flow.specs.declared.blocks.Spans.{Spans}
use Rattle.code_flow.specs.Frames.{Frame}
use Rattle.code_flow.specs.BlockTests.{spans_of, filter_span}
use Rattle.code_flow.specs.Edges.{targets}
use Rattle.code_flow.specs.Prefixes.{filter_start, boundaries}
use Rattle.code_flow.specs.Marks.{IsMarked, target, boundary, HaveMarks, set_mark, marked, filter_places, span_places, marked_code, marked_clauses, all_marks}
use Rattle.code_flow.proofs.Members.{here, there, either, none}

-- ---- one mark

length_by : (b : Bool) (m : List Bool) (p : ℕ) → length (if b then slice_set m p true else m) ≡ length m
length_by true m p = length-set m p true
length_by false m p = refl

pub set_length : (m : List Bool) (p : ℕ) → length (set_mark m p) ≡ length m
set_length m p = length_by (nat_lt p (length m)) m p

pub after_to : (b : Bool) (m : List Bool) (p t : ℕ) → slice_index_or (if b then slice_set m p true else m) t false ≡ true → (slice_index_or m t false ≡ true) ⊎ (p ≡ t)
after_to false m p t h = inl h
after_to true m p t h = elim (cases_Bool (nat_eq p t)) [
  | inl e ↦ inr (eqb-true p t e)
  | inr e ↦ inl (sym (get_or-set_other m p t true false (λ q. eqb-false p t e (sym q))) ∙ h)
]

pub was_kept : (b : Bool) (m : List Bool) (p t : ℕ) → t < length m → slice_index_or m t false ≡ true → slice_index_or (if b then slice_set m p true else m) t false ≡ true
was_kept false m p t less h = h
was_kept true m p t less h = elim (cases_Bool (nat_eq p t)) [
  | inl e ↦ let at = eqb-true p t e in get_or-set_at m p t true false (sym at) (omega (arith, at))
  | inr e ↦ get_or-set_other m p t true false (λ q. eqb-false p t e (sym q)) ∙ h
]

now_by : (b : Bool) (m : List Bool) (p : ℕ) → b ≡ true → p < length m → slice_index_or (if b then slice_set m p true else m) p false ≡ true
now_by true m p e less = get_or-set_same m p true false less
now_by false m p e less = absurd (let z : ⊥ = cc in z)

pub now_set : (m : List Bool) (p : ℕ) → p < length m → slice_index_or (set_mark m p) p false ≡ true
now_set m p less = now_by (nat_lt p (length m)) m p (lt-ltb p (length m) less) less

-- ---- a list of marks

marked_length : (m : List Bool) (ps : List ℕ) → length (marked m ps) ≡ length m
marked_length m [] = refl
marked_length m (p ∷ ps) = marked_length (set_mark m p) ps ∙ set_length m p

marked_to : (m : List Bool) (ps : List ℕ) (t : ℕ) → slice_index_or (marked m ps) t false ≡ true → (slice_index_or m t false ≡ true) ⊎ Contains ps t
marked_to m [] t h = inl h
marked_to m (p ∷ ps) t h = elim (marked_to (set_mark m p) ps t h) [
  | inl e ↦ elim (after_to (nat_lt p (length m)) m p t e) [
    | inl g ↦ inl g
    | inr g ↦ inr (subst (λ (z : ℕ). Contains (p ∷ ps) z) g (here p ps))
  ]
  | inr e ↦ inr (there p ps t e)
]

kept : (m : List Bool) (ps : List ℕ) (t : ℕ) → t < length m → slice_index_or m t false ≡ true → slice_index_or (marked m ps) t false ≡ true
kept m [] t less h = h
kept m (p ∷ ps) t less h = kept (set_mark m p) ps t (omega (arith, set_length m p)) (was_kept (nat_lt p (length m)) m p t less h)

to_marked : (m : List Bool) (ps : List ℕ) (t : ℕ) → t < length m → Contains ps t → slice_index_or (marked m ps) t false ≡ true
to_marked m [] t less c = absurd (none t c)
to_marked m (p ∷ ps) t less c = elim (either p ps t c) [
  | inl e ↦
      kept (set_mark m p) ps t (omega (arith, set_length m p)) (subst (λ (z : ℕ). slice_index_or (set_mark m p) z false ≡ true) e (now_set m p (omega (arith, e))))
  | inr more ↦ to_marked (set_mark m p) ps t (omega (arith, set_length m p)) more
]

-- ---- those of targets

code_length : (m : List Bool) (code : List Ins) → length (marked_code m code) ≡ length m
code_length m [] = refl
code_length m (i ∷ is) = code_length (marked m (targets i.operand)) is ∙ marked_length m (targets i.operand)

code_to : (m : List Bool) (code : List Ins) (t : ℕ) → slice_index_or (marked_code m code) t false ≡ true
    → (slice_index_or m t false ≡ true) ⊎ ((i : Ins) × Contains code i × Contains (targets i.operand) t)
code_to m [] t h = inl h
code_to m (i ∷ is) t h = elim (code_to (marked m (targets i.operand)) is t h) [
  | inl e ↦ elim (marked_to m (targets i.operand) t e) [
    | inl g ↦ inl g
    | inr g ↦ inr (i, here i is, g)
  ]
  | inr e ↦ inr (e.0, there i is e.0 e.1, e.2)
]

code_kept : (m : List Bool) (code : List Ins) (t : ℕ) → t < length m → slice_index_or m t false ≡ true → slice_index_or (marked_code m code) t false ≡ true
code_kept m [] t less h = h
code_kept m (i ∷ is) t less h = code_kept (marked m (targets i.operand)) is t (omega (arith, marked_length m (targets i.operand))) (kept m (targets i.operand) t less h)

to_code : (m : List Bool) (code : List Ins) (t : ℕ) → t < length m → (i : Ins) → Contains code i → Contains (targets i.operand) t → slice_index_or (marked_code m code) t false ≡ true
to_code m [] t less i c d = absurd (none i c)
to_code m (x ∷ xs) t less i c d =
    let still : t < length (marked m (targets x.operand)) = omega (arith, marked_length m (targets x.operand)) in
    elim (either x xs i c) [
      | inl e ↦
          code_kept (marked m (targets x.operand)) xs t still
          (to_marked m (targets x.operand) t less (subst (λ (z : Ins). Contains (targets z.operand) t) (sym e) d))
      | inr more ↦ to_code (marked m (targets x.operand)) xs t still i more d
    ]

-- ---- those of boundaries

kind_places : (start : ℕ) (x : ClauseKind) → filter_places (filter_span start x) ≡ filter_start x
kind_places start (Filter at) = refl
kind_places start (Catch o) = refl
kind_places start Finally = refl
kind_places start Fault = refl

places_are : (c : Clause) → span_places (spans_of c) ≡ boundaries c
places_are c = ap (λ (l : List ℕ). c.try_start ∷ c.try_end ∷ c.handler_start ∷ c.handler_end ∷ l) (kind_places c.handler_start c.kind)

clauses_length : (m : List Bool) (cs : List Clause) → length (marked_clauses m (map spans_of cs)) ≡ length m
clauses_length m [] = refl
clauses_length m (c ∷ cs) = clauses_length (marked m (span_places (spans_of c))) cs ∙ marked_length m (span_places (spans_of c))

clauses_to : (m : List Bool) (cs : List Clause) (t : ℕ) → slice_index_or (marked_clauses m (map spans_of cs)) t false ≡ true
    → (slice_index_or m t false ≡ true) ⊎ Contains (flat_map boundaries cs) t
clauses_to m [] t h = inl h
clauses_to m (c ∷ cs) t h = elim (clauses_to (marked m (span_places (spans_of c))) cs t h) [
  | inl e ↦ elim (marked_to m (span_places (spans_of c)) t e) [
    | inl g ↦ inl g
    | inr g ↦ inr (Contains-append_left (boundaries c) (flat_map boundaries cs) t (subst (λ (l : List ℕ). Contains l t) (places_are c) g))
  ]
  | inr e ↦ inr (Contains-append_right (boundaries c) (flat_map boundaries cs) t e)
]

clauses_kept : (m : List Bool) (cs : List Clause) (t : ℕ) → t < length m → slice_index_or m t false ≡ true → slice_index_or (marked_clauses m (map spans_of cs)) t false ≡ true
clauses_kept m [] t less h = h
clauses_kept m (c ∷ cs) t less h =
    clauses_kept (marked m (span_places (spans_of c))) cs t (omega (arith, marked_length m (span_places (spans_of c)))) (kept m (span_places (spans_of c)) t less h)

to_clauses : (m : List Bool) (cs : List Clause) (t : ℕ) → t < length m → Contains (flat_map boundaries cs) t → slice_index_or (marked_clauses m (map spans_of cs)) t false ≡ true
to_clauses m [] t less c = absurd (none t c)
to_clauses m (x ∷ xs) t less c =
    let still : t < length (marked m (span_places (spans_of x))) = omega (arith, marked_length m (span_places (spans_of x))) in
    elim (Contains-append_cases (boundaries x) (flat_map boundaries xs) t c) [
      | inl e ↦
          clauses_kept (marked m (span_places (spans_of x))) xs t still
          (to_marked m (span_places (spans_of x)) t less (subst (λ (l : List ℕ). Contains l t) (sym (places_are x)) e))
      | inr more ↦ to_clauses (marked m (span_places (spans_of x))) xs t still more
    ]

-- ---- all of them

spans_length : (m : List Bool) (ss : List Spans) → length (marked_clauses m ss) ≡ length m
spans_length m [] = refl
spans_length m (s ∷ ss) = spans_length (marked m (span_places s)) ss ∙ marked_length m (span_places s)

pub marks_long : (code : List Ins) (ss : List Spans) → length (all_marks code ss) ≡ length code
marks_long code ss =
    spans_length (marked_code (replicate (length code) false) code) ss ∙ code_length (replicate (length code) false) code ∙ length-replicate (length code) false

pub blank : (n t : ℕ) → t < n → slice_index_or (replicate n false) t false ≡ true → ⊥
blank n t less h = let e = get_or-replicate n t false false less in let z : ⊥ = cc in z

marks_at : (f : Frame) (t : ℕ) → t < length f.code → IsMarked f t → slice_index_or (all_marks f.code (map spans_of f.clauses)) t false ≡ true
marks_at f t less (target h) =
    let begins = length-replicate (length f.code) false in
    let middle = code_length (replicate (length f.code) false) f.code in
    clauses_kept (marked_code (replicate (length f.code) false) f.code) f.clauses t (omega (arith, begins, middle))
    (to_code (replicate (length f.code) false) f.code t (omega (arith, begins)) h.ins h.is h.to)
marks_at f t less (boundary h) =
    let begins = length-replicate (length f.code) false in
    let middle = code_length (replicate (length f.code) false) f.code in
    to_clauses (marked_code (replicate (length f.code) false) f.code) f.clauses t (omega (arith, begins, middle)) h

pub have_marks : (f : Frame) → HaveMarks f (all_marks f.code (map spans_of f.clauses))
have_marks f =
    let begins = length-replicate (length f.code) false in
    let middle = code_length (replicate (length f.code) false) f.code in
    record {
      count = clauses_length (marked_code (replicate (length f.code) false) f.code) f.clauses ∙ middle ∙ begins;
      are = λ t less. (
        λ h. elim (clauses_to (marked_code (replicate (length f.code) false) f.code) f.clauses t h) [
          | inl e ↦ elim (code_to (replicate (length f.code) false) f.code t e) [
            | inl g ↦ absurd (blank (length f.code) t less g)
            | inr g ↦ target (record { ins = g.0; is = g.1; to = g.2 })
          ]
          | inr e ↦ boundary e
        ],
        λ h. marks_at f t less h,
      );
    }
