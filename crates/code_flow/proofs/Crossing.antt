-- Which finally clauses a `leave` crosses, in order of their places.
use Rattle.std.proofs.Common.{◌≡◌, ◌⊎◌, inl, inr, ℕ, zero, suc, ◌-◌, ◌<◌, Bool, true, false, not, ◌&&◌, List, [], ◌∷◌, map, refl, sym, ◌∙◌, ap, subst, Some, arith}
use Rattle.std.specs.Prelude.{nat_eq, if◌then◌else◌, slice_get}
use Rattle.std.specs.List.{Contains, list_all}
use Rattle.std.proofs.lemmas.Bool.{and_parts, and_from, cases_Bool, eqb-true, eqb-false, not-true, not_from_false}
use Rattle.assembly_tree.specs.declared.body.Clause.{Clause}
use Rattle.assembly_tree.specs.declared.body.ClauseKind.{ClauseKind}
use Rattle.assembly_tree.specs.declared.body.ClauseKind.TheVariants.{Finally}
use Rattle.assembly_tree.specs.WellFormedBodies.{is_forward}
use Rattle.code_flow.specs.Blocks.{Block, try_block, handling_blocks, blocks_of, Holds, LiesIn, SameTry, LieIn, AreNested, disjoint, first_inside, second_inside, ClausesNest}
use Rattle.code_flow.specs.BlockTests.{spans_of, handling_of, is_held}
use Rattle.code_flow.specs.Edges.{IsWithin}
use Rattle.code_flow.specs.GoingTests.{is_finally, is_crossed, goes_through}
use Rattle.code_flow.proofs.Members.{here, there, either, contains_at}
use Rattle.code_flow.proofs.Levels.{span_of, held, held_from, not_held, not_held_from}
use Rattle.code_flow.proofs.Nesting.{filled}
use Rattle.code_flow.proofs.Targets.{all_in}

-- ---- tries that hold one instruction

pub same_or : (c d : Clause) → SameTry c d ⊎ (SameTry c d → ⊥)
same_or c d = elim (cases_Bool (nat_eq c.try_start d.try_start)) [
  | inl e ↦ elim (cases_Bool (nat_eq c.try_end d.try_end)) [
    | inl g ↦ inl (record { starts = eqb-true c.try_start d.try_start e; ends = eqb-true c.try_end d.try_end g })
    | inr g ↦ inr (λ s. eqb-false c.try_end d.try_end g s.ends)
  ]
  | inr e ↦ inr (λ s. eqb-false c.try_start d.try_start e s.starts)
]

within : (i j : ℕ) (c d : Clause) → c.try_start < c.try_end → LiesIn (try_block c) (try_block d) → i < j → IsWithin i c j d
within i j c d f lies less =
    let low = lies c.try_start (record { from = omega arith; to = omega arith }) in
    let high = lies (c.try_end - 1) (record { from = omega arith; to = omega arith }) in
    record { starts = omega (arith, low.from); ends = omega (arith, high.to); earlier = λ _. less }

module _ (cs : List Clause) (nest : ClausesNest cs) (fw : list_all is_forward cs ≡ true) where
  filled_in : (c : Clause) → Contains cs c → (b : Block) → Contains (blocks_of c) b → b.start < b.end
  filled_in c is b at = filled c (all_in is_forward cs c fw is) b at

  in_try : (l : ℕ) (c d : Clause) → Contains cs d → Holds (try_block c) l → Holds (try_block d) l → (b : Block) → Contains (blocks_of d) b → LieIn c b → b ≡ try_block d
  in_try l c d is hc hd b at lies = elim (either (try_block d) (handling_blocks d) b at) [
    | inl e ↦ sym e
    | inr more ↦ absurd (nest.each d is (try_block d) b (here (try_block d) []) more l hd (lies.all (try_block c) (here (try_block c) (handling_blocks c)) l hc))
  ]

  outer_by : (l : ℕ) (c d : Clause) → Contains cs c → Contains cs d → Holds (try_block c) l → Holds (try_block d) l → AreNested c d → LieIn c (try_block d)
  outer_by l c d ic id hc hd (disjoint h) = absurd (h (try_block c) (try_block d) (here (try_block c) (handling_blocks c)) (here (try_block d) (handling_blocks d)) l hc hd)
  outer_by l c d ic id hc hd (first_inside b is lies) = subst (λ (x : Block). LieIn c x) (in_try l c d id hc hd b is lies) lies
  outer_by l c d ic id hc hd (second_inside b is lies) =
      absurd (nest.each c ic (try_block c) b (here (try_block c) []) is l hc (lies.all (try_block d) (here (try_block d) (handling_blocks d)) l hd))

  -- of two clauses whose tries hold one instruction the first lies in the try of the second, if the tries aren't the same
  pub outer : (l i j : ℕ) (c d : Clause) → i < j → slice_get cs i ≡ Some c → slice_get cs j ≡ Some d → Holds (try_block c) l → Holds (try_block d) l → (SameTry c d → ⊥)
      → LieIn c (try_block d)
  outer l i j c d less a b hc hd n = outer_by l c d (contains_at cs i c a) (contains_at cs j d b) hc hd (nest.nested i j c d less a b n)

  pub ordered : (l i j : ℕ) (c d : Clause) → i < j → slice_get cs i ≡ Some c → slice_get cs j ≡ Some d → Holds (try_block c) l → Holds (try_block d) l → IsWithin i c j d
  ordered l i j c d less a b hc hd = elim (same_or c d) [
    | inl s ↦ record { starts = omega (arith, s.starts); ends = omega (arith, s.ends); earlier = λ _. less }
    | inr n ↦
        within i j c d (filled_in c (contains_at cs i c a) (try_block c) (here (try_block c) (handling_blocks c)))
        ((outer l i j c d less a b hc hd n).all (try_block c) (here (try_block c) (handling_blocks c))) less
  ]

  pub not_back : (l i j : ℕ) (c d : Clause) → i < j → slice_get cs i ≡ Some c → slice_get cs j ≡ Some d → Holds (try_block c) l → Holds (try_block d) l → IsWithin j d i c → ⊥
  not_back l i j c d less a b hc hd w =
      let o = ordered l i j c d less a b hc hd in
      let s : SameTry d c = record { starts = omega (arith, w.starts, o.starts); ends = omega (arith, w.ends, o.ends) } in
      omega (arith, w.earlier s)

  -- handlers and filters of two clauses whose tries hold one instruction start at different places
  pub starts_differ : (l i j : ℕ) (c d : Clause) → i < j → slice_get cs i ≡ Some c → slice_get cs j ≡ Some d → Holds (try_block c) l → Holds (try_block d) l
      → (x y : Block) → Contains (handling_blocks c) x → Contains (handling_blocks d) y → x.start ≡ y.start → ⊥
  starts_differ l i j c d less a b hc hd x y ix iy e =
      let fx = filled_in c (contains_at cs i c a) x (there (try_block c) (handling_blocks c) x ix) in
      let fy = filled_in d (contains_at cs j d b) y (there (try_block d) (handling_blocks d) y iy) in
      let in_x : Holds x x.start = record { from = omega arith; to = fx } in
      let in_y : Holds y x.start = record { from = omega (arith, e); to = omega (arith, e, fy) } in
      elim (same_or c d) [
        | inl s ↦ nest.shared i j c d less a b s x y ix iy x.start in_x in_y
        | inr n ↦
            nest.each d (contains_at cs j d b) (try_block d) y (here (try_block d) []) iy x.start
            ((outer l i j c d less a b hc hd n).all x (there (try_block c) (handling_blocks c) x ix) x.start in_x) in_y
      ]

-- ---- the test of crossing

finally_kind : (x : ClauseKind) → is_finally (handling_of x) ≡ true → x ≡ Finally
finally_kind Finally e = refl
finally_kind x e = absurd (let z : ⊥ = cc in z)

pub is_ending_kind : (c : Clause) → is_finally (spans_of c).handling ≡ true → c.kind ≡ Finally
is_ending_kind c e = finally_kind c.kind e

pub finally_from : (c : Clause) → c.kind ≡ Finally → is_finally (spans_of c).handling ≡ true
finally_from c e = ap (λ (k : ClauseKind). is_finally (handling_of k)) e

-- a finally clause, whose try holds the `leave` and not its target
pub record Left (l t : ℕ) (c : Clause) : Type 0 where
  pub kind : c.kind ≡ Finally
  pub holds : Holds (try_block c) l
  pub out : Holds (try_block c) t → ⊥

pub left_by : (l t : ℕ) (c : Clause) → is_crossed l t (spans_of c) ≡ true → Left l t c
left_by l t c h =
    let s = span_of (try_block c) in
    let p = and_parts (is_finally (handling_of c.kind) && is_held s l) (not (is_held s t)) h in
    let q = and_parts (is_finally (handling_of c.kind)) (is_held s l) p.0 in
    record { kind = finally_kind c.kind q.0; holds = held (try_block c) l q.1; out = not_held (try_block c) t (not-true (is_held s t) p.1) }

pub crossed_by : (l t : ℕ) (c : Clause) → c.kind ≡ Finally → Holds (try_block c) l → (Holds (try_block c) t → ⊥) → is_crossed l t (spans_of c) ≡ true
crossed_by l t c k a n =
    let s = span_of (try_block c) in
    and_from (is_finally (handling_of c.kind) && is_held s l) (not (is_held s t))
    (and_from (is_finally (handling_of c.kind)) (is_held s l) (finally_from c k) (held_from (try_block c) l a))
    (not_from_false (is_held s t) (not_held_from (try_block c) t n))

-- ---- the first clause that is crossed

pub record IsFirst (l t : ℕ) (cs : List Clause) (j : ℕ) (c : Clause) : Type 0 where
  pub is : slice_get cs j ≡ Some c
  pub passes : is_crossed l t (spans_of c) ≡ true
  pub before : (m : ℕ) (d : Clause) → m < j → slice_get cs m ≡ Some d → is_crossed l t (spans_of d) ≡ false

pub data Sought (l t : ℕ) (cs : List Clause) : Type 0 where
  found : (j : ℕ) (c : Clause) → IsFirst l t cs j c → goes_through l t (map spans_of cs) ≡ c.handler_start → Sought l t cs
  nowhere : ((m : ℕ) (d : Clause) → slice_get cs m ≡ Some d → is_crossed l t (spans_of d) ≡ false) → goes_through l t (map spans_of cs) ≡ t → Sought l t cs

first_one : (b : Bool) (x y : ℕ) → b ≡ true → (if b then x else y) ≡ x
first_one true x y e = refl
first_one false x y e = absurd (let z : ⊥ = cc in z)

other_one : (b : Bool) (x y : ℕ) → b ≡ false → (if b then x else y) ≡ y
other_one true x y e = absurd (let z : ⊥ = cc in z)
other_one false x y e = refl

none_before : (l t j : ℕ) (c : Clause) (cs : List Clause) → is_crossed l t (spans_of c) ≡ false
    → ((m : ℕ) (d : Clause) → m < j → slice_get cs m ≡ Some d → is_crossed l t (spans_of d) ≡ false)
    → (m : ℕ) (d : Clause) → m < suc j → slice_get (c ∷ cs) m ≡ Some d → is_crossed l t (spans_of d) ≡ false
none_before l t j c cs e h zero d less is = let same : c ≡ d = cc in subst (λ (x : Clause). is_crossed l t (spans_of x) ≡ false) same e
none_before l t j c cs e h (suc m) d less is = h m d (omega arith) is

none_in : (l t : ℕ) (c : Clause) (cs : List Clause) → is_crossed l t (spans_of c) ≡ false
    → ((m : ℕ) (d : Clause) → slice_get cs m ≡ Some d → is_crossed l t (spans_of d) ≡ false)
    → (m : ℕ) (d : Clause) → slice_get (c ∷ cs) m ≡ Some d → is_crossed l t (spans_of d) ≡ false
none_in l t c cs e h zero d is = let same : c ≡ d = cc in subst (λ (x : Clause). is_crossed l t (spans_of x) ≡ false) same e
none_in l t c cs e h (suc m) d is = h m d is

later : (l t : ℕ) (c : Clause) (cs : List Clause) → is_crossed l t (spans_of c) ≡ false → Sought l t cs → Sought l t (c ∷ cs)
later l t c cs e (found j d s g) =
    found (suc j) d (record { is = s.is; passes = s.passes; before = none_before l t j c cs e s.before })
    (other_one (is_crossed l t (spans_of c)) c.handler_start (goes_through l t (map spans_of cs)) e ∙ g)
later l t c cs e (nowhere n g) =
    nowhere (none_in l t c cs e n) (other_one (is_crossed l t (spans_of c)) c.handler_start (goes_through l t (map spans_of cs)) e ∙ g)

pub sought : (l t : ℕ) (cs : List Clause) → Sought l t cs
sought l t [] = nowhere (λ m d is. absurd (let z : ⊥ = cc in z)) refl
sought l t (c ∷ cs) = elim (cases_Bool (is_crossed l t (spans_of c))) [
  | inl e ↦
      found 0 c (record { is = refl; passes = e; before = λ m d less is. absurd (omega arith) })
      (first_one (is_crossed l t (spans_of c)) c.handler_start (goes_through l t (map spans_of cs)) e)
  | inr e ↦ later l t c cs e (sought l t cs)
]
