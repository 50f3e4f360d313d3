-- Where `leave` and `endfinally` lead, by the finally clauses in order.
use Rattle.std.proofs.Common.{◌≡◌, inl, inr, ℕ, zero, suc, ◌+◌, ◌-◌, ◌<◌, true, false, List, [], ◌∷◌, map, refl, sym, ◌∙◌, ap, subst, Some, arith}
use Rattle.std.specs.Prelude.{slice_get}
use Rattle.std.specs.List.{Contains, list_all, flat_map}
use Rattle.std.proofs.lemmas.Bool.{and_parts, and_from, cases_lt, both_ways}
use Rattle.std.proofs.lemmas.List.Elements.{Contains-append_left, Contains-append_right}
use Rattle.assembly_tree.specs.declared.body.Clause.{Clause}
use Rattle.assembly_tree.specs.declared.body.Ins.{Ins}
use Rattle.assembly_tree.specs.WellFormedBodies.{is_forward, is_inside, is_clause}
use Rattle.code_flow.specs.declared.blocks.Spans.{Spans}
use Rattle.code_flow.specs.declared.goings.Carried.TheVariants as carries
use Rattle.code_flow.specs.declared.goings.Going.{Going}
use Rattle.code_flow.specs.declared.leaving.Leave.{Leave}
use Rattle.code_flow.specs.declared.operation.Operation.{Operation}
use Rattle.code_flow.specs.declared.operation.Operation.TheVariants as does
use Rattle.code_flow.specs.Operations.{operation}
use Rattle.code_flow.specs.Frames.{Frame}
use Rattle.code_flow.specs.Blocks.{try_block, handler_block, handling_blocks, filter_blocks, blocks_of, blocks, ClausesNest}
use Rattle.code_flow.specs.BlockTests.{spans_of}
use Rattle.code_flow.specs.PlaceTests.{is_innermost_range}
use Rattle.code_flow.specs.Edges.{Does, targets, Leaves, Crosses, CrossesFirst, CrossesNext, EndsFinally, stated, Edge, leave, leave_finally, next_finally, finally_left}
use Rattle.code_flow.specs.GoingTests.{going, is_finally, is_crossed, goes_through, is_leave, leave_to, leaves_at, leaves_from, on_from, is_ended, ended_of, ends_from}
use Rattle.code_flow.proofs.Members.{here, there, either, none, contains_at, in_flat, of_flat, of_append}
use Rattle.code_flow.proofs.Innermost.{innermost_to, innermost_from}
use Rattle.code_flow.proofs.PairLemmas.{in_if, if_in, of_map, in_map, one_item, behind, behind_at, past}
use Rattle.code_flow.proofs.Crossing.{ordered, not_back, is_ending_kind, finally_from, left_by, crossed_by, IsFirst, Sought, found, nowhere, sought}

-- ---- crossing in a frame

pub crosses_by : (f : Frame) (l t j : ℕ) (c : Clause) → Leaves f l t → slice_get f.clauses j ≡ Some c → is_crossed l t (spans_of c) ≡ true → Crosses f l t j c
crosses_by f l t j c lv is h = let p = left_by l t c h in record { leaves = lv; is = is; finally = p.kind; from = p.holds; out = p.out }

pub crossed : (f : Frame) (l t j : ℕ) (c : Clause) → Crosses f l t j c → is_crossed l t (spans_of c) ≡ true
crossed f l t j c x = crossed_by l t c x.finally x.from x.out

uncrossed : (f : Frame) (l t j : ℕ) (c : Clause) → is_crossed l t (spans_of c) ≡ false → Crosses f l t j c → ⊥
uncrossed f l t j c e x = both_ways (is_crossed l t (spans_of c)) e (crossed f l t j c x)

pub all_forward : (n : ℕ) (cs : List Clause) → list_all (is_clause n) cs ≡ true → list_all is_forward cs ≡ true
unfolding is_clause
all_forward n [] h = refl
all_forward n (c ∷ cs) h =
    let p = and_parts (is_clause n c) (list_all (is_clause n) cs) h in
    let q = and_parts (is_forward c) (is_inside n c) p.0 in
    and_from (is_forward c) (list_all is_forward cs) q.0 (all_forward n cs p.1)

module _ (f : Frame) (nest : ClausesNest f.clauses) (fw : list_all is_forward f.clauses ≡ true) where
  -- ---- leave

  first_crossing : (l t j : ℕ) (c : Clause) → Leaves f l t → IsFirst l t f.clauses j c → CrossesFirst f l t j c
  first_crossing l t j c lv s =
      let x = crosses_by f l t j c lv s.is s.passes in
      record {
        crosses = x;
        inner = λ i d y ne. ordered f.clauses nest fw l j i c d (past j i ne (λ less. uncrossed f l t i d (s.before i d less y.is) y)) s.is y.is x.from y.from;
      }

  leave_by : (l t : ℕ) → Leaves f l t → Sought l t f.clauses → Edge f l (goes_through l t (map spans_of f.clauses)) (stated [])
  leave_by l t lv (found j c s e) = subst (λ (x : ℕ). Edge f l x (stated [])) (sym e) (leave_finally (first_crossing l t j c lv s) refl)
  leave_by l t lv (nowhere n e) = subst (λ (x : ℕ). Edge f l x (stated [])) (sym e) (leave lv (λ j d x. uncrossed f l t j d (n j d x.is) x))

  pub leave_edge : (l t : ℕ) → Leaves f l t → Edge f l (goes_through l t (map spans_of f.clauses)) (stated [])
  leave_edge l t lv = leave_by l t lv (sought l t f.clauses)

  first_is : (l t place : ℕ) (c : Clause) → CrossesFirst f l t place c → (j : ℕ) (d : Clause) → IsFirst l t f.clauses j d → d ≡ c
  first_is l t place c x j d s =
      let y = crosses_by f l t j d x.crosses.leaves s.is s.passes in
      elim (cases_lt j place) [
        | inl e ↦ absurd (not_back f.clauses nest fw l j place d c e s.is x.crosses.is y.from x.crosses.from (x.inner j d y (λ q. omega (arith, q))))
        | inr e ↦ elim (cases_lt place j) [
          | inl g ↦ absurd (uncrossed f l t place c (s.before place c g x.crosses.is) x.crosses)
          | inr g ↦ one_item f.clauses j place d c (omega arith) s.is x.crosses.is
        ]
      ]

  first_by : (l t place : ℕ) (c : Clause) → CrossesFirst f l t place c → Sought l t f.clauses → goes_through l t (map spans_of f.clauses) ≡ c.handler_start
  first_by l t place c x (found j d s e) = e ∙ ap (λ (z : Clause). z.handler_start) (first_is l t place c x j d s)
  first_by l t place c x (nowhere n e) = absurd (uncrossed f l t place c (n place c x.crosses.is) x.crosses)

  pub first_goes : (l t place : ℕ) (c : Clause) → CrossesFirst f l t place c → goes_through l t (map spans_of f.clauses) ≡ c.handler_start
  first_goes l t place c x = first_by l t place c x (sought l t f.clauses)

  leave_by_none : (l t : ℕ) → Leaves f l t → ((j : ℕ) (d : Clause) → Crosses f l t j d → ⊥) → Sought l t f.clauses → goes_through l t (map spans_of f.clauses) ≡ t
  leave_by_none l t lv no_cross (found j d s e) = absurd (no_cross j d (crosses_by f l t j d lv s.is s.passes))
  leave_by_none l t lv no_cross (nowhere n e) = e

  pub leave_goes : (l t : ℕ) → Leaves f l t → ((j : ℕ) (d : Clause) → Crosses f l t j d → ⊥) → goes_through l t (map spans_of f.clauses) ≡ t
  leave_goes l t lv no_cross = leave_by_none l t lv no_cross (sought l t f.clauses)

  -- ---- from a finally clause on

  -- a clause behind the place, by its own place
  at_behind : (i j : ℕ) (d : Clause) → slice_get (behind i f.clauses) j ≡ Some d → slice_get f.clauses (i + 1 + j) ≡ Some d
  at_behind i j d is = sym (behind_at f.clauses i j (i + 1 + j) refl) ∙ is

  from_behind : (i p : ℕ) (d : Clause) → i < p → slice_get f.clauses p ≡ Some d → slice_get (behind i f.clauses) (p - i - 1) ≡ Some d
  from_behind i p d less is = behind_at f.clauses i (p - i - 1) p (omega arith) ∙ is

  next_crossing : (l t i : ℕ) (c : Clause) → Crosses f l t i c → (j : ℕ) (d : Clause) → IsFirst l t (behind i f.clauses) j d → CrossesNext f l t i c (i + 1 + j) d
  next_crossing l t i c x j d s =
      let is = at_behind i j d s.is in
      let y = crosses_by f l t (i + 1 + j) d x.leaves is s.passes in
      record {
        crosses = y;
        other = λ q. omega (arith, q);
        outer = ordered f.clauses nest fw l i (i + 1 + j) c d (omega arith) x.is is x.from y.from;
        next = λ p e z not_i not_j w.
            let beyond = past i p not_i (λ less. not_back f.clauses nest fw l p i e c less z.is x.is z.from x.from w) in
            ordered f.clauses nest fw l (i + 1 + j) p d e
            (past (i + 1 + j) p not_j (λ less. uncrossed f l t p e (s.before (p - i - 1) e (omega (arith, beyond)) (from_behind i p e beyond z.is)) z)) is z.is y.from z.from;
      }

  next_beyond : (l t i : ℕ) (c : Clause) → Crosses f l t i c → (p : ℕ) (d : Clause) → CrossesNext f l t i c p d → i < p
  next_beyond l t i c x p d y = past i p y.other (λ less. not_back f.clauses nest fw l p i d c less y.crosses.is x.is y.crosses.from x.from y.outer)

  end_by : (k l t i : ℕ) (c : Clause) → EndsFinally f k i c → Crosses f l t i c → Sought l t (behind i f.clauses)
      → Edge f k (goes_through l t (map spans_of (behind i f.clauses))) (stated [])
  end_by k l t i c ends x (found j d s e) = subst (λ (z : ℕ). Edge f k z (stated [])) (sym e) (next_finally ends x (next_crossing l t i c x j d s) refl)
  end_by k l t i c ends x (nowhere n e) =
      subst (λ (z : ℕ). Edge f k z (stated [])) (sym e)
      (finally_left ends x (λ p d y.
      let beyond = next_beyond l t i c x p d y in
      uncrossed f l t p d (n (p - i - 1) d (from_behind i p d beyond y.crosses.is)) y.crosses))

  pub end_edge : (k l t i : ℕ) (c : Clause) → EndsFinally f k i c → Crosses f l t i c → Edge f k (goes_through l t (map spans_of (behind i f.clauses))) (stated [])
  end_edge k l t i c ends x = end_by k l t i c ends x (sought l t (behind i f.clauses))

  next_is : (l t i : ℕ) (c : Clause) → Crosses f l t i c → (p : ℕ) (d : Clause) → CrossesNext f l t i c p d
      → (j : ℕ) (e : Clause) → IsFirst l t (behind i f.clauses) j e → e ≡ d
  next_is l t i c x p d y j e s =
      let is = at_behind i j e s.is in
      let z = crosses_by f l t (i + 1 + j) e x.leaves is s.passes in
      let beyond = next_beyond l t i c x p d y in
      elim (cases_lt (i + 1 + j) p) [
        | inl less ↦ absurd (not_back f.clauses nest fw l (i + 1 + j) p e d less is y.crosses.is z.from y.crosses.from
            (y.next (i + 1 + j) e z (λ q. omega (arith, q)) (λ q. omega (arith, q)) (ordered f.clauses nest fw l i (i + 1 + j) c e (omega arith) x.is is x.from z.from)))
        | inr more ↦ elim (cases_lt p (i + 1 + j)) [
          | inl less ↦ absurd (uncrossed f l t p d (s.before (p - i - 1) d (omega (arith, beyond)) (from_behind i p d beyond y.crosses.is)) y.crosses)
          | inr g ↦ one_item f.clauses (i + 1 + j) p e d (omega arith) is y.crosses.is
        ]
      ]

  next_by : (l t i : ℕ) (c : Clause) → Crosses f l t i c → (p : ℕ) (d : Clause) → CrossesNext f l t i c p d → Sought l t (behind i f.clauses)
      → goes_through l t (map spans_of (behind i f.clauses)) ≡ d.handler_start
  next_by l t i c x p d y (found j e s g) = g ∙ ap (λ (z : Clause). z.handler_start) (next_is l t i c x p d y j e s)
  next_by l t i c x p d y (nowhere n g) =
      absurd (uncrossed f l t p d (n (p - i - 1) d (from_behind i p d (next_beyond l t i c x p d y) y.crosses.is)) y.crosses)

  pub next_goes : (l t i : ℕ) (c : Clause) → Crosses f l t i c → (p : ℕ) (d : Clause) → CrossesNext f l t i c p d
      → goes_through l t (map spans_of (behind i f.clauses)) ≡ d.handler_start
  next_goes l t i c x p d y = next_by l t i c x p d y (sought l t (behind i f.clauses))

  last_by : (l t i : ℕ) (c : Clause) → Crosses f l t i c → ((j : ℕ) (d : Clause) → CrossesNext f l t i c j d → ⊥) → Sought l t (behind i f.clauses)
      → goes_through l t (map spans_of (behind i f.clauses)) ≡ t
  last_by l t i c x no_next (found j d s e) = absurd (no_next (i + 1 + j) d (next_crossing l t i c x j d s))
  last_by l t i c x no_next (nowhere n e) = e

  pub last_goes : (l t i : ℕ) (c : Clause) → Crosses f l t i c → ((j : ℕ) (d : Clause) → CrossesNext f l t i c j d → ⊥)
      → goes_through l t (map spans_of (behind i f.clauses)) ≡ t
  last_goes l t i c x no_next = last_by l t i c x no_next (sought l t (behind i f.clauses))

-- ---- the list of leaves

pub leave_op : (o : Operation) → is_leave o ≡ true → o ≡ does.Leave
leave_op does.Leave e = refl
leave_op o e = absurd (let z : ⊥ = cc in z)

-- a `leave` in a list of instructions, of which the first has number `k`
record LeftAt (k : ℕ) (code : List Ins) (l : Leave) : Type 0 where
  place : ℕ
  ins : Ins
  is : slice_get code place ≡ Some ins
  leaves : operation ins.op ≡ does.Leave
  to : Contains (targets ins.operand) l.to
  at : l.at ≡ k + place

left_at : (k : ℕ) (code : List Ins) (l : Leave) → Contains (leaves_from k code) l → LeftAt k code l
left_at k [] l h = absurd (none l h)
left_at k (i ∷ more) l h = elim (of_append (leaves_at k i) (leaves_from (k + 1) more) l h) [
  | inl m ↦
      let b = in_if (is_leave (operation i.op)) (map (leave_to k) (targets i.operand)) l m in
      let q = of_map (leave_to k) (targets i.operand) l b.1 in
      record {
        place = 0;
        ins = i;
        is = refl;
        leaves = leave_op (operation i.op) b.0;
        to = subst (λ (z : Leave). Contains (targets i.operand) z.to) q.2 q.1;
        at = let e : k ≡ l.at = ap (λ (z : Leave). z.at) q.2 in omega arith;
      }
  | inr m ↦
      let r = left_at (k + 1) more l m in
      record { place = suc r.place; ins = r.ins; is = r.is; leaves = r.leaves; to = r.to; at = omega (arith, r.at) }
]

left_in : (k : ℕ) (code : List Ins) (j : ℕ) (i : Ins) (t : ℕ) → slice_get code j ≡ Some i → operation i.op ≡ does.Leave → Contains (targets i.operand) t
    → (p : ℕ) → p ≡ k + j → Contains (leaves_from k code) (leave_to p t)
left_in k [] j i t is lv c p e = absurd (let z : ⊥ = cc in z)
left_in k (x ∷ xs) zero i t is lv c p e =
    let same : i ≡ x = cc in
    let at : k ≡ p = omega arith in
    let leaves = subst (λ (z : Ins). operation z.op ≡ does.Leave) same lv in
    let to = subst (λ (z : Ins). Contains (targets z.operand) t) same c in
    subst (λ (n : ℕ). Contains (leaves_from k (x ∷ xs)) (leave_to n t)) at
    (Contains-append_left (leaves_at k x) (leaves_from (k + 1) xs) (leave_to k t)
    (if_in (is_leave (operation x.op)) (map (leave_to k) (targets x.operand)) (leave_to k t) (ap is_leave leaves) (in_map (leave_to k) (targets x.operand) t to)))
left_in k (x ∷ xs) (suc j) i t is lv c p e =
    Contains-append_right (leaves_at k x) (leaves_from (k + 1) xs) (leave_to p t) (left_in (k + 1) xs j i t is lv c p (omega arith))

pub leaves_in : (f : Frame) (l t : ℕ) → Leaves f l t → Contains (leaves_from 0 f.code) (leave_to l t)
leaves_in f l t lv = left_in 0 f.code l lv.ins t lv.is.is lv.is.does lv.to l (omega arith)

pub in_leaves : (f : Frame) (l : Leave) → Contains (leaves_from 0 f.code) l → Leaves f l.at l.to
in_leaves f l h =
    let r = left_at 0 f.code l h in
    let e : r.place ≡ l.at = omega (arith, r.at) in
    record { ins = r.ins; is = record { is = subst (λ (n : ℕ). slice_get f.code n ≡ Some r.ins) e r.is; does = r.leaves }; to = r.to }

-- ---- the list of what an `endfinally` goes to

pub record Ending (all : List Spans) (leaves : List Leave) (k : ℕ) (cs : List Clause) (g : Going) : Type 0 where
  pub place : ℕ
  pub clause : Clause
  pub left : Leave
  pub is : slice_get cs place ≡ Some clause
  pub ends : is_ended all k (spans_of clause) ≡ true
  pub among : Contains leaves left
  pub crosses : is_crossed left.at left.to (spans_of clause) ≡ true
  pub to : going carries.Nothing (goes_through left.at left.to (map spans_of (behind place cs))) ≡ g

pub ending : (all : List Spans) (leaves : List Leave) (k : ℕ) (cs : List Clause) (g : Going) → Contains (ends_from all leaves k (map spans_of cs)) g → Ending all leaves k cs g
ending all leaves k [] g h = absurd (none g h)
ending all leaves k (c ∷ cs) g h = elim (of_append (ended_of all leaves k (spans_of c) (map spans_of cs)) (ends_from all leaves k (map spans_of cs)) g h) [
  | inl m ↦
      let b = in_if (is_ended all k (spans_of c)) (flat_map (on_from (spans_of c) (map spans_of cs)) leaves) g m in
      let q = of_flat (on_from (spans_of c) (map spans_of cs)) leaves g b.1 in
      let to = going carries.Nothing (goes_through q.0.at q.0.to (map spans_of cs)) in
      let r = in_if (is_crossed q.0.at q.0.to (spans_of c)) (to ∷ []) g q.2 in
      record {
        place = 0;
        clause = c;
        left = q.0;
        is = refl;
        ends = b.0;
        among = q.1;
        crosses = r.0;
        to = elim (either to [] g r.1) [
          | inl e ↦ e
          | inr more ↦ absurd (none g more)
        ];
      }
  | inr m ↦
      let r = ending all leaves k cs g m in
      record { place = suc r.place; clause = r.clause; left = r.left; is = r.is; ends = r.ends; among = r.among; crosses = r.crosses; to = r.to }
]

ends_first : (all : List Spans) (leaves : List Leave) (k : ℕ) (c : Clause) (cs : List Clause) (l : Leave) → is_ended all k (spans_of c) ≡ true → Contains leaves l
    → is_crossed l.at l.to (spans_of c) ≡ true → Contains (ends_from all leaves k (map spans_of (c ∷ cs))) (going carries.Nothing (goes_through l.at l.to (map spans_of cs)))
ends_first all leaves k c cs l e m h =
    let to = going carries.Nothing (goes_through l.at l.to (map spans_of cs)) in
    Contains-append_left (ended_of all leaves k (spans_of c) (map spans_of cs)) (ends_from all leaves k (map spans_of cs)) to
    (if_in (is_ended all k (spans_of c)) (flat_map (on_from (spans_of c) (map spans_of cs)) leaves) to e
    (in_flat (on_from (spans_of c) (map spans_of cs)) leaves l to m (if_in (is_crossed l.at l.to (spans_of c)) (to ∷ []) to h (here to []))))

pub ends_in : (all : List Spans) (leaves : List Leave) (k : ℕ) (cs : List Clause) (place : ℕ) (c : Clause) (l : Leave) → slice_get cs place ≡ Some c
    → is_ended all k (spans_of c) ≡ true → Contains leaves l → is_crossed l.at l.to (spans_of c) ≡ true
    → Contains (ends_from all leaves k (map spans_of cs)) (going carries.Nothing (goes_through l.at l.to (map spans_of (behind place cs))))
ends_in all leaves k [] place c l is e m h = absurd (let z : ⊥ = cc in z)
ends_in all leaves k (x ∷ xs) zero c l is e m h =
    let same : c ≡ x = cc in
    subst (λ (z : Clause). Contains (ends_from all leaves k (map spans_of (z ∷ xs))) (going carries.Nothing (goes_through l.at l.to (map spans_of xs)))) same
    (ends_first all leaves k c xs l e m h)
ends_in all leaves k (x ∷ xs) (suc place) c l is e m h =
    Contains-append_right (ended_of all leaves k (spans_of x) (map spans_of xs)) (ends_from all leaves k (map spans_of xs))
    (going carries.Nothing (goes_through l.at l.to (map spans_of (behind place xs)))) (ends_in all leaves k xs place c l is e m h)

-- ---- the end of a finally clause

handler_in : (cs : List Clause) (c : Clause) → Contains cs c → Contains (blocks cs) (handler_block c)
handler_in cs c is = in_flat blocks_of cs c (handler_block c) is (there (try_block c) (handling_blocks c) (handler_block c) (here (handler_block c) (filter_blocks c.handler_start c.kind)))

pub ends_by : (f : Frame) (k : ℕ) (i : Ins) → Does f k does.EndFinally i → (place : ℕ) (c : Clause) → slice_get f.clauses place ≡ Some c
    → is_ended (map spans_of f.clauses) k (spans_of c) ≡ true → EndsFinally f k place c
ends_by f k i d place c is h =
    let p = and_parts (is_finally (spans_of c).handling) (is_innermost_range (map spans_of f.clauses) k (spans_of c).handler) h in
    record {
      ins = i;
      does = d;
      is = is;
      finally = is_ending_kind c p.0;
      innermost = innermost_to f.clauses k (handler_block c) (handler_in f.clauses c (contains_at f.clauses place c is)) p.1;
    }

pub by_ends : (f : Frame) (k place : ℕ) (c : Clause) → EndsFinally f k place c → is_ended (map spans_of f.clauses) k (spans_of c) ≡ true
by_ends f k place c e =
    and_from (is_finally (spans_of c).handling) (is_innermost_range (map spans_of f.clauses) k (spans_of c).handler) (finally_from c e.finally)
    (innermost_from f.clauses k (handler_block c) e.innermost)
