-- What follows a run of prefixes, and whether a prefix fits it.
use Rattle.std.proofs.Common.{◌≡◌, inl, inr, ℕ, ◌+◌, ◌<◌, Bool, true, false, not, ◌&&◌, List, length, refl, sym, ◌∙◌, ap, subst, Option, None, Some, arith}
use Rattle.std.specs.Prelude.{◌↔◌, IsTrue, slice_get, slice_index_or}
use Rattle.std.proofs.lemmas.Bool.{and_parts, and_from, cases_lt, both_ways, not-true, not_from_false, false_from_ne_true}
use Rattle.std.proofs.lemmas.Option.{slice_get_within}
use Rattle.assembly_tree.specs.declared.body.Ins.{Ins}
use Rattle.code_flow.specs.declared.operation.Operation.{Operation}
use Rattle.code_flow.specs.declared.operation.Operation.TheVariants as does
use Rattle.code_flow.specs.declared.operation.Prefix.{Prefix}
use Rattle.code_flow.specs.declared.operation.Prefix.TheVariants.{Constrained, Tail, Readonly, Unaligned, Volatile}
use Rattle.code_flow.specs.Operations.{operation}
use Rattle.code_flow.specs.Frames.{Frame}
use Rattle.code_flow.specs.Edges.{Does}
use Rattle.code_flow.specs.Prefixes.{is_prefix, goes_with, IsTarget, IsBoundary, IsNextAfter, IsBeforeReturn, Fits}
use Rattle.code_flow.specs.Marks.{IsMarked, target, boundary, HaveMarks, IsPast, IsStray, returns_at, returns_after, fits_at, is_stray_by, prefix_at}
use Rattle.code_flow.specs.CodeTests.{is_return}
use Rattle.code_flow.proofs.CodeLemmas.{return_op}
use Rattle.code_flow.proofs.PairLemmas.{item_at, one_item}

-- ---- the run

pub past_kept : (code : List Ins) (j k known : ℕ) → j + 1 ≡ k → k < known → IsPast code j known → IsPast code k known
past_kept code j k known e less p = record { later = less; prefixes = λ m i a b is. p.prefixes m i (omega arith) b is; other = p.other }

prefix_op : (o : Operation) → is_prefix o ≡ true → (p : Prefix) × (o ≡ does.Prefix p)
prefix_op (does.Prefix p) e = (p, refl)
prefix_op o e = absurd (let z : ⊥ = cc in z)

-- one prefix more
pub prefixes_more : (code : List Ins) (k at : ℕ) → prefix_at (slice_get code at) ≡ true
    → ((m : ℕ) (i : Ins) → k < m → m < at → slice_get code m ≡ Some i → IsTrue (is_prefix (operation i.op)))
    → (m : ℕ) (i : Ins) → k < m → m < at + 1 → slice_get code m ≡ Some i → IsTrue (is_prefix (operation i.op))
prefixes_more code k at h before m i a b is = elim (cases_lt m at) [
  | inl e ↦ before m i a e is
  | inr e ↦
      let same : m ≡ at = omega arith in
      let here : slice_get code at ≡ Some i = subst (λ (n : ℕ). slice_get code n ≡ Some i) same is in
      sym (ap prefix_at here) ∙ h
]

pub not_prefix : (code : List Ins) (at : ℕ) → prefix_at (slice_get code at) ≡ false → (i : Ins) → slice_get code at ≡ Some i → is_prefix (operation i.op) ≡ false
not_prefix code at h i is = sym (ap prefix_at is) ∙ h

pub past_end : (code : List Ins) (i : Ins) → slice_get code (length code) ≡ Some i → is_prefix (operation i.op) ≡ false
past_end code i is = let below = slice_get_within code (length code) i is in absurd (omega (arith, below))

module _ (f : Frame) (k at : ℕ) (past : IsPast f.code k at) where
  next_by : (i : Ins) → slice_get f.code at ≡ Some i → IsNextAfter f k at (operation i.op)
  next_by i is =
      let below = slice_get_within f.code at i is in
      record {
        ins = i;
        later = past.later;
        prefixes = λ m a b.
            let x = item_at f.code m (omega (arith, below)) in
            let p = prefix_op (operation x.0.op) (past.prefixes m x.0 a b x.1) in
            (p.0, x.0, record { is = x.1; does = p.1 });
        does = record { is = is; does = refl };
        none = past.other i is;
      }

  same_place : (j : ℕ) (o : Operation) → IsNextAfter f k j o → j ≡ at
  same_place j o n = elim (cases_lt j at) [
    | inl e ↦
        absurd (both_ways (is_prefix (operation n.ins.op)) (ap is_prefix n.does.does ∙ n.none) (past.prefixes j n.ins n.later e n.does.is))
    | inr e ↦ elim (cases_lt at j) [
      | inl g ↦
          let d = n.prefixes at past.later g in
          absurd (both_ways (is_prefix (operation d.1.op)) (past.other d.1 d.2.is) (ap is_prefix d.2.does))
      | inr g ↦ omega arith
    ]
  ]

-- ---- `ret` behind

ret_by : (f : Frame) (j : ℕ) (x : Option Ins) → slice_get f.code j ≡ x → returns_at x ≡ true → (i : Ins) × Does f j does.Return i
ret_by f j None e h = absurd (let z : ⊥ = cc in z)
ret_by f j (Some i) e h = (i, record { is = e; does = return_op (operation i.op) h })

returns_to : (f : Frame) (p : Prefix) (j : ℕ) → returns_after p (slice_get f.code (j + 1)) ≡ true → IsBeforeReturn f p j
returns_to f Tail j h = ret_by f (j + 1) (slice_get f.code (j + 1)) refl h
returns_to f Constrained j h = tt
returns_to f Readonly j h = tt
returns_to f Unaligned j h = tt
returns_to f Volatile j h = tt

to_returns : (f : Frame) (p : Prefix) (j : ℕ) → IsBeforeReturn f p j → returns_after p (slice_get f.code (j + 1)) ≡ true
to_returns f Tail j r = ap returns_at r.1.is ∙ ap is_return r.1.does
to_returns f Constrained j r = refl
to_returns f Readonly j r = refl
to_returns f Unaligned j r = refl
to_returns f Volatile j r = refl

-- ---- whether it fits

module _ (f : Frame) (marks : List Bool) (have : HaveMarks f marks) (k at : ℕ) (past : IsPast f.code k at) (p : Prefix) where
  unmarked : at < length f.code → slice_index_or marks at false ≡ false → IsMarked f at → ⊥
  unmarked below e m = both_ways (slice_index_or marks at false) e ((have.are at below).1 m)

  fits_by : (x : Option Ins) → slice_get f.code at ≡ x → fits_at f.code marks p at x ≡ true → Fits f k p
  fits_by None e h = absurd (let z : ⊥ = cc in z)
  fits_by (Some i) e h =
      let a = and_parts (goes_with p (operation i.op) && returns_after p (slice_get f.code (at + 1))) (not (slice_index_or marks at false)) h in
      let b = and_parts (goes_with p (operation i.op)) (returns_after p (slice_get f.code (at + 1))) a.0 in
      let below = slice_get_within f.code at i e in
      let off = not-true (slice_index_or marks at false) a.1 in
      record {
        at = at;
        operation = operation i.op;
        next = next_by f k at past i e;
        goes = b.0;
        returns = returns_to f p at b.1;
        no_target = λ t. unmarked below off (target t);
        no_boundary = λ t. unmarked below off (boundary t);
      }

  unmarked_by : (t : ℕ) → t < length f.code → (IsTarget f t → ⊥) → (IsBoundary f t → ⊥) → IsMarked f t → ⊥
  unmarked_by t below a b (target x) = a x
  unmarked_by t below a b (boundary x) = b x

  by_fits : Fits f k p → fits_at f.code marks p at (slice_get f.code at) ≡ true
  by_fits x =
      let e = same_place f k at past x.at x.operation x.next in
      let is = subst (λ (n : ℕ). slice_get f.code n ≡ Some x.next.ins) e x.next.does.is in
      let below = slice_get_within f.code at x.next.ins is in
      let goes = ap (goes_with p) x.next.does.does ∙ x.goes in
      let returns = subst (λ (n : ℕ). returns_after p (slice_get f.code (n + 1)) ≡ true) e (to_returns f p x.at x.returns) in
      let off = false_from_ne_true (slice_index_or marks at false)
      (λ h. unmarked_by at below (subst (λ (n : ℕ). IsTarget f n → ⊥) e x.no_target) (subst (λ (n : ℕ). IsBoundary f n → ⊥) e x.no_boundary) ((have.are at below).0 h)) in
      ap (fits_at f.code marks p at) is
      ∙ and_from (goes_with p (operation x.next.ins.op) && returns_after p (slice_get f.code (at + 1))) (not (slice_index_or marks at false))
      (and_from (goes_with p (operation x.next.ins.op)) (returns_after p (slice_get f.code (at + 1))) goes returns)
      (not_from_false (slice_index_or marks at false) off)

-- ---- a stray prefix

stray_to : (f : Frame) (marks : List Bool) → HaveMarks f marks → (k at : ℕ) → IsPast f.code k at → (i : Ins) → slice_get f.code k ≡ Some i → (o : Operation) → operation i.op ≡ o
    → is_stray_by f.code marks at o ≡ true → IsStray f k
stray_to f marks have k at past i is (does.Prefix p) d h =
    record {
      ins = i;
      prefix = p;
      does = record { is = is; does = d };
      stray = λ x. both_ways (fits_at f.code marks p at (slice_get f.code at)) (not-true (fits_at f.code marks p at (slice_get f.code at)) h) (by_fits f marks have k at past p x);
    }
stray_to f marks have k at past i is o d h = absurd (let z : ⊥ = cc in z)

to_stray : (f : Frame) (marks : List Bool) → HaveMarks f marks → (k at : ℕ) → IsPast f.code k at → (i : Ins) → slice_get f.code k ≡ Some i → IsStray f k
    → is_stray_by f.code marks at (operation i.op) ≡ true
to_stray f marks have k at past i is s =
    let same = one_item f.code k k i s.ins refl is s.does.is in
    let o = ap (λ (z : Ins). operation z.op) same ∙ s.does.does in
    subst (λ (z : Operation). is_stray_by f.code marks at z ≡ true) (sym o)
    (not_from_false (fits_at f.code marks s.prefix at (slice_get f.code at))
    (false_from_ne_true (fits_at f.code marks s.prefix at (slice_get f.code at)) (λ h. s.stray (fits_by f marks have k at past s.prefix (slice_get f.code at) refl h))))

pub stray_exact : (f : Frame) (marks : List Bool) → HaveMarks f marks → (k at : ℕ) → IsPast f.code k at → (i : Ins) → slice_get f.code k ≡ Some i
    → IsTrue (is_stray_by f.code marks at (operation i.op)) ↔ IsStray f k
stray_exact f marks have k at past i is = (λ h. stray_to f marks have k at past i is (operation i.op) refl h, λ s. to_stray f marks have k at past i is s)
