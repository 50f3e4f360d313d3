-- From what is told of an instruction to the first rule that it breaks.
use Rattle.std.proofs.Common.{◌≡◌, ◌⊎◌, inl, inr, refl, sym, ◌∙◌, ap, subst, ℕ, zero, suc, ◌+◌, ◌<◌, arith, Bool, true, false, List, [], ◌∷◌, length, get_or, Option, Some, None, IsTrue}
use Rattle.std.specs.Prelude.{slice_get, ◌&&◌, ◌||◌, ◌↔◌}
use Rattle.std.proofs.lemmas.Bool.{and_parts, or_cases}
use Rattle.assembly_tree.specs.declared.body.Ins.{Ins}
use Rattle.type_hierarchy.specs.Stack.{Stack}
use Rattle.body_verifier.specs.declared.judging.StackBreaks.{StackBreaks}
use Rattle.body_verifier.specs.declared.judging.CodeBreaks.{CodeBreaks}
use Rattle.code_flow.specs.declared.operation.Operation.{Operation}
use Rattle.code_flow.specs.declared.operation.Operation.TheVariants as does
use Rattle.code_flow.specs.CodeRules.{IsMisplaced, leaves, rethrows, ends_finally, ends_filter, IsUnverified, unlisted, explicit}
use Rattle.code_flow.specs.Edges.{Does}
use Rattle.code_flow.specs.Frames.{Frame}
use Rattle.body_verifier.specs.Judging.{LeavesMore, HasUnfitPrefix, AreKept}
use Rattle.code_flow.specs.Marks.{IsStray}
use Rattle.code_flow.specs.Operations.{operation}
use Rattle.code_flow.specs.Rows.{row_of}
use Rattle.code_flow.specs.Rules as rules
use Rattle.code_flow.specs.Typings.{stack, Typing}
use Rattle.body_verifier.specs.Verdicts.{AreStackBreaks, AreCodeBreaks, is_return, is_filter_end, tests_of, IsFirst, IsFirstAt, Judges}
use Rattle.body_verifier.proofs.RuleLemmas.{breaks_first, breaks_none}

clash_of : (x : Bool) → x ≡ true → x ≡ false → ⊥
clash_of x a e = let f : true ≡ false = sym a ∙ e in cc

return_is : (o : Operation) → is_return o ≡ true → o ≡ does.Return
return_is does.Return e = refl
return_is o e = cc

filter_end_is : (o : Operation) → is_filter_end o ≡ true → o ≡ does.EndFilter
filter_end_is does.EndFilter e = refl
filter_end_is o e = cc

both_true : (a b : Bool) → a ≡ true → b ≡ true → (a && b) ≡ true
both_true true true p q = refl
both_true true false p q = q
both_true false b p q = p

one_of_two : (a b : Bool) → (a ≡ true) ⊎ (b ≡ true) → (a || b) ≡ true
one_of_two true b h = refl
one_of_two false b (inl p) = cc
one_of_two false b (inr q) = q

-- the tests with three of them worked out before
pub same_tests : (s : StackBreaks) (c : CodeBreaks) (o : Operation) (x y z : Bool) → x ≡ ((is_return o && s.more) || c.returns_inside) → y ≡ (c.enters_try && s.full)
    → z ≡ (c.misplaced || (is_filter_end o && s.more))
    → (s.too_few ∷ false ∷ s.too_deep ∷ s.wrong ∷ s.unfit ∷ c.runs_off ∷ s.mismatched ∷ c.lacks_local ∷ c.lacks_argument ∷ c.misfits
    ∷ x ∷ c.branches_across ∷ c.falls_across ∷ y ∷ z ∷ false ∷ c.unfit_prefix ∷ c.unverified ∷ c.points_to_reference ∷ []) ≡ tests_of s c o
same_tests s c o x y z e f g = λ i.
    s.too_few ∷ false ∷ s.too_deep ∷ s.wrong ∷ s.unfit ∷ c.runs_off ∷ s.mismatched ∷ c.lacks_local ∷ c.lacks_argument ∷ c.misfits
    ∷ e i ∷ c.branches_across ∷ c.falls_across ∷ f i ∷ g i ∷ false ∷ c.unfit_prefix ∷ c.unverified ∷ c.points_to_reference ∷ []

same_ins : (f : Frame) (k : ℕ) (i j : Ins) → slice_get f.code k ≡ Some i → slice_get f.code k ≡ Some j → j ≡ i
same_ins f k i j a b = let e : Some j ≡ Some i = sym b ∙ a in cc

module _ (f : Frame) (typing : Typing) (k : ℕ) (i : Ins) (s : List Stack) (o : Operation) (b : StackBreaks) (c : CodeBreaks)
    (here : slice_get f.code k ≡ Some i) (acts : operation i.op ≡ o) (is : typing k ≡ stack s)
    (h : AreStackBreaks f.types f.bound (row_of f k i) s b) (d : AreCodeBreaks f k c) where
  acts_there : (p : Operation) → LeavesMore f k p s → (o ≡ p) × (b.more ≡ true)
  acts_there p m =
      let e : m.ins ≡ i = same_ins f k i m.ins here m.does.is in
      let P : Ins → Type 0 = λ (j : Ins). length (row_of f k j).operands < length s in
      (sym acts ∙ ap (λ (j : Ins). operation j.op) (sym e) ∙ m.does.does, h.above.1 (subst P e m.more))

  returns_deep : LeavesMore f k does.Return s → (is_return o && b.more) ≡ true
  returns_deep m = let p = acts_there does.Return m in both_true (is_return o) b.more (ap is_return p.0) p.1

  ends_deep : LeavesMore f k does.EndFilter s → (is_filter_end o && b.more) ≡ true
  ends_deep m = let p = acts_there does.EndFilter m in both_true (is_filter_end o) b.more (ap is_filter_end p.0) p.1

  kept_by : (rule : ℕ) → ((n : ℕ) → n + 1 < rule → get_or (tests_of b c o) n false ≡ false) → AreKept f k i s rule
  kept_by rule off = record {
    v1 = λ lt t. clash_of b.too_few (h.few.1 t) (off 0 lt);
    v3 = λ lt t. clash_of b.too_deep (h.deep.1 t) (off 2 lt);
    v4 = λ lt t. clash_of b.wrong (h.kinds.1 t) (off 3 lt);
    v5 = λ lt t. clash_of b.unfit (h.fits.1 t) (off 4 lt);
    v6 = λ lt t. clash_of c.runs_off (d.off.1 t) (off 5 lt);
    v7 = λ lt t. clash_of b.mismatched (h.pairs.1 t) (off 6 lt);
    v8 = λ lt t. clash_of c.lacks_local (d.local.1 t) (off 7 lt);
    v9 = λ lt t. clash_of c.lacks_argument (d.argument.1 t) (off 8 lt);
    v10 = λ lt t. clash_of c.misfits (d.member.1 t) (off 9 lt);
    v11 = λ lt t. clash_of ((is_return o && b.more) || c.returns_inside) (one_of_two (is_return o && b.more) c.returns_inside (elim t [ inl m ↦ inl (returns_deep m) | inr m ↦ inr (d.inside.1 m) ])) (off 10 lt);
    v12 = λ lt t. clash_of c.branches_across (d.branch.1 t) (off 11 lt);
    v13 = λ lt t. clash_of c.falls_across (d.fall.1 t) (off 12 lt);
    v14 = λ lt t. clash_of (c.enters_try && b.full) (both_true c.enters_try b.full (d.enters.1 (record { clause = t.clause; is = t.is; begins = t.begins })) (h.filled.1 t.full)) (off 13 lt);
    v15 = λ lt t. clash_of (c.misplaced || (is_filter_end o && b.more)) (one_of_two c.misplaced (is_filter_end o && b.more) (elim t [ inl m ↦ inl (d.place.1 m) | inr m ↦ inr (ends_deep m) ])) (off 14 lt);
    v17 = λ lt t. clash_of c.unfit_prefix (d.prefix.1 t) (off 16 lt);
    v18 = λ lt t. clash_of c.unverified (d.never.1 t) (off 17 lt);
    v19 = λ lt t. clash_of c.points_to_reference (d.pointer.1 t) (off 18 lt);
  }

  misplaced_breaks : IsMisplaced f k → rules.Breaks f typing k 15
  misplaced_breaks (leaves p q) = rules.v15_leave p q
  misplaced_breaks (rethrows p q) = rules.v15_rethrow p q
  misplaced_breaks (ends_finally p q) = rules.v15_end_finally p q
  misplaced_breaks (ends_filter p q) = rules.v15_end_filter p q

  unverified_breaks : IsUnverified f k → rules.Breaks f typing k 18
  unverified_breaks (unlisted p) = rules.v18 p
  unverified_breaks (explicit p q r) = rules.v18_explicit p q r

  acts_as : (p : Operation) → o ≡ p → Does f k p i
  acts_as p e = record { is = here; does = acts ∙ e }

  breaks_by : (n : ℕ) → get_or (tests_of b c o) n false ≡ true → rules.Breaks f typing k (n + 1)
  breaks_by zero e = rules.v1 here is (h.few.0 e)
  breaks_by (suc zero) e = cc
  breaks_by (suc (suc zero)) e = elim (h.deep.0 e) [ inl x ↦ rules.v3_before is x | inr x ↦ rules.v3_after here is x ]
  breaks_by (suc (suc (suc zero))) e = let r = h.kinds.0 e in rules.v4 r.0 here is r.1.asked r.1.wrong
  breaks_by (suc (suc (suc (suc zero)))) e = elim (h.fits.0 e) [ inl r ↦ rules.v5 r.0 here is r.1.asked r.1.fails | inr x ↦ rules.v5_stored here is x ]
  breaks_by (suc (suc (suc (suc (suc zero))))) e = let r = d.off.0 e in rules.v6 r.does r.falls r.last
  breaks_by (suc (suc (suc (suc (suc (suc zero)))))) e = rules.v7 here is (h.pairs.0 e)
  breaks_by (suc (suc (suc (suc (suc (suc (suc zero))))))) e = let r = d.local.0 e in rules.v8 r.does r.loads r.none
  breaks_by (suc (suc (suc (suc (suc (suc (suc (suc zero)))))))) e = let r = d.argument.0 e in rules.v9 r.does r.loads r.none
  breaks_by (suc (suc (suc (suc (suc (suc (suc (suc (suc zero))))))))) e = let r = d.member.0 e in rules.v10 r.does r.misfits
  breaks_by (suc (suc (suc (suc (suc (suc (suc (suc (suc (suc zero)))))))))) e = elim (or_cases (is_return o && b.more) c.returns_inside e) [ inl x ↦ (let p = and_parts (is_return o) b.more x in rules.v11_deep (acts_as does.Return (return_is o p.0)) is (h.above.0 p.1)) | inr x ↦ (let r = d.inside.0 x in rules.v11_inside r.does r.is r.holds) ]
  breaks_by (suc (suc (suc (suc (suc (suc (suc (suc (suc (suc (suc zero))))))))))) e = let r = d.branch.0 e in rules.v12 r.does r.branches r.to r.across
  breaks_by (suc (suc (suc (suc (suc (suc (suc (suc (suc (suc (suc (suc zero)))))))))))) e = let r = d.fall.0 e in rules.v13 r.does r.falls r.next r.across
  breaks_by (suc (suc (suc (suc (suc (suc (suc (suc (suc (suc (suc (suc (suc zero))))))))))))) e = let p = and_parts c.enters_try b.full e in let r = d.enters.0 p.0 in rules.v14 r.is r.begins is (h.filled.0 p.1)
  breaks_by (suc (suc (suc (suc (suc (suc (suc (suc (suc (suc (suc (suc (suc (suc zero)))))))))))))) e = elim (or_cases c.misplaced (is_filter_end o && b.more) e) [ inl x ↦ misplaced_breaks (d.place.0 x) | inr x ↦ (let p = and_parts (is_filter_end o) b.more x in rules.v15_deep (acts_as does.EndFilter (filter_end_is o p.0)) is (h.above.0 p.1)) ]
  breaks_by (suc (suc (suc (suc (suc (suc (suc (suc (suc (suc (suc (suc (suc (suc (suc zero))))))))))))))) e = cc
  breaks_by (suc (suc (suc (suc (suc (suc (suc (suc (suc (suc (suc (suc (suc (suc (suc (suc zero)))))))))))))))) e = let r = d.prefix.0 e in rules.v17 r.does r.unfit
  breaks_by (suc (suc (suc (suc (suc (suc (suc (suc (suc (suc (suc (suc (suc (suc (suc (suc (suc zero))))))))))))))))) e = unverified_breaks (d.never.0 e)
  breaks_by (suc (suc (suc (suc (suc (suc (suc (suc (suc (suc (suc (suc (suc (suc (suc (suc (suc (suc zero)))))))))))))))))) e = let r = d.pointer.0 e in rules.v19 r.does r.addressed r.by_reference
  breaks_by (suc (suc (suc (suc (suc (suc (suc (suc (suc (suc (suc (suc (suc (suc (suc (suc (suc (suc (suc n))))))))))))))))))) e = cc

  judged_some : (rule : ℕ) → IsFirstAt (tests_of b c o) rule → rules.BreaksFirst f typing k rule
  judged_some rule t =
      let P : ℕ → Type 0 = λ (n : ℕ). rules.BreaksFirst f typing k n in
      subst P (sym t.is)
      (breaks_first f typing k i s here is (t.place + 1) (kept_by (t.place + 1) (λ n less. t.first n (omega arith))) (breaks_by t.place t.holds))

  pub judged : (r : Option ℕ) → IsFirst (tests_of b c o) r → Judges f typing k r
  judged None off = breaks_none f typing k i s here is (kept_by 20 (λ n less. off n (omega arith)))
  judged (Some rule) t = judged_some rule t

-- ---- prefixes

-- a prefix that is told to be stray is one that doesn't fit
pub unfit_exact : (f : Frame) (k : ℕ) (b : Bool) → (IsTrue b ↔ IsStray f k) → IsTrue b ↔ HasUnfitPrefix f k
unfit_exact f k b h = (
  λ e. let s = h.0 e in record { ins = s.ins; prefix = s.prefix; does = s.does; unfit = s.stray },
  λ p. h.1 (record { ins = p.ins; prefix = p.prefix; does = p.does; stray = p.unfit }),
)
