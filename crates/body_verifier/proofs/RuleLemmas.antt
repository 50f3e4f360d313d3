-- The rules that a reached instruction breaks, by what is known before it.
use Rattle.std.proofs.Common.{◌≡◌, inl, inr, sym, ◌∙◌, subst, ℕ, ◌<◌, arith, List, [], length, Some}
use Rattle.std.specs.Prelude.{slice_get}
use Rattle.std.proofs.lemmas.Bool.{cases_order}
use Rattle.assembly_tree.specs.declared.body.Ins.{Ins}
use Rattle.type_hierarchy.specs.Stack.{Stack}
use Rattle.code_flow.specs.declared.operation.Operation.{Operation}
use Rattle.code_flow.specs.declared.operation.Operation.TheVariants as does
use Rattle.stack_states.specs.Asking.{HasWrongOperand, FailsToFit, IsMismatched}
use Rattle.code_flow.specs.CodeRules.{leaves, rethrows, ends_finally, ends_filter, unlisted, explicit}
use Rattle.code_flow.specs.Edges.{Does}
use Rattle.code_flow.specs.Effects.{effect}
use Rattle.code_flow.specs.Frames.{Frame}
use Rattle.body_verifier.specs.Judging.{HasTooFew, LeavesMore, AreKept}
use Rattle.code_flow.specs.Rows.{row_of}
use Rattle.code_flow.specs.Rules as rules
use Rattle.code_flow.specs.Typings.{unreached, stack, clash, Typing}

same_stack : (typing : Typing) (k : ℕ) (s t : List Stack) → typing k ≡ stack s → typing k ≡ stack t → t ≡ s
same_stack typing k s t a b = let e : stack t ≡ stack s = sym b ∙ a in cc

same_ins : (f : Frame) (k : ℕ) (i j : Ins) → slice_get f.code k ≡ Some i → slice_get f.code k ≡ Some j → j ≡ i
same_ins f k i j a b = let e : Some j ≡ Some i = sym b ∙ a in cc

-- before instruction `i` at `k` stands the stack `s`
module _ (f : Frame) (typing : Typing) (k : ℕ) (i : Ins) (s : List Stack) (here : slice_get f.code k ≡ Some i) (is : typing k ≡ stack s) where
  -- what is said of another instruction and stack there is said of these
  moved : (P : Ins → List Stack → Type 0) (j : Ins) (t : List Stack) → slice_get f.code k ≡ Some j → typing k ≡ stack t → P j t → P i s
  moved P j t a b p =
      let Q : List Stack → Type 0 = λ (x : List Stack). P i x in
      let R : Ins → Type 0 = λ (x : Ins). P x t in
      subst Q (same_stack typing k s t is b) (subst R (same_ins f k i j here a) p)

  full_there : (t : List Stack) → typing k ≡ stack t → (t ≡ [] → ⊥) → s ≡ [] → ⊥
  full_there t b h e = h (same_stack typing k s t is b ∙ e)

  more_there : (o : Operation) (j : Ins) (t : List Stack) → Does f k o j → typing k ≡ stack t → length (row_of f k j).operands < length t → LeavesMore f k o s
  more_there o j t d b h =
      let P : List Stack → Type 0 = λ (x : List Stack). length (row_of f k j).operands < length x in
      record { ins = j; does = d; more = subst P (same_stack typing k s t is b) h }

  pub none_before : (rule r : ℕ) → AreKept f k i s rule → r < rule → rules.Breaks f typing k r → ⊥
  none_before rule r h below (rules.v1 {i = j} {s = t} a b c) = h.v1 below (moved (λ x y. HasTooFew f k x y) j t a b c)
  none_before rule r h below (rules.v2 e) = let x : stack s ≡ clash = sym is ∙ e in cc
  none_before rule r h below (rules.v3_before {s = t} b c) =
      let P : List Stack → Type 0 = λ (x : List Stack). f.bound < length x in
      h.v3 below (inl (subst P (same_stack typing k s t is b) c))
  none_before rule r h below (rules.v3_after {i = j} {s = t} a b c) = h.v3 below (inr (moved (λ x y. f.bound < length (effect (row_of f k x) y)) j t a b c))
  none_before rule r h below (rules.v4 {i = j} {s = t} {d = d} n a b at c) =
      h.v4 below (moved (λ x y. HasWrongOperand f.types (row_of f k x) y) j t a b (n, record { demand = d; asked = at; wrong = c }))
  none_before rule r h below (rules.v5 {i = j} {s = t} {d = d} n a b at c) =
      h.v5 below (moved (λ x y. FailsToFit f.types (row_of f k x) y) j t a b (inl (n, record { demand = d; asked = at; fails = c })))
  none_before rule r h below (rules.v5_stored {i = j} {s = t} a b c) = h.v5 below (moved (λ x y. FailsToFit f.types (row_of f k x) y) j t a b (inr c))
  none_before rule r h below (rules.v6 {i = j} {o = o} d a b) = h.v6 below (record { ins = j; operation = o; does = d; falls = a; last = b })
  none_before rule r h below (rules.v7 {i = j} {s = t} a b c) = h.v7 below (moved (λ x y. IsMismatched f.types (row_of f k x) y) j t a b c)
  none_before rule r h below (rules.v8 {i = j} {o = o} d a b) = h.v8 below (record { ins = j; operation = o; does = d; loads = a; none = b })
  none_before rule r h below (rules.v9 {i = j} {o = o} d a b) = h.v9 below (record { ins = j; operation = o; does = d; loads = a; none = b })
  none_before rule r h below (rules.v10 {i = j} {o = o} d a) = h.v10 below (record { ins = j; operation = o; does = d; misfits = a })
  none_before rule r h below (rules.v11_deep {i = j} {s = t} d b c) = h.v11 below (inl (more_there does.Return j t d b c))
  none_before rule r h below (rules.v11_inside {i = j} {b = b} d a c) = h.v11 below (inr (record { ins = j; block = b; does = d; is = a; holds = c }))
  none_before rule r h below (rules.v12 {i = j} {o = o} {t = t} d a b c) = h.v12 below (record { ins = j; operation = o; target = t; does = d; branches = a; to = b; across = c })
  none_before rule r h below (rules.v13 {i = j} {o = o} d a b c) = h.v13 below (record { ins = j; operation = o; does = d; falls = a; next = b; across = c })
  none_before rule r h below (rules.v14 {c = c} {s = t} a b d e) = h.v14 below (record { clause = c; is = a; begins = b; full = full_there t d e })
  none_before rule r h below (rules.v15_leave a b) = h.v15 below (inl (leaves a b))
  none_before rule r h below (rules.v15_rethrow a b) = h.v15 below (inl (rethrows a b))
  none_before rule r h below (rules.v15_end_finally a b) = h.v15 below (inl (ends_finally a b))
  none_before rule r h below (rules.v15_end_filter a b) = h.v15 below (inl (ends_filter a b))
  none_before rule r h below (rules.v15_deep {i = j} {s = t} d b c) = h.v15 below (inr (more_there does.EndFilter j t d b c))
  none_before rule r h below (rules.v17 {i = j} {p = p} d a) = h.v17 below (record { ins = j; prefix = p; does = d; unfit = a })
  none_before rule r h below (rules.v18 d) = h.v18 below (unlisted d)
  none_before rule r h below (rules.v18_explicit d a b) = h.v18 below (explicit d a b)
  none_before rule r h below (rules.v19 {i = j} {o = o} {t = t} d a b) = h.v19 below (record { ins = j; operation = o; type = t; does = d; addressed = a; by_reference = b })

  pub low_rule : (r : ℕ) → rules.Breaks f typing k r → r < 20
  low_rule r (rules.v1 a b c) = omega arith
  low_rule r (rules.v2 e) = omega arith
  low_rule r (rules.v3_before b c) = omega arith
  low_rule r (rules.v3_after a b c) = omega arith
  low_rule r (rules.v4 n a b at c) = omega arith
  low_rule r (rules.v5 n a b at c) = omega arith
  low_rule r (rules.v5_stored a b c) = omega arith
  low_rule r (rules.v6 d a b) = omega arith
  low_rule r (rules.v7 a b c) = omega arith
  low_rule r (rules.v8 d a b) = omega arith
  low_rule r (rules.v9 d a b) = omega arith
  low_rule r (rules.v10 d a) = omega arith
  low_rule r (rules.v11_deep d b c) = omega arith
  low_rule r (rules.v11_inside d a c) = omega arith
  low_rule r (rules.v12 d a b c) = omega arith
  low_rule r (rules.v13 d a b c) = omega arith
  low_rule r (rules.v14 a b d e) = omega arith
  low_rule r (rules.v15_leave a b) = omega arith
  low_rule r (rules.v15_rethrow a b) = omega arith
  low_rule r (rules.v15_end_finally a b) = omega arith
  low_rule r (rules.v15_end_filter a b) = omega arith
  low_rule r (rules.v15_deep d b c) = omega arith
  low_rule r (rules.v17 d a) = omega arith
  low_rule r (rules.v18 d) = omega arith
  low_rule r (rules.v18_explicit d a b) = omega arith
  low_rule r (rules.v19 d a b) = omega arith

  is_reached : typing k ≡ unreached → ⊥
  is_reached e = let x : stack s ≡ unreached = sym is ∙ e in cc

  pub breaks_first : (rule : ℕ) → AreKept f k i s rule → rules.Breaks f typing k rule → rules.BreaksFirst f typing k rule
  breaks_first rule h b = record { reached = is_reached; breaks = b; first = λ r below e. none_before rule r h below e }

  pub breaks_none : AreKept f k i s 20 → (rule : ℕ) → rules.BreaksFirst f typing k rule → ⊥
  breaks_none h rule b = none_before 20 rule h (low_rule rule b.breaks) b.breaks

-- where stacks of different depth meet, that is the first rule that is broken
clash_first : (f : Frame) (typing : Typing) (k : ℕ) → typing k ≡ clash → (r : ℕ) → r < 2 → rules.Breaks f typing k r → ⊥
clash_first f typing k is r below (rules.v1 {s = t} a b c) = let x : stack t ≡ clash = sym b ∙ is in cc
clash_first f typing k is r below b = absurd (omega arith)

pub breaks_at_clash : (f : Frame) (typing : Typing) (k : ℕ) → typing k ≡ clash → rules.BreaksFirst f typing k 2
breaks_at_clash f typing k is = record {
  reached = λ e. let x : clash ≡ unreached = sym is ∙ e in cc;
  breaks = rules.v2 is;
  first = clash_first f typing k is;
}

-- one rule at most is the first
pub breaks_once : (f : Frame) (typing : Typing) (k r s : ℕ) → rules.BreaksFirst f typing k r → rules.BreaksFirst f typing k s → r ≡ s
breaks_once f typing k r s a b = elim (cases_order r s) [
  | inl e ↦ e
  | inr other ↦ elim other [
    | inl less ↦ absurd (b.first r less a.breaks)
    | inr more ↦ absurd (a.first s more b.breaks)
  ]
]
