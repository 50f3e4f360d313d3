-- The rules that the instructions of a body break, in order.
use Rattle.std.proofs.Common.{◌≡◌, ◌⊎◌, inl, inr, ◌∙◌, refl, sym, ap, subst, ℕ, ◌+◌, ◌<◌, ◌≤◌, arith, Bool, true, false, List, [], ◌∷◌, length, map, Option, None, Some}
use Rattle.std.specs.Prelude.{slice_get, IsTrue}
use Rattle.std.proofs.lemmas.Bool.{cases_lt, cases_eq}
use Rattle.assembly_tree.specs.declared.assembly.Assembly.{Assembly}
use Rattle.assembly_tree.specs.declared.body.Body.{Body}
use Rattle.assembly_tree.specs.declared.typedef.MethodPath.{MethodPath}
use Rattle.type_hierarchy.specs.Hierarchy.{Hierarchy}
use Rattle.body_verifier.specs.declared.report.Broken.{Broken}
use Rattle.body_verifier.specs.declared.report.Failure.{Failure}
use Rattle.body_verifier.specs.Checking.{HasBody}
use Rattle.code_flow.specs.Frames.{Frame, frame}
use Rattle.code_flow.specs.Laws.{HasOneLeast, BreaksNothing}
use Rattle.code_flow.specs.Methods.{Declared, method_at}
use Rattle.body_verifier.specs.Reports.{Lists, none_more, next, Fails, unnested, uninitialised, explicit, typed, is_uninitialised, Reports, reported}
use Rattle.code_flow.specs.Rules.{Breaks, BreaksFirst, v1, v2, v3_before, v3_after, v4, v5, v5_stored, v6, v7, v8, v9, v10, v11_deep, v11_inside, v12, v13, v14, v15_leave, v15_rethrow, v15_end_finally, v15_end_filter, v15_deep, v17, v18, v18_explicit, v19}
use Rattle.code_flow.specs.Typings.{Typing, unreached, stack, clash, IsLeast}

-- ---- one instruction after the other

-- an instruction that breaks no rule is left out
pub skips : (f : Frame) (typing : Typing) (k : ℕ) (more : List Broken) → ((rule : ℕ) → BreaksFirst f typing k rule → ⊥) → Lists f typing (k + 1) more → Lists f typing k more
skips f typing k [] quiet (none_more none) =
    let all : (j rule : ℕ) → k ≤ j → j < length f.code → BreaksFirst f typing j rule → ⊥ = λ j rule low below b. elim (cases_eq j k) [
      | inl is ↦ let P : ℕ → Type 0 = λ (n : ℕ). BreaksFirst f typing n rule in quiet rule (subst P is b)
      | inr ne ↦ none j rule (omega arith) below b
    ] in
    none_more all
skips f typing k (x ∷ xs) quiet (next {at = at} low below breaks first more) =
    let start : k ≤ at = omega arith in
    let all : (j r : ℕ) → k ≤ j → j < at → BreaksFirst f typing j r → ⊥ = λ j r l less b. elim (cases_eq j k) [
      | inl is ↦ let P : ℕ → Type 0 = λ (n : ℕ). BreaksFirst f typing n r in quiet r (subst P is b)
      | inr ne ↦ first j r (omega arith) less b
    ] in
    next start below breaks all more

pub lists_next : (f : Frame) (typing : Typing) (k rule : ℕ) (more : List Broken) → k < length f.code → BreaksFirst f typing k rule → Lists f typing (k + 1) more
    → Lists f typing k (record { at = k; rule = rule } ∷ more)
lists_next f typing k rule more below b h =
    let start : k ≤ k = omega arith in
    let all : (j r : ℕ) → k ≤ j → j < k → BreaksFirst f typing j r → ⊥ = λ j r low less c. omega arith in
    next start below b all h

pub lists_end : (f : Frame) (typing : Typing) (k : ℕ) → length f.code ≤ k → Lists f typing k []
lists_end f typing k past =
    let all : (j rule : ℕ) → k ≤ j → j < length f.code → BreaksFirst f typing j rule → ⊥ = λ j rule low below b. omega arith in
    none_more all

-- nothing is listed where nothing breaks a rule
pub quiet_all : (f : Frame) (typing : Typing) → Lists f typing 0 [] → BreaksNothing f typing
quiet_all f typing (none_more none) k rule below b = none k rule (omega arith) below b

-- ---- one list alone

-- what is known before other instructions plays no part
breaks_by : (f : Frame) (x y : Typing) (k rule : ℕ) → x k ≡ y k → Breaks f x k rule → Breaks f y k rule
breaks_by f x y k rule e (v1 i t less) = v1 i (sym e ∙ t) less
breaks_by f x y k rule e (v2 t) = v2 (sym e ∙ t)
breaks_by f x y k rule e (v3_before t less) = v3_before (sym e ∙ t) less
breaks_by f x y k rule e (v3_after i t less) = v3_after i (sym e ∙ t) less
breaks_by f x y k rule e (v4 n i t at wrong) = v4 n i (sym e ∙ t) at wrong
breaks_by f x y k rule e (v5 n i t at wrong) = v5 n i (sym e ∙ t) at wrong
breaks_by f x y k rule e (v5_stored i t wrong) = v5_stored i (sym e ∙ t) wrong
breaks_by f x y k rule e (v6 d falls last) = v6 d falls last
breaks_by f x y k rule e (v7 i t wrong) = v7 i (sym e ∙ t) wrong
breaks_by f x y k rule e (v8 d loads none) = v8 d loads none
breaks_by f x y k rule e (v9 d loads none) = v9 d loads none
breaks_by f x y k rule e (v10 d misfits) = v10 d misfits
breaks_by f x y k rule e (v11_deep d t less) = v11_deep d (sym e ∙ t) less
breaks_by f x y k rule e (v11_inside d c holds) = v11_inside d c holds
breaks_by f x y k rule e (v12 d branches to across) = v12 d branches to across
breaks_by f x y k rule e (v13 d falls below across) = v13 d falls below across
breaks_by f x y k rule e (v14 c start t full) = v14 c start (sym e ∙ t) full
breaks_by f x y k rule e (v15_leave l bad) = v15_leave l bad
breaks_by f x y k rule e (v15_rethrow d bad) = v15_rethrow d bad
breaks_by f x y k rule e (v15_end_finally d bad) = v15_end_finally d bad
breaks_by f x y k rule e (v15_end_filter d bad) = v15_end_filter d bad
breaks_by f x y k rule e (v15_deep d t less) = v15_deep d (sym e ∙ t) less
breaks_by f x y k rule e (v17 d unfit) = v17 d unfit
breaks_by f x y k rule e (v18 d) = v18 d
breaks_by f x y k rule e (v18_explicit d calls states) = v18_explicit d calls states
breaks_by f x y k rule e (v19 d at by) = v19 d at by

pub first_by : (f : Frame) (x y : Typing) (k rule : ℕ) → x k ≡ y k → BreaksFirst f x k rule → BreaksFirst f y k rule
first_by f x y k rule e b = record {
  reached = λ u. b.reached (e ∙ u);
  breaks = breaks_by f x y k rule e b.breaks;
  first = λ r less c. b.first r less (breaks_by f y x k r (sym e) c);
}

one_rule : (f : Frame) (typing : Typing) (k r s : ℕ) → BreaksFirst f typing k r → BreaksFirst f typing k s → r ≡ s
one_rule f typing k r s a b = elim (cases_lt r s) [
  | inl less ↦ absurd (b.first r less a.breaks)
  | inr le ↦ elim (cases_lt s r) [
    | inl less ↦ absurd (a.first s less b.breaks)
    | inr other ↦ (omega arith)
  ]
]

-- two typings that agree on the code list the same
same_lists : (f : Frame) (x y : Typing) → ((k : ℕ) → k < length f.code → x k ≡ y k) → (k : ℕ) (xs ys : List Broken) → Lists f x k xs → Lists f y k ys → xs ≡ ys
same_lists f x y same k [] [] a b = refl
same_lists f x y same k [] (b ∷ ys) (none_more none) (next {at = at} {rule = rule} low below breaks first more) =
    absurd (none at rule low below (first_by f y x at rule (sym (same at below)) breaks))
same_lists f x y same k (a ∷ xs) [] (next {at = at} {rule = rule} low below breaks first more) (none_more none) =
    absurd (none at rule low below (first_by f x y at rule (same at below) breaks))
same_lists f x y same k (a ∷ xs) (b ∷ ys) (next {at = i} {rule = r} low below breaks first more) (next {at = j} {rule = s} low2 below2 breaks2 first2 more2) =
    elim (cases_lt i j) [
      | inl less ↦ absurd (first2 i r low less (first_by f x y i r (same i below) breaks))
      | inr le ↦ elim (cases_lt j i) [
        | inl less ↦ absurd (first j s low2 less (first_by f y x j s (sym (same j below2)) breaks2))
        | inr other ↦
            let at : i ≡ j = omega arith in
            let P : ℕ → Type 0 = λ (n : ℕ). BreaksFirst f y n s in
            let rule : r ≡ s = one_rule f y i r s (first_by f x y i r (same i below) breaks) (subst P (sym at) breaks2) in
            let Q : ℕ → Type 0 = λ (n : ℕ). Lists f y (n + 1) ys in
            let rest : xs ≡ ys = same_lists f x y same (i + 1) xs ys more (subst Q (sym at) more2) in
            cc
      ]
    ]

-- ---- one report alone

one_failing : (a : Assembly) (w : Hierarchy) (d : Declared) (b : Body) → HasOneLeast (frame a w d b) → (xs ys : List Broken) → Fails a w d b xs → Fails a w d b ys → xs ≡ ys
one_failing a w d b one xs ys (unnested n) (unnested m) = refl
one_failing a w d b one xs ys (unnested n) (uninitialised m u) = absurd (n m)
one_failing a w d b one xs ys (unnested n) (explicit m u e) = absurd (n m)
one_failing a w d b one xs ys (unnested n) (typed m u e l h) = absurd (n m)
one_failing a w d b one xs ys (uninitialised n u) (unnested m) = absurd (m n)
one_failing a w d b one xs ys (uninitialised n u) (uninitialised m v) = refl
one_failing a w d b one xs ys (uninitialised n u) (explicit m v e) = absurd (let g : ⊥ = cc in g)
one_failing a w d b one xs ys (uninitialised n u) (typed m v e l h) = absurd (let g : ⊥ = cc in g)
one_failing a w d b one xs ys (explicit n u e) (unnested m) = absurd (m n)
one_failing a w d b one xs ys (explicit n u e) (uninitialised m v) = absurd (let g : ⊥ = cc in g)
one_failing a w d b one xs ys (explicit n u e) (explicit m v f) = refl
one_failing a w d b one xs ys (explicit n u e) (typed m v f l h) = absurd (let g : ⊥ = cc in g)
one_failing a w d b one xs ys (typed n u e l h) (unnested m) = absurd (m n)
one_failing a w d b one xs ys (typed n u e l h) (uninitialised m v) = absurd (let g : ⊥ = cc in g)
one_failing a w d b one xs ys (typed n u e l h) (explicit m v f) = absurd (let g : ⊥ = cc in g)
one_failing a w d b one xs ys (typed {typing = x} n u e l h) (typed {typing = y} m v f k i) =
    same_lists (frame a w d b) x y (one x y l k) 0 xs ys h i

pub same_body : (a : Assembly) (path : MethodPath) (d e : Declared) (b c : Body) → HasBody a path d b → HasBody a path e c → (d ≡ e) × (b ≡ c)
same_body a path d e b c h i =
    let p : Some d ≡ Some e = sym h.is ∙ i.is in
    let q : d ≡ e = cc in
    let r : Some b ≡ Some c = sym h.has ∙ ap (λ (x : Declared). x.method.body) q ∙ i.has in
    (q, cc)

pub one_report : (a : Assembly) (w : Hierarchy) (path : MethodPath) → ((d : Declared) (b : Body) → HasOneLeast (frame a w d b)) → (xs ys : List Failure) → Reports a w path xs → Reports a w path ys → xs ≡ ys
one_report a w path one xs ys h i =
    let s = same_body a path h.declared i.declared h.body i.body (record { is = h.is; has = h.has }) (record { is = i.is; has = i.has }) in
    let P : Declared → Type 0 = λ (d : Declared). Fails a w d h.body i.broken in
    let Q : Body → Type 0 = λ (b : Body). Fails a w i.declared b i.broken in
    let other : Fails a w h.declared h.body i.broken = subst P (sym s.0) (subst Q (sym s.1) i.fails) in
    let same : h.broken ≡ i.broken = one_failing a w h.declared h.body (one h.declared h.body) h.broken i.broken h.fails other in
    h.all ∙ ap (λ (b : Body). map (reported path b) h.broken) s.1 ∙ ap (map (reported path i.body)) same ∙ sym i.all
