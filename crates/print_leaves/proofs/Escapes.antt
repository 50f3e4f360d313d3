-- Runs of bytes without an escape.
use Rattle.std.proofs.Common.{◌≡◌, ℕ, suc, ◌+◌, ◌<◌, ◌≤◌, Bool, true, false, cond, not, ◌||◌, nat_eq, nat_lt, inl, inr, List, [], ◌∷◌, ◌++◌, length, take, drop, get_or, Option, None, Some, refl, ap, sym, subst, ◌∙◌, true≢false, arith}
use Rattle.std.proofs.lemmas.Bool.{cases_Bool, eqb-true}
use Rattle.std.proofs.lemmas.Str.{IsUtf8-drop, IsCharBoundary-after_ascii}
use Rattle.std.specs.List.{flat_map, prefix_len, position}
use Rattle.std.specs.Prelude.{MatchOption, IsUtf8}
use Rattle.listing_leaves.specs.Texts.{escaped, is_control, octal, quoted}
use Rattle.print_leaves.specs.Escapes.{IsFirstEscape}
use Rattle.print_leaves.specs.Page.{Page, added, wants_escape}
use Rattle.print_leaves.proofs.Pages.{added_twice}

by_none : {A : Type 0} (x y z : Bool) (a b c : A) → (x || y || z) ≡ false → cond (x || y) a (cond z b c) ≡ c
by_none false false false a b c h = refl
by_none false false true a b c h = absurd (true≢false h)
by_none false true z a b c h = absurd (true≢false h)
by_none true y z a b c h = absurd (true≢false h)

-- a byte that wants no escape stands as it is
plain : (q b : ℕ) → wants_escape q b ≡ false → escaped q b ≡ b ∷ []
plain q b h = by_none (nat_eq b 92) (nat_eq b q) (is_control b) (92 ∷ b ∷ []) (octal b) (b ∷ []) h

abbrev run : ℕ → List ℕ → ℕ
run q bs = prefix_len (λ b. not (wants_escape q b)) bs

run_by : (q b : ℕ) (bs : List ℕ) (t : Bool) → wants_escape q b ≡ t → run q (b ∷ bs) ≡ cond (not t) (1 + run q bs) 0
run_by q b bs t e = ap (λ t. cond (not t) (1 + run q bs) 0) e

no_escape : (q : ℕ) (bs : List ℕ) → length bs ≤ run q bs → flat_map (escaped q) bs ≡ bs
no_escape q [] h = refl
no_escape q (b ∷ bs) h =
    elim (cases_Bool (wants_escape q b)) [
      | inl e ↦ let none : run q (b ∷ bs) ≡ 0 = run_by q b bs true e in absurd (omega arith)
      | inr e ↦
          let one : run q (b ∷ bs) ≡ 1 + run q bs = run_by q b bs false e in
          ap (λ x. x ++ flat_map (escaped q) bs) (plain q b e) ∙ ap (λ x. b ∷ x) (no_escape q bs (omega arith))
    ]

one_more : (q b : ℕ) (bs : List ℕ) (k : ℕ) → wants_escape q b ≡ false → IsFirstEscape q bs k → IsFirstEscape q (b ∷ bs) (suc k)
one_more q b bs k e f =
    let inside : k < length bs = f.within in
    record {
      within = omega arith;
      wants = f.wants;
      parts = ap (λ x. x ++ flat_map (escaped q) bs) (plain q b e) ∙ ap (λ x. b ∷ x) f.parts;
    }

at_escape : (q : ℕ) (bs : List ℕ) → run q bs < length bs → IsFirstEscape q bs (run q bs)
at_escape q [] h = absurd (omega arith)
at_escape q (b ∷ bs) h =
    elim (cases_Bool (wants_escape q b)) [
      | inl e ↦
          let none : 0 ≡ run q (b ∷ bs) = sym (run_by q b bs true e) in
          subst (λ k. IsFirstEscape q (b ∷ bs) k) none (record { within = omega arith; wants = e; parts = refl })
      | inr e ↦
          let one : run q (b ∷ bs) ≡ 1 + run q bs = run_by q b bs false e in
          let same : suc (run q bs) ≡ run q (b ∷ bs) = omega arith in
          subst (λ k. IsFirstEscape q (b ∷ bs) k) same (one_more q b bs (run q bs) e (at_escape q bs (omega arith)))
    ]

by_place : (q : ℕ) (bs : List ℕ) (t : Bool) → nat_lt (run q bs) (length bs) ≡ t →
    MatchOption (cond t (Some (run q bs)) None) (flat_map (escaped q) bs ≡ bs) (IsFirstEscape q bs)
by_place q bs true e = let h : run q bs < length bs = grind (arith, e) in at_escape q bs h
by_place q bs false e = let h : length bs ≤ run q bs = grind (arith, e) in no_escape q bs h

pub first_escape : (q : ℕ) (bs : List ℕ) → MatchOption (position (wants_escape q) bs) (flat_map (escaped q) bs ≡ bs) (IsFirstEscape q bs)
first_escape q bs = by_place q bs (nat_lt (run q bs) (length bs)) refl

pub first_at : (q : ℕ) (bs : List ℕ) (r : Option ℕ) → r ≡ position (wants_escape q) bs → MatchOption r (flat_map (escaped q) bs ≡ bs) (IsFirstEscape q bs)
first_at q bs r e = subst (λ o. MatchOption o (flat_map (escaped q) bs ≡ bs) (IsFirstEscape q bs)) (sym e) (first_escape q bs)

-- ---- what is added, step by step

pub quoted_step : (s a e : Page) (q b place : ℕ) (rest front back : List ℕ) → IsFirstEscape q rest place → a ≡ added s front → front ≡ take place rest →
    e ≡ added a (escaped q b) → b ≡ get_or rest place 0 → back ≡ drop (place + 1) rest →
    added e (flat_map (escaped q) back) ≡ added s (flat_map (escaped q) rest)
quoted_step s a e q b place rest front back f ha hf he hb hk =
    let behind : back ≡ drop (suc place) rest = hk ∙ ap (λ n. drop n rest) {x = place + 1} {y = suc place} (omega arith) in
    let tail = flat_map (escaped q) (drop (suc place) rest) in
    ap (λ x. added e (flat_map (escaped q) x)) behind
    ∙ (ap (λ x. added x tail) (he ∙ ap (λ x. added x (escaped q b)) ha)
    ∙ (ap (λ x. added (added (added s x) (escaped q b)) tail) hf
    ∙ (ap (λ x. added (added (added s (take place rest)) (escaped q x)) tail) hb
    ∙ (added_twice (added s (take place rest)) (escaped q (get_or rest place 0)) tail
    ∙ (added_twice s (take place rest) (escaped q (get_or rest place 0) ++ tail) ∙ ap (added s) (sym f.parts))))))

pub quoted_done : (old start s a new : Page) (q : ℕ) (rest text : List ℕ) → start ≡ added old (q ∷ []) →
    added s (flat_map (escaped q) rest) ≡ added start (flat_map (escaped q) text) → flat_map (escaped q) rest ≡ rest → a ≡ added s rest →
    new ≡ added a (q ∷ []) → new ≡ added old (quoted q text)
unfolding quoted
quoted_done old start s a new q rest text hs inv none ha hn =
    hn
    ∙ (ap (λ x. added x (q ∷ [])) (ha ∙ (ap (added s) (sym none) ∙ (inv ∙ ap (λ x. added x (flat_map (escaped q) text)) hs)))
    ∙ (added_twice (added old (q ∷ [])) (flat_map (escaped q) text) (q ∷ []) ∙ added_twice old (q ∷ []) (flat_map (escaped q) text ++ q ∷ [])))

-- a byte that wants an escape is below 128
by_wants : (b q : ℕ) → q < 128 → (x y : Bool) → nat_eq b 92 ≡ x → nat_eq b q ≡ y → (x || y || is_control b) ≡ true → b < 128
by_wants b q h true y e f g = let same : b ≡ 92 = eqb-true b 92 e in omega arith
by_wants b q h false true e f g = let same : b ≡ q = eqb-true b q f in omega arith
by_wants b q h false false e f g = grind (arith, g)

pub wants_ascii : (q b : ℕ) → q < 128 → wants_escape q b ≡ true → b < 128
wants_ascii q b h w = by_wants b q h (nat_eq b 92) (nat_eq b q) refl refl w

-- text behind a character of one byte is text
pub text_behind : (bs back : List ℕ) (k : ℕ) → IsUtf8 bs → k < length bs → get_or bs k 0 < 128 → back ≡ drop (k + 1) bs → IsUtf8 back
text_behind bs back k u l a e = subst IsUtf8 (sym e) (IsUtf8-drop bs (k + 1) u (IsCharBoundary-after_ascii bs k u l a))
