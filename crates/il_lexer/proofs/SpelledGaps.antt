-- Gaps: what the run over them finds.
use Rattle.std.proofs.Common.{◌≡◌, ℕ, suc, ◌+◌, ◌<◌, ◌≤◌, Bool, true, false, cond, not, ◌&&◌, ◌||◌, nat_eq, inl, inr, List, [], ◌∷◌, ◌++◌, length, take, drop, None, Some, refl, ap, sym, subst, ◌∙◌, arith, length-append, append_assoc, take_at, drop_at, true≢false}
use Rattle.std.proofs.lemmas.Bool.{cases_Bool, cond-true, cond-false, eqb-true, and_parts}
use Rattle.std.specs.Option.{option_map}
use Rattle.il_lexer.specs.Classes.{is_blank, first_passes, first_is}
use Rattle.il_lexer.specs.Runs.{front}
use Rattle.il_lexer.specs.Gaps.{is_close, block_length, comment_length, gap_piece, gap}
use Rattle.il_lexer.specs.Spelled.{Each, IsClosed, is_no_line_feed, IsGap}
use Rattle.il_lexer.proofs.RunLemmas.{run-none}
use Rattle.il_lexer.proofs.Fronts.{Front, front-rest, Passed, passed, is_piece, Steps, stop, step, steps, steps-some, run-append, first-is-cons, differ, map-some, front-each, front-false, heads-same}
use Rattle.il_lexer.specs.LongestGap.{IsGapBefore, GapIsLongest}

some_same : (a n : ℕ) → Some a ≡ Some n → a ≡ n
some_same a n h = cc

-- a byte that begins no gap
or4_false : (x y z u : Bool) → x ≡ false → y ≡ false → z ≡ false → u ≡ false → (x || y || z || u) ≡ false
or4_false true y z u a b c d = absurd (true≢false a)
or4_false false true z u a b c d = absurd (true≢false b)
or4_false false false true u a b c d = absurd (true≢false c)
or4_false false false false u a b c d = d

pub no-gap : (p : ℕ → Bool) (b : ℕ) (rest : List ℕ) → p b ≡ true → p 9 ≡ false → p 10 ≡ false → p 13 ≡ false → p 32 ≡ false →
    p 47 ≡ false → gap_piece (b ∷ rest) ≡ None
no-gap p b rest h n9 n10 n13 n32 n47 =
    cond-false (is_blank b) _ _
    (or4_false (nat_eq b 9) (nat_eq b 10) (nat_eq b 13) (nat_eq b 32) (differ p b 9 h n9) (differ p b 10 h n10) (differ p b 13 h n13)
    (differ p b 32 h n32))
    ∙ cond-false (nat_eq b 47) _ _ (differ p b 47 h n47)

-- the end of a comment
closed_first : {text : List ℕ} → IsClosed text → (rest : List ℕ) → first_is 47 (text ++ rest) ≡ first_is 47 text
closed_first {text} (IsClosed.close is) rest = subst (λ w. first_is 47 (w ++ rest) ≡ first_is 47 w) (sym is) refl
closed_first (IsClosed.before h more) rest = refl

closed_exact : {text : List ℕ} → IsClosed text → (rest : List ℕ) → block_length (text ++ rest) ≡ Some (length text)
closed_exact {text} (IsClosed.close is) rest = subst (λ w. block_length (w ++ rest) ≡ Some (length w)) (sym is) refl
closed_exact (IsClosed.before {b = b} {bs = bs} h more) rest =
    cond-false (is_close (b ∷ (bs ++ rest))) _ _ (ap (λ t. nat_eq b 42 && t) (closed_first more rest) ∙ h)
    ∙ ap (option_map (λ n. 1 + n)) (closed_exact more rest)
    ∙ (let one : 1 + length bs ≡ suc (length bs) = omega arith in ap Some one)

closed_front : (bs : List ℕ) (n : ℕ) → block_length bs ≡ Some n → Front IsClosed bs n
closed_front [] n h = cc
closed_front (b ∷ bs) n h =
    elim (cases_Bool (is_close (b ∷ bs))) [
      | inl e ↦
          let parts = and_parts (nat_eq b 42) (first_is 47 bs) e in
          let next = first-is-cons 47 bs parts.1 in
          record {
            word = 42 ∷ 47 ∷ [];
            after = next.0;
            holds = IsClosed.close refl;
            whole = ap (λ x. x ∷ bs) (eqb-true b 42 parts.0) ∙ ap (λ xs. 42 ∷ xs) next.1;
            long = some_same 2 n (sym (cond-true (is_close (b ∷ bs)) _ _ e) ∙ h);
          }
      | inr e ↦
          let m = map-some 1 n (block_length bs) (sym (cond-false (is_close (b ∷ bs)) _ _ e) ∙ h) in
          let f : Front IsClosed bs m.0 = closed_front bs m.0 m.1 in
          let len : length f.word ≡ m.0 = f.long in
          let sum : 1 + m.0 ≡ n = m.2 in
          record {
            word = b ∷ f.word;
            after = f.after;
            holds = IsClosed.before
                (ap (λ t. nat_eq b 42 && t) (sym (closed_first f.holds f.after) ∙ sym (ap (first_is 47) f.whole)) ∙ e) f.holds;
            whole = ap (λ xs. b ∷ xs) f.whole;
            long = omega arith;
          }
    ]

-- gaps
pub gap-adds : {g : List ℕ} → IsGap g → (after : List ℕ) → gap (g ++ after) ≡ length g + gap after
gap-adds IsGap.none after = omega arith
gap-adds (IsGap.blank {b = b} {bs = bs} h more) after =
    let rest : gap (bs ++ after) ≡ length bs + gap after = gap-adds more after in
    let bytes : gap (b ∷ (bs ++ after)) ≡ 1 + gap (bs ++ after) =
    ap (λ r. r.bytes) (run-append gap_piece (b ∷ []) (bs ++ after) (omega arith) (cond-true (is_blank b) _ _ h)) in
    omega arith
gap-adds (IsGap.line text {bs = bs} {w = w} each more is) after =
    let rest : gap (10 ∷ (bs ++ after)) ≡ suc (length bs) + gap after = gap-adds more after in
    let same : w ++ after ≡ 47 ∷ 47 ∷ (text ++ 10 ∷ (bs ++ after)) =
    ap (λ x. x ++ after) is ∙ ap (λ x. 47 ∷ 47 ∷ x) (append_assoc text (10 ∷ bs) after) in
    let through : front is_no_line_feed (text ++ 10 ∷ (bs ++ after)) ≡ length text + front is_no_line_feed (10 ∷ (bs ++ after)) =
    front-each is_no_line_feed text (10 ∷ (bs ++ after)) each in
    let stops : front is_no_line_feed (10 ∷ (bs ++ after)) ≡ 0 = front-false is_no_line_feed 10 (bs ++ after) refl in
    let long : 1 + (1 + front is_no_line_feed (text ++ 10 ∷ (bs ++ after))) ≡ suc (suc (length text)) = omega arith in
    let bytes : gap (47 ∷ 47 ∷ (text ++ 10 ∷ (bs ++ after))) ≡ suc (suc (length text)) + gap (10 ∷ (bs ++ after)) =
    ap (λ r. r.bytes) (run-append gap_piece (47 ∷ 47 ∷ text) (10 ∷ (bs ++ after)) (omega arith) (ap Some long)) in
    let goes : gap (w ++ after) ≡ gap (47 ∷ 47 ∷ (text ++ 10 ∷ (bs ++ after))) = ap gap same in
    let wide : length w ≡ suc (suc (length (text ++ 10 ∷ bs))) = ap length is in
    let len : length (text ++ 10 ∷ bs) ≡ length text + suc (length bs) = length-append text (10 ∷ bs) in
    omega arith
gap-adds (IsGap.block {text = text} {bs = bs} {w = w} closed more is) after =
    let rest : gap (bs ++ after) ≡ length bs + gap after = gap-adds more after in
    let same : w ++ after ≡ 47 ∷ 42 ∷ (text ++ (bs ++ after)) =
    ap (λ x. x ++ after) is ∙ ap (λ x. 47 ∷ 42 ∷ x) (append_assoc text bs after) in
    let two : 1 + (1 + length text) ≡ suc (suc (length text)) = omega arith in
    let piece : gap_piece (47 ∷ 42 ∷ (text ++ (bs ++ after))) ≡ Some (suc (suc (length text))) =
    ap (λ o. option_map (λ n. 1 + n) (option_map (λ n. 1 + n) o)) (closed_exact closed (bs ++ after)) ∙ ap Some two in
    let bytes : gap (47 ∷ 42 ∷ (text ++ (bs ++ after))) ≡ suc (suc (length text)) + gap (bs ++ after) =
    ap (λ r. r.bytes) (run-append gap_piece (47 ∷ 42 ∷ text) (bs ++ after) (omega arith) piece) in
    let goes : gap (w ++ after) ≡ gap (47 ∷ 42 ∷ (text ++ (bs ++ after))) = ap gap same in
    let wide : length w ≡ suc (suc (length (text ++ bs))) = ap length is in
    let len : length (text ++ bs) ≡ length text + length bs = length-append text bs in
    omega arith

pub gap-exact : {g : List ℕ} → IsGap g → (after : List ℕ) → gap_piece after ≡ None → gap (g ++ after) ≡ length g
gap-exact {g} h after e =
    let none : gap after ≡ 0 = ap (λ r. r.bytes) (run-none gap_piece after e) in
    let all : gap (g ++ after) ≡ length g + gap after = gap-adds h after in
    omega arith

-- a comment to the end of the source
last_gap : (text : List ℕ) → Each is_no_line_feed text → gap (47 ∷ 47 ∷ (text ++ [])) ≡ suc (suc (length text))
last_gap text each =
    let through : front is_no_line_feed (text ++ []) ≡ length text + 0 = front-each is_no_line_feed text [] each in
    let long : 1 + (1 + front is_no_line_feed (text ++ [])) ≡ suc (suc (length text)) = omega arith in
    let none : gap [] ≡ 0 = ap (λ r. r.bytes) (run-none gap_piece [] refl) in
    let bytes : gap (47 ∷ 47 ∷ (text ++ [])) ≡ suc (suc (length text)) + gap [] =
    ap (λ r. r.bytes) (run-append gap_piece (47 ∷ 47 ∷ text) [] (omega arith) (ap Some long)) in
    omega arith

no_longer_gap : (w after : List ℕ) → IsGapBefore w after → length w ≤ gap (w ++ after)
no_longer_gap w after (inl g) = (let all : gap (w ++ after) ≡ length w + gap after = gap-adds g after in omega arith)
no_longer_gap w after (inr (lead, last, g, (text, each, is), e, n)) =
    let whole : w ++ after ≡ lead ++ 47 ∷ 47 ∷ (text ++ []) =
    ap (λ x. x ++ after) e ∙ ap (λ x. (lead ++ last) ++ x) n ∙ append_assoc lead last [] ∙ ap (λ x. lead ++ (x ++ [])) is in
    let all : gap (lead ++ 47 ∷ 47 ∷ (text ++ [])) ≡ length lead + gap (47 ∷ 47 ∷ (text ++ [])) = gap-adds g (47 ∷ 47 ∷ (text ++ [])) in
    let tail : gap (47 ∷ 47 ∷ (text ++ [])) ≡ suc (suc (length text)) = last_gap text each in
    let goes : gap (w ++ after) ≡ gap (lead ++ 47 ∷ 47 ∷ (text ++ [])) = ap gap whole in
    let l1 : length w ≡ length lead + length last = ap length e ∙ length-append lead last in
    let l2 : length last ≡ suc (suc (length text)) = ap length is in
    omega arith

-- what a run of gap pieces takes
record GapFront (bs : List ℕ) (n : ℕ) : Type 0 where
  word : List ℕ
  after : List ℕ
  holds : IsGapBefore word after
  whole : bs ≡ word ++ after
  long : length word ≡ n

gap_rest : {bs : List ℕ} {n : ℕ} → (f : GapFront bs n) → drop n bs ≡ f.after
gap_rest {bs = bs} {n = n} f = ap (drop n) f.whole ∙ drop_at f.word f.after n f.long

gap_taken : {bs : List ℕ} {n : ℕ} → (f : GapFront bs n) → take n bs ≡ f.word
gap_taken {bs = bs} {n = n} f = ap (take n) f.whole ∙ take_at f.word f.after n f.long

-- a gap that begins with a line feed
line_begins : (a : ℕ) (rest word after : List ℕ) → a ≡ 10 → a ∷ rest ≡ word ++ after → 0 < length word → IsGapBefore word after →
    (ys : List ℕ) × (word ≡ 10 ∷ ys) × IsGapBefore (10 ∷ ys) after
line_begins a rest [] after ten e lt g = absurd (omega arith)
line_begins a rest (y ∷ ys) after ten e lt g =
    let same : y ≡ 10 = sym (heads-same a y rest (ys ++ after) e) ∙ ten in
    (ys, ap (λ x. x ∷ ys) same, subst (λ x. IsGapBefore (x ∷ ys) after) same g)

-- a comment before a line feed
line_joined : (text ys after : List ℕ) → Each is_no_line_feed text → IsGapBefore (10 ∷ ys) after →
    IsGapBefore (47 ∷ 47 ∷ (text ++ 10 ∷ ys)) after
line_joined text ys after each (inl g) = inl (IsGap.line text each g refl)
line_joined text ys after each (inr ([], last, g, (line, c, is), e, n)) =
    let bad : ◌≡◌ {A = ℕ} 10 47 = heads-same 10 47 ys (47 ∷ line) (e ∙ is) in absurd (omega arith)
line_joined text ys after each (inr (x ∷ lead, last, g, c, e, n)) =
    let same : 10 ≡ x = heads-same 10 x ys (lead ++ last) e in
    let begun : IsGap (10 ∷ lead) = subst (λ y. IsGap (y ∷ lead)) (sym same) g in
    let tail : ys ≡ lead ++ last = ap (drop 1) e in
    inr (
      47 ∷ 47 ∷ (text ++ 10 ∷ lead),
      last,
      IsGap.line text each begun refl,
      c,
      ap (λ z. 47 ∷ 47 ∷ z) (ap (λ z. text ++ 10 ∷ z) tail ∙ sym (append_assoc text (10 ∷ lead) last)),
      n,
    )

nothing_taken : {r k : ℕ} → Steps gap_piece [] r k → r ≡ 0
nothing_taken (stop stuck er ek) = er

line_comment : (cs after : List ℕ) (r k : ℕ) → (p : Passed is_no_line_feed cs) → p.after ≡ after → Steps gap_piece after r k →
    GapFront after r → GapFront (47 ∷ 47 ∷ cs) (suc (suc (length p.word + r)))
line_comment cs [] r k p at more rest =
    let none : r ≡ 0 = nothing_taken more in
    record {
      word = 47 ∷ 47 ∷ p.word;
      after = [];
      holds = inr ([], 47 ∷ 47 ∷ p.word, IsGap.none, (p.word, p.each, refl), refl, refl);
      whole = ap (λ x. 47 ∷ 47 ∷ x) (p.whole ∙ ap (λ x. p.word ++ x) at);
      long = omega arith;
    }
line_comment cs (a ∷ as_) r k p at more rest =
    let stops : not (nat_eq a 10) ≡ false = sym (ap (first_passes is_no_line_feed) at) ∙ p.stops in
    let ten : a ≡ 10 = eqb-true a 10 (is_true (nat_eq a 10) stops) in
    let some : 0 < r = steps-some more (ap (λ y. is_piece (gap_piece (y ∷ as_))) ten) in
    let l2 : length rest.word ≡ r = rest.long in
    let begun = line_begins a as_ rest.word rest.after ten rest.whole (omega arith) rest.holds in
    let whole : cs ≡ (p.word ++ 10 ∷ begun.0) ++ rest.after =
    p.whole ∙ ap (λ ys. p.word ++ ys) (at ∙ rest.whole ∙ ap (λ ys. ys ++ rest.after) begun.1)
    ∙ sym (append_assoc p.word (10 ∷ begun.0) rest.after) in
    let len : length (p.word ++ 10 ∷ begun.0) ≡ length p.word + suc (length begun.0) = length-append p.word (10 ∷ begun.0) in
    let l3 : length rest.word ≡ suc (length begun.0) = ap length begun.1 in
    record {
      word = 47 ∷ 47 ∷ (p.word ++ 10 ∷ begun.0);
      after = rest.after;
      holds = line_joined p.word begun.0 rest.after p.each begun.2;
      whole = ap (λ ys. 47 ∷ 47 ∷ ys) whole;
      long = omega arith;
    }
  where
    is_true : (t : Bool) → not t ≡ false → t ≡ true
    is_true true h = refl
    is_true false h = absurd (true≢false h)

-- a blank, or a comment from `/*`, before a gap
blank_joined : (b : ℕ) (w after : List ℕ) → is_blank b ≡ true → IsGapBefore w after → IsGapBefore (b ∷ w) after
blank_joined b w after h (inl g) = inl (IsGap.blank h g)
blank_joined b w after h (inr (lead, last, g, c, e, n)) = inr (b ∷ lead, last, IsGap.blank h g, c, ap (λ x. b ∷ x) e, n)

block_joined : (text w after : List ℕ) → IsClosed text → IsGapBefore w after → IsGapBefore (47 ∷ 42 ∷ (text ++ w)) after
block_joined text w after h (inl g) = inl (IsGap.block h g refl)
block_joined text w after h (inr (lead, last, g, c, e, n)) =
    inr (
      47 ∷ 42 ∷ (text ++ lead),
      last,
      IsGap.block h g refl,
      c,
      ap (λ z. 47 ∷ 42 ∷ z) (ap (λ z. text ++ z) e ∙ sym (append_assoc text lead last)),
      n,
    )

one_blank : (b n r rs : ℕ) (bs : List ℕ) → is_blank b ≡ true → 1 ≡ suc n → rs ≡ suc (n + r) → GapFront (drop n bs) r → GapFront (b ∷ bs) rs
one_blank b n r rs bs blank one er rest =
    let zero_is : n ≡ 0 = omega arith in
    let l2 : length rest.word ≡ r = rest.long in
    record {
      word = b ∷ rest.word;
      after = rest.after;
      holds = blank_joined b rest.word rest.after blank rest.holds;
      whole = ap (λ ys. b ∷ ys) (sym (ap (λ m. drop m bs) zero_is) ∙ rest.whole);
      long = omega arith;
    }

line_front : (c n r k rs : ℕ) (cs : List ℕ) → nat_eq c 47 ≡ true → comment_length (c ∷ cs) ≡ Some n → rs ≡ suc (n + r) →
    Steps gap_piece (drop n (c ∷ cs)) r k → GapFront (drop n (c ∷ cs)) r → GapFront (47 ∷ c ∷ cs) rs
line_front c n r k rs cs line e er more rest =
    let p : Passed is_no_line_feed cs = passed is_no_line_feed cs in
    let l1 : length p.word ≡ front is_no_line_feed cs = p.long in
    let n_is : 1 + front is_no_line_feed cs ≡ n = some_same _ n (sym (cond-true (nat_eq c 47) _ _ line) ∙ e) in
    let n_suc : n ≡ suc (length p.word) = omega arith in
    let after : drop n (c ∷ cs) ≡ p.after =
    ap (λ m. drop m (c ∷ cs)) n_suc ∙ ap (drop (length p.word)) p.whole ∙ drop_at p.word p.after (length p.word) refl in
    let f : GapFront (47 ∷ 47 ∷ cs) (suc (suc (length p.word + r))) = line_comment cs (drop n (c ∷ cs)) r k p (sym after) more rest in
    let same : suc (suc (length p.word + r)) ≡ rs = omega arith in
    subst (λ m. GapFront (47 ∷ c ∷ cs) m) same
    (subst (λ y. GapFront (47 ∷ y ∷ cs) (suc (suc (length p.word + r)))) (sym (eqb-true c 47 line)) f)

block_front : (n m r rs : ℕ) (cs : List ℕ) → block_length cs ≡ Some m → 1 + m ≡ n → rs ≡ suc (n + r) →
    GapFront (drop n (42 ∷ cs)) r → GapFront (47 ∷ 42 ∷ cs) rs
block_front n m r rs cs e sum er rest =
    let f : Front IsClosed cs m = closed_front cs m e in
    let n_suc : n ≡ suc m = omega arith in
    let after : drop n (42 ∷ cs) ≡ f.after = ap (λ i. drop i (42 ∷ cs)) n_suc ∙ front-rest f in
    let l1 : length f.word ≡ m = f.long in
    let l2 : length rest.word ≡ r = rest.long in
    let len : length (f.word ++ rest.word) ≡ length f.word + length rest.word = length-append f.word rest.word in
    record {
      word = 47 ∷ 42 ∷ (f.word ++ rest.word);
      after = rest.after;
      holds = block_joined f.word rest.word rest.after f.holds rest.holds;
      whole = ap (λ ys. 47 ∷ 42 ∷ ys) (f.whole ∙ ap (λ ys. f.word ++ ys) (sym after ∙ rest.whole)
          ∙ sym (append_assoc f.word rest.word rest.after));
      long = omega arith;
    }

comment_front : (n r k rs : ℕ) (bs : List ℕ) → comment_length bs ≡ Some n → rs ≡ suc (n + r) → Steps gap_piece (drop n bs) r k →
    GapFront (drop n bs) r → GapFront (47 ∷ bs) rs
comment_front n r k rs [] e er more rest = cc
comment_front n r k rs (c ∷ cs) e er more rest =
    elim (cases_Bool (nat_eq c 47)) [
      | inl line ↦ line_front c n r k rs cs line e er more rest
      | inr other ↦
          let g : cond (nat_eq c 42) (option_map (λ m. 1 + m) (block_length cs)) None ≡ Some n =
          sym (cond-false (nat_eq c 47) _ _ other) ∙ e in
          elim (cases_Bool (nat_eq c 42)) [
            | inl block ↦
                let m = map-some 1 n (block_length cs) (sym (cond-true (nat_eq c 42) _ _ block) ∙ g) in
                let is : c ≡ 42 = eqb-true c 42 block in
                subst (λ y. GapFront (47 ∷ y ∷ cs) rs) (sym is)
                (block_front n m.0 r rs cs m.1 m.2 er (subst (λ y. GapFront (drop n (y ∷ cs)) r) is rest))
            | inr neither ↦ (let bad : None ≡ Some n = sym (cond-false (nat_eq c 42) _ _ neither) ∙ g in cc)
          ]
    ]

gap_front : {bs : List ℕ} {r k : ℕ} → Steps gap_piece bs r k → GapFront bs r
gap_front {bs} (stop stuck er ek) = record { word = []; after = bs; holds = inl IsGap.none; whole = refl; long = sym er }
gap_front {r = rs} (step {b = b} {n = n} {r = r} {k = k} {bs = bs} h more er ek) =
    let rest : GapFront (drop n bs) r = gap_front more in
    elim (cases_Bool (is_blank b)) [
      | inl blank ↦ one_blank b n r rs bs blank (some_same 1 (suc n) (sym (cond-true (is_blank b) _ _ blank) ∙ h)) er rest
      | inr other ↦
          let g : cond (nat_eq b 47) (option_map (λ m. 1 + m) (comment_length bs)) None ≡ Some (suc n) =
          sym (cond-false (is_blank b) _ _ other) ∙ h in
          elim (cases_Bool (nat_eq b 47)) [
            | inl slash ↦
                let m = map-some 1 (suc n) (comment_length bs) (sym (cond-true (nat_eq b 47) _ _ slash) ∙ g) in
                let same : m.0 ≡ n = (let sum : 1 + m.0 ≡ suc n = m.2 in omega arith) in
                subst (λ y. GapFront (y ∷ bs) rs) (sym (eqb-true b 47 slash)) (comment_front n r k rs bs (m.1 ∙ ap Some same) er more rest)
            | inr neither ↦ (let bad : None ≡ Some (suc n) = sym (cond-false (nat_eq b 47) _ _ neither) ∙ g in cc)
          ]
    ]

-- the gap up to a byte that is there
pub gap-front : {bs : List ℕ} {r k : ℕ} → Steps gap_piece bs r k → (x : ℕ) (xs : List ℕ) → drop r bs ≡ x ∷ xs → Front IsGap bs r
gap-front {bs} {r} s x xs e =
    let f : GapFront bs r = gap_front s in
    record { word = f.word; after = f.after; holds = within f.holds (sym (gap_rest f) ∙ e); whole = f.whole; long = f.long }
  where
    within : {w after : List ℕ} → IsGapBefore w after → after ≡ x ∷ xs → IsGap w
    within (inl g) e = g
    within (inr (lead, last, g, c, is, none)) e = (let bad : [] ≡ x ∷ xs = sym none ∙ e in cc)

gap_stands : (bs : List ℕ) → IsGapBefore (take (gap bs) bs) (drop (gap bs) bs)
gap_stands bs =
    let f : GapFront bs (gap bs) = gap_front (steps gap_piece refl bs) in
    subst (λ x. IsGapBefore (take (gap bs) bs) x) (sym (gap_rest f))
    (subst (λ x. IsGapBefore x f.after) (sym (gap_taken f)) f.holds)

pub gap-is-longest : GapIsLongest
gap-is-longest = record { stands = gap_stands; longest = no_longer_gap }
