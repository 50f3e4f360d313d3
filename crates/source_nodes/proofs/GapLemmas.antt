-- Gaps from their front on.
use Rattle.std.proofs.Common.{◌≡◌, ℕ, zero, suc, ◌+◌, ◌-◌, ◌<◌, ◌≤◌, Bool, true, false, cond, not, nat_eq, ◌==◌, ◌||◌, ◌&&◌, List, [], ◌∷◌, ◌++◌, length, take, drop, refl, ap, sym, subst, ◌∙◌, arith, append_assoc, length-drop, drop_at, true≢false}
use Rattle.std.proofs.lemmas.Bool.{false≢true, cases_Bool}
use Rattle.il_lexer.specs.Classes.{is_blank, first_is, first_passes}
use Rattle.il_lexer.specs.Gaps.{is_close}
use Rattle.il_lexer.specs.Runs.{front}
use Rattle.il_lexer.specs.Spelled.{Each, IsClosed, IsGap, is_no_line_feed}
use Rattle.source_nodes.specs.Gaps.{may_begin_gap}
use Rattle.source_nodes.proofs.Lexed.{eq-self, heads-same, tails-same, differ, front-each, front-false}

-- something of this form, and then more, stands here
pub record Within (P : List ℕ → Type 0) (rest after : List ℕ) : Type 0 where
  pub left : List ℕ
  pub holds : P left
  pub is : rest ≡ left ++ after

-- ---- comments from `/*`

not_empty : {text : List ℕ} → IsClosed text → (b : ℕ) × (bs : List ℕ) × (text ≡ b ∷ bs)
not_empty (IsClosed.close is) = (42, 47 ∷ [], is)
not_empty (IsClosed.before {b = b} {bs = bs} h t) = (b, bs, refl)

same_close : {bs : List ℕ} → IsClosed bs → (b : ℕ) (after : List ℕ) → is_close (b ∷ (bs ++ after)) ≡ is_close (b ∷ bs)
same_close {bs} t b after =
    let n = not_empty t in
    ap (λ x. is_close (b ∷ (x ++ after))) n.2 ∙ ap (λ x. is_close (b ∷ x)) (sym n.2)

pub closes : (rest after : List ℕ) → is_close rest ≡ true → Within IsClosed rest after → drop 2 rest ≡ after
closes rest after h w = go w.holds w.is
  where
    go : {left : List ℕ} → IsClosed left → rest ≡ left ++ after → drop 2 rest ≡ after
    go (IsClosed.close is) e = ap (drop 2) (e ∙ ap (λ x. x ++ after) is)
    go (IsClosed.before {b = b} {bs = bs} n t) e = absurd (true≢false (sym h ∙ ap is_close e ∙ same_close t b after ∙ n))

pub goes_on : (rest after : List ℕ) → is_close rest ≡ false → Within IsClosed rest after → Within IsClosed (drop 1 rest) after
goes_on rest after h w = go w.holds w.is
  where
    go : {left : List ℕ} → IsClosed left → rest ≡ left ++ after → Within IsClosed (drop 1 rest) after
    go (IsClosed.close is) e = absurd (true≢false (sym (ap is_close (e ∙ ap (λ x. x ++ after) is)) ∙ h))
    go (IsClosed.before {b = b} {bs = bs} n t) e = record { left = bs; holds = t; is = ap (drop 1) e }

pub no_close : (rest after : List ℕ) → length rest < 1 → Within IsClosed rest after → rest ≡ after
no_close rest after h w =
    let n = not_empty w.holds in
    let e : length rest ≡ suc (length (n.1 ++ after)) = ap length (w.is ∙ ap (λ x. x ++ after) n.2) in
    absurd (omega arith)

-- ---- gaps

or_true : (x y : Bool) → y ≡ true → (x || y) ≡ true
or_true true y h = refl
or_true false y h = h

or_left_true : (x y : Bool) → x ≡ true → (x || y) ≡ true
or_left_true true y h = refl
or_left_true false y h = absurd (false≢true h)

both : (x y : Bool) → (x && y) ≡ true → (x ≡ true) × (y ≡ true)
both true y h = (refl, h)
both false y h = absurd (false≢true h)

blank_begins : (bs : List ℕ) → first_passes is_blank bs ≡ true → first_passes may_begin_gap bs ≡ true
blank_begins [] h = absurd (false≢true h)
blank_begins (b ∷ bs) h = or_left_true (is_blank b) (nat_eq b 47) h

slash_begins : (bs : List ℕ) → first_is 47 bs ≡ true → first_passes may_begin_gap bs ≡ true
slash_begins [] h = absurd (false≢true h)
slash_begins (b ∷ bs) h = or_true (is_blank b) (nat_eq b 47) h

pub blank_passed : (rest after : List ℕ) → first_passes may_begin_gap after ≡ false → first_passes is_blank rest ≡ true → Within IsGap rest after →
    Within IsGap (drop 1 rest) after
blank_passed rest after ends h w = go w.holds w.is
  where
    go : {left : List ℕ} → IsGap left → rest ≡ left ++ after → Within IsGap (drop 1 rest) after
    go IsGap.none e = absurd (true≢false (sym (blank_begins after (sym (ap (first_passes is_blank) e) ∙ h)) ∙ ends))
    go (IsGap.blank {b = b} {bs = bs} k g) e = record { left = bs; holds = g; is = ap (drop 1) e }
    go (IsGap.line text {bs = bs} {w = w} each g is) e =
        absurd (true≢false (sym h ∙ ap (first_passes is_blank) (e ∙ ap (λ x. x ++ after) is)))
    go (IsGap.block {text = text} {bs = bs} {w = w} c g is) e =
        absurd (true≢false (sym h ∙ ap (first_passes is_blank) (e ∙ ap (λ x. x ++ after) is)))

pub line_passed : (rest after : List ℕ) → first_passes may_begin_gap after ≡ false → (first_is 47 rest && first_is 47 (drop 1 rest)) ≡ true →
    Within IsGap rest after → Within IsGap (drop (front is_no_line_feed (drop 2 rest)) (drop 2 rest)) after
line_passed rest after ends h w = go w.holds w.is
  where
    go : {left : List ℕ} → IsGap left → rest ≡ left ++ after → Within IsGap (drop (front is_no_line_feed (drop 2 rest)) (drop 2 rest)) after
    go IsGap.none e =
        absurd (true≢false (sym (slash_begins after (sym (ap (first_is 47) e) ∙ (both (first_is 47 rest) (first_is 47 (drop 1 rest)) h).0)) ∙ ends))
    go (IsGap.blank {b = b} {bs = bs} k g) e =
        let slash : nat_eq b 47 ≡ true = sym (ap (first_is 47) e) ∙ (both (first_is 47 rest) (first_is 47 (drop 1 rest)) h).0 in
        absurd (true≢false (sym slash ∙ differ is_blank b 47 k refl))
    go (IsGap.line text {bs = bs} {w = w} each g is) e =
        let whole : rest ≡ 47 ∷ 47 ∷ (text ++ 10 ∷ (bs ++ after)) =
        e ∙ ap (λ x. x ++ after) is ∙ ap (λ x. 47 ∷ 47 ∷ x) (append_assoc text (10 ∷ bs) after) in
        let tail : drop 2 rest ≡ text ++ 10 ∷ (bs ++ after) = ap (drop 2) whole in
        let through : front is_no_line_feed (text ++ 10 ∷ (bs ++ after)) ≡ length text + front is_no_line_feed (10 ∷ (bs ++ after)) =
        front-each is_no_line_feed text (10 ∷ (bs ++ after)) each in
        let none : front is_no_line_feed (10 ∷ (bs ++ after)) ≡ 0 = front-false is_no_line_feed 10 (bs ++ after) refl in
        let n : front is_no_line_feed (text ++ 10 ∷ (bs ++ after)) ≡ length text = omega arith in
        record {
          left = 10 ∷ bs;
          holds = g;
          is =
              ap (λ x. drop (front is_no_line_feed x) x) tail ∙ ap (λ m. drop m (text ++ 10 ∷ (bs ++ after))) n
              ∙ drop_at text (10 ∷ (bs ++ after)) (length text) refl;
        }
    go (IsGap.block {text = text} {bs = bs} {w = w} c g is) e =
        absurd (true≢false (sym (both (first_is 47 rest) (first_is 47 (drop 1 rest)) h).1 ∙ ap (λ x. first_is 47 (drop 1 x)) (e ∙ ap (λ x. x ++ after) is)))

pub block_passed : (rest next after : List ℕ) → first_passes may_begin_gap after ≡ false → (first_is 47 rest && first_is 42 (drop 1 rest)) ≡ true →
    ((text behind : List ℕ) → IsClosed text → drop 2 rest ≡ text ++ behind → next ≡ behind) → Within IsGap rest after → Within IsGap next after
block_passed rest next after ends h passed w = go w.holds w.is
  where
    go : {left : List ℕ} → IsGap left → rest ≡ left ++ after → Within IsGap next after
    go IsGap.none e =
        absurd (true≢false (sym (slash_begins after (sym (ap (first_is 47) e) ∙ (both (first_is 47 rest) (first_is 42 (drop 1 rest)) h).0)) ∙ ends))
    go (IsGap.blank {b = b} {bs = bs} k g) e =
        let slash : nat_eq b 47 ≡ true = sym (ap (first_is 47) e) ∙ (both (first_is 47 rest) (first_is 42 (drop 1 rest)) h).0 in
        absurd (true≢false (sym slash ∙ differ is_blank b 47 k refl))
    go (IsGap.line text {bs = bs} {w = w} each g is) e =
        absurd (true≢false (sym (both (first_is 47 rest) (first_is 42 (drop 1 rest)) h).1 ∙ ap (λ x. first_is 42 (drop 1 x)) (e ∙ ap (λ x. x ++ after) is)))
    go (IsGap.block {text = text} {bs = bs} {w = w} c g is) e =
        let whole : rest ≡ 47 ∷ 42 ∷ (text ++ (bs ++ after)) =
        e ∙ ap (λ x. x ++ after) is ∙ ap (λ x. 47 ∷ 42 ∷ x) (append_assoc text bs after) in
        record { left = bs; holds = g; is = passed text (bs ++ after) c (ap (drop 2) whole) }

-- where neither a blank nor a comment begins, the gap is at its end
pub no_gap_left : (rest after : List ℕ) → first_passes is_blank rest ≡ false → (first_is 47 rest && first_is 47 (drop 1 rest)) ≡ false →
    (first_is 47 rest && first_is 42 (drop 1 rest)) ≡ false → Within IsGap rest after → rest ≡ after
no_gap_left rest after nb nl nk w = go w.holds w.is
  where
    go : {left : List ℕ} → IsGap left → rest ≡ left ++ after → rest ≡ after
    go IsGap.none e = e
    go (IsGap.blank {b = b} {bs = bs} k g) e = absurd (true≢false (sym k ∙ sym (ap (first_passes is_blank) e) ∙ nb))
    go (IsGap.line text {bs = bs} {w = w} each g is) e =
        absurd (true≢false (sym (ap (λ x. first_is 47 x && first_is 47 (drop 1 x)) (e ∙ ap (λ x. x ++ after) is)) ∙ nl))
    go (IsGap.block {text = text} {bs = bs} {w = w} c g is) e =
        absurd (true≢false (sym (ap (λ x. first_is 47 x && first_is 42 (drop 1 x)) (e ∙ ap (λ x. x ++ after) is)) ∙ nk))

pub empty_gap : (rest after : List ℕ) → length rest ≡ 0 → Within IsGap rest after → rest ≡ after
empty_gap [] after h w = go w.holds w.is
  where
    go : {left : List ℕ} → IsGap left → [] ≡ left ++ after → [] ≡ after
    go IsGap.none e = e
    go (IsGap.blank {b = b} {bs = bs} k g) e = absurd cc
    go (IsGap.line text {bs = bs} {w = w} each g is) e = (let bad : [] ≡ 47 ∷ 47 ∷ ((text ++ 10 ∷ bs) ++ after) = e ∙ ap (λ x. x ++ after) is in absurd cc)
    go (IsGap.block {text = text} {bs = bs} {w = w} c g is) e = (let bad : [] ≡ 47 ∷ 42 ∷ ((text ++ bs) ++ after) = e ∙ ap (λ x. x ++ after) is in absurd cc)
empty_gap (b ∷ rest) after h w = absurd (omega arith)

pub shorter : (n : ℕ) (rest middle next : List ℕ) → middle ≡ drop 2 rest → next ≡ drop n middle → length next ≤ length rest
shorter n rest middle next m e =
    let l1 : length next ≡ length middle - n = ap length e ∙ length-drop n middle in
    let l2 : length middle ≡ length rest - 2 = ap length m ∙ length-drop 2 rest in
    omega arith
