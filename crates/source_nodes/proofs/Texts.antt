-- Texts between quotes, from their front on.
use Rattle.std.proofs.Common.{◌≡◌, ◌≢◌, ℕ, zero, suc, ◌-◌, ◌≤◌, Bool, true, false, cond, not, nat_eq, ◌==◌, ◌||◌, List, [], ◌∷◌, ◌++◌, length, take, drop, Some, refl, ap, sym, subst, ◌∙◌, arith, get_or, length-drop, append_assoc, append-nil, drop_at, ne_eqb, true≢false}
use Rattle.std.proofs.lemmas.Slice.{between_to_end}
use Rattle.std.proofs.lemmas.Bool.{cond-true, cond-false, false≢true}
use Rattle.il_lexer.specs.Quotes.{escape_length, is_escape_letter}
use Rattle.il_lexer.specs.Spelled.{IsEscape, IsText, is_plain}
use Rattle.source_nodes.proofs.Lexed.{eq-self, heads-same, tails-same, escape-exact}
use Rattle.source_model.specs.Values.{or_zero, escape_bytes, unescaped_within, unescaped}

-- ---- one step of a text

enough : (t u : ℕ) (bs : List ℕ) → length bs ≤ t → length bs ≤ u → unescaped_within t bs ≡ unescaped_within u bs
enough zero zero bs a b = refl
enough zero (suc u) [] a b = refl
enough zero (suc u) (x ∷ bs) a b = absurd (omega arith)
enough (suc t) zero [] a b = refl
enough (suc t) zero (x ∷ bs) a b = absurd (omega arith)
enough (suc t) (suc u) [] a b = refl
enough (suc t) (suc u) (x ∷ bs) a b =
    let n = or_zero (escape_length bs) in
    let l : length (drop n bs) ≤ t = omega (arith, length-drop n bs) in
    let r : length (drop n bs) ≤ u = omega (arith, length-drop n bs) in
    let left : length bs ≤ t = omega arith in
    let right : length bs ≤ u = omega arith in
    both (x == 92) (escape_bytes bs) _ _ _ _ (enough t u (drop n bs) l r) (ap (λ w. x ∷ w) (enough t u bs left right))
  where
    both : (c : Bool) (front a b p q : List ℕ) → a ≡ b → p ≡ q → cond c (front ++ a) p ≡ cond c (front ++ b) q
    both true front a b p q e f = ap (λ w. front ++ w) e
    both false front a b p q e f = f

pub unescaped-nil : unescaped [] ≡ []
unfolding unescaped
unescaped-nil = refl

pub unescaped-plain : (b : ℕ) (bs : List ℕ) → nat_eq b 92 ≡ false → unescaped (b ∷ bs) ≡ b ∷ unescaped bs
unfolding unescaped
unescaped-plain b bs h = cond-false (nat_eq b 92) _ _ h

pub unescaped-escape : (bs : List ℕ) (n : ℕ) → escape_length bs ≡ Some n → unescaped (92 ∷ bs) ≡ escape_bytes bs ++ unescaped (drop n bs)
unfolding unescaped
unescaped-escape bs n h =
    let l : length (drop n bs) ≤ length bs = omega (arith, length-drop n bs) in
    let r : length (drop n bs) ≤ length (drop n bs) = omega arith in
    ap (λ o. escape_bytes bs ++ unescaped_within (length bs) (drop (or_zero o) bs)) h
    ∙ ap (λ w. escape_bytes bs ++ w) (enough (length bs) (length (drop n bs)) (drop n bs) l r)

-- what an escape gives doesn't depend on what stands behind it
same_front : {e : List ℕ} → IsEscape e → (r s : List ℕ) → escape_bytes (e ++ r) ≡ escape_bytes (e ++ s)
same_front {e} (IsEscape.letter {a = a} h is) r s =
    subst (λ w. escape_bytes (w ++ r) ≡ escape_bytes (w ++ s)) (sym is) (cond-true (is_escape_letter a) _ _ h ∙ sym (cond-true (is_escape_letter a) _ _ h))
same_front {e} (IsEscape.octal {a = a} {b = b} {c = c} h is) r s = subst (λ w. escape_bytes (w ++ r) ≡ escape_bytes (w ++ s)) (sym is) refl
same_front {e} (IsEscape.line is) r s = subst (λ w. escape_bytes (w ++ r) ≡ escape_bytes (w ++ s)) (sym is) refl
same_front {e} (IsEscape.return_line is) r s = subst (λ w. escape_bytes (w ++ r) ≡ escape_bytes (w ++ s)) (sym is) refl

-- ---- the rest of a text that is passed in part

-- A text, the closing quote and more stand here; the bytes so far and what the text stands for are the whole.
pub record Rest (quote : ℕ) (rest after bytes whole : List ℕ) : Type 0 where
  pub left : List ℕ
  pub holds : IsText quote left
  pub is : rest ≡ left ++ quote ∷ after
  pub sum : bytes ++ unescaped left ≡ whole

plain_is : (x y z u : Bool) → not (x || y || z || u) ≡ true → (x ≡ false) × (u ≡ false)
plain_is true y z u h = absurd (false≢true h)
plain_is false true z u h = absurd (false≢true h)
plain_is false false true u h = absurd (false≢true h)
plain_is false false false true h = absurd (false≢true h)
plain_is false false false false h = (refl, refl)

pub plain : (q b : ℕ) → is_plain q b ≡ true → (nat_eq b q ≡ false) × (nat_eq b 92 ≡ false)
plain q b h = plain_is (nat_eq b q) (nat_eq b 10) (nat_eq b 0) (nat_eq b 92) h

equal : (a b : ℕ) → a ≡ b → nat_eq a b ≡ true
equal a b e = ap (λ x. nat_eq x b) e ∙ eq-self b

-- at the quote the text is at its end
pub at_quote : (q b : ℕ) (more after bytes whole : List ℕ) → nat_eq q 92 ≡ false → b ≡ q → Rest q (b ∷ more) after bytes whole →
    (more ≡ after) × (bytes ≡ whole)
at_quote q b more after bytes whole nq e r = go r.holds r.is r.sum
  where
    go : {left : List ℕ} → IsText q left → b ∷ more ≡ left ++ q ∷ after → bytes ++ unescaped left ≡ whole → (more ≡ after) × (bytes ≡ whole)
    go IsText.none is sum = (tails-same b q more after is, sym (append-nil bytes) ∙ ap (λ x. bytes ++ x) (sym unescaped-nil) ∙ sum)
    go (IsText.plain {b = c} {bs = bs} h t) is sum =
        let same : c ≡ q = sym (heads-same b c more (bs ++ q ∷ after) is) ∙ e in
        absurd (true≢false (sym (equal c q same) ∙ (plain q c h).0))
    go (IsText.escape {e = esc} {bs = bs} {w = w} h t cut) is sum =
        let same : q ≡ 92 = sym e ∙ heads-same b 92 more ((esc ++ bs) ++ q ∷ after) (is ∙ ap (λ x. x ++ q ∷ after) cut) in
        absurd (true≢false (sym (equal q 92 same) ∙ nq))

-- a byte that is no quote and no backslash stands for itself
pub at_plain : (q b : ℕ) (more after bytes whole : List ℕ) → nat_eq b q ≡ false → nat_eq b 92 ≡ false → Rest q (b ∷ more) after bytes whole →
    Rest q more after (bytes ++ b ∷ []) whole
at_plain q b more after bytes whole nq ns r = go r.holds r.is r.sum
  where
    go : {left : List ℕ} → IsText q left → b ∷ more ≡ left ++ q ∷ after → bytes ++ unescaped left ≡ whole → Rest q more after (bytes ++ b ∷ []) whole
    go IsText.none is sum = absurd (true≢false (sym (equal b q (heads-same b q more after is)) ∙ nq))
    go (IsText.plain {b = c} {bs = bs} h t) is sum =
        let same : b ≡ c = heads-same b c more (bs ++ q ∷ after) is in
        record {
          left = bs;
          holds = t;
          is = tails-same b c more (bs ++ q ∷ after) is;
          sum =
              append_assoc bytes (b ∷ []) (unescaped bs)
              ∙ ap (λ x. bytes ++ x ∷ unescaped bs) same
              ∙ ap (λ x. bytes ++ x) (sym (unescaped-plain c bs (plain q c h).1)) ∙ sum;
        }
    go (IsText.escape {e = esc} {bs = bs} {w = w} h t cut) is sum =
        let same : b ≡ 92 = heads-same b 92 more ((esc ++ bs) ++ q ∷ after) (is ∙ ap (λ x. x ++ q ∷ after) cut) in
        absurd (true≢false (sym (equal b 92 same) ∙ ns))

-- at a backslash an escape stands, and gives its bytes
pub record Escaped (q : ℕ) (more after bytes whole : List ℕ) : Type 0 where
  pub size : ℕ
  pub long : escape_length more ≡ Some size
  pub rest : Rest q (drop size more) after (bytes ++ escape_bytes more) whole

pub at_escape : (q b : ℕ) (more after bytes whole : List ℕ) → nat_eq b q ≡ false → b ≡ 92 → Rest q (b ∷ more) after bytes whole →
    Escaped q more after bytes whole
at_escape q b more after bytes whole nq slash r = go r.holds r.is r.sum
  where
    go : {left : List ℕ} → IsText q left → b ∷ more ≡ left ++ q ∷ after → bytes ++ unescaped left ≡ whole → Escaped q more after bytes whole
    go IsText.none is sum = absurd (true≢false (sym (equal b q (heads-same b q more after is)) ∙ nq))
    go (IsText.plain {b = c} {bs = bs} h t) is sum =
        let same : c ≡ 92 = sym (heads-same b c more (bs ++ q ∷ after) is) ∙ slash in
        absurd (true≢false (sym (equal c 92 same) ∙ (plain q c h).1))
    go (IsText.escape {e = e} {bs = bs} {w = w} h t cut) is sum =
        let whole_is : b ∷ more ≡ 92 ∷ ((e ++ bs) ++ q ∷ after) = is ∙ ap (λ x. x ++ q ∷ after) cut in
        let tail : more ≡ e ++ (bs ++ q ∷ after) = tails-same b 92 more ((e ++ bs) ++ q ∷ after) whole_is ∙ append_assoc e bs (q ∷ after) in
        let gives : unescaped w ≡ escape_bytes (e ++ bs) ++ unescaped bs =
        ap unescaped cut ∙ unescaped-escape (e ++ bs) (length e) (escape-exact h bs)
        ∙ ap (λ x. escape_bytes (e ++ bs) ++ unescaped x) (drop_at e bs (length e) refl) in
        let bytes_is : escape_bytes more ≡ escape_bytes (e ++ bs) = ap escape_bytes tail ∙ same_front h (bs ++ q ∷ after) bs in
        record {
          size = length e;
          long = ap escape_length tail ∙ escape-exact h (bs ++ q ∷ after);
          rest = record {
            left = bs;
            holds = t;
            is = ap (drop (length e)) tail ∙ drop_at e (bs ++ q ∷ after) (length e) refl;
            sum =
                append_assoc bytes (escape_bytes more) (unescaped bs)
                ∙ ap (λ x. bytes ++ (x ++ unescaped bs)) bytes_is
                ∙ ap (λ x. bytes ++ x) (sym gives) ∙ sum;
          };
        }

-- ---- one turn of the loop that passes over a text

tail_is : (rest : List ℕ) → take (length rest - 1) (drop 1 rest) ≡ drop 1 rest
tail_is rest = let le : length rest ≤ length rest = omega arith in between_to_end rest 1 (length rest) le

pub quote_ends : (q : ℕ) (rest after bytes whole : List ℕ) → 1 ≤ length rest → q ≢ 92 → get_or rest 0 0 ≡ q → Rest q rest after bytes whole →
    (take (length rest - 1) (drop 1 rest) ≡ after) × (bytes ≡ whole)
quote_ends q [] after bytes whole some nq e r = absurd (omega arith)
quote_ends q (b ∷ more) after bytes whole some nq e r =
    let p = at_quote q b more after bytes whole (ne_eqb q 92 nq) e r in (tail_is (b ∷ more) ∙ p.0, p.1)

pub plain_passed : (q : ℕ) (rest after bytes new whole : List ℕ) → 1 ≤ length rest → get_or rest 0 0 ≢ q → get_or rest 0 0 ≢ 92 →
    new ≡ bytes ++ get_or rest 0 0 ∷ [] → Rest q rest after bytes whole → Rest q (take (length rest - 1) (drop 1 rest)) after new whole
plain_passed q [] after bytes new whole some nq ns e r = absurd (omega arith)
plain_passed q (b ∷ more) after bytes new whole some nq ns e r =
    subst (λ x. Rest q x after new whole) (sym (tail_is (b ∷ more)))
    (subst (λ x. Rest q more after x whole) (sym e) (at_plain q b more after bytes whole (ne_eqb b q nq) (ne_eqb b 92 ns) r))

pub escape_passed : (q : ℕ) (rest next after bytes new whole : List ℕ) → 1 ≤ length rest → get_or rest 0 0 ≢ q → get_or rest 0 0 ≡ 92 →
    ((n : ℕ) → escape_length (take (length rest - 1) (drop 1 rest)) ≡ Some n →
    (next ≡ drop n (take (length rest - 1) (drop 1 rest))) × (new ≡ bytes ++ escape_bytes (take (length rest - 1) (drop 1 rest)))) →
    Rest q rest after bytes whole → Rest q next after new whole
escape_passed q [] next after bytes new whole some nq slash pushed r = absurd (omega arith)
escape_passed q (b ∷ more) next after bytes new whole some nq slash pushed r =
    let e : Escaped q more after bytes whole = at_escape q b more after bytes whole (ne_eqb b q nq) slash r in
    let t : take (length (b ∷ more) - 1) (drop 1 (b ∷ more)) ≡ more = tail_is (b ∷ more) in
    let p = pushed e.size (ap escape_length t ∙ e.long) in
    let next_is : next ≡ drop e.size more = p.0 ∙ ap (drop e.size) t in
    let new_is : new ≡ bytes ++ escape_bytes more = p.1 ∙ ap (λ x. bytes ++ escape_bytes x) t in
    subst (λ x. Rest q x after new whole) (sym next_is) (subst (λ x. Rest q (drop e.size more) after x whole) (sym new_is) e.rest)

pub begins : (quote : ℕ) (inner after bytes : List ℕ) → IsText quote inner → (rest : List ℕ) → rest ≡ inner ++ quote ∷ after →
    Rest quote rest after bytes (bytes ++ unescaped inner)
begins quote inner after bytes t rest e = record { left = inner; holds = t; is = e; sum = refl }
