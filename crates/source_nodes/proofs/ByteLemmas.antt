-- Bytes in parentheses: what the definition finds where they are spelled.
use Rattle.std.proofs.Common.{◌≡◌, ℕ, zero, suc, ◌+◌, ◌*◌, ◌<◌, ◌≤◌, Bool, true, false, cond, not, ◌&&◌, ◌||◌, nat_eq, inl, inr, ◌⊎◌, List, [], ◌∷◌, ◌++◌, length, take, drop, None, Some, refl, ap, sym, subst, ◌∙◌, arith, length-append, append_assoc, drop_at, drop-drop, true≢false}
use Rattle.std.proofs.lemmas.Bool.{cases_Bool, cond-true, cond-false, false≢true}
use Rattle.std.specs.Option.{option_map}
use Rattle.il_lexer.specs.Classes.{is_blank, is_hex, first_passes, first_is}
use Rattle.il_lexer.specs.Runs.{front, run_of}
use Rattle.il_lexer.specs.Gaps.{is_close, block_length, comment_length, gap_piece, gap}
use Rattle.il_lexer.specs.Spelled.{Each, IsClosed, IsGap, IsPairs, IsBytes, IsSpelling, HasBytes, is_no_line_feed}
use Rattle.il_lexer.specs.declared.types.TokenKind.TheVariants.{EqBytes, ByteArray, RealBytes}
use Rattle.source_model.specs.Values.{digit_value, pair_then, pairs_within, bytes_in_parentheses}
use Rattle.source_nodes.specs.Gaps.{may_begin_gap}
use Rattle.source_nodes.proofs.Lexed.{run-none, run-piece, front-each, front-false, differ, heads-same, tails-same}

-- ---- gaps

closed_first : {text : List ℕ} → IsClosed text → (rest : List ℕ) → first_is 47 (text ++ rest) ≡ first_is 47 text
closed_first {text} (IsClosed.close is) rest = subst (λ w. first_is 47 (w ++ rest) ≡ first_is 47 w) (sym is) refl
closed_first (IsClosed.before h more) rest = refl

closed_exact : {text : List ℕ} → IsClosed text → (rest : List ℕ) → block_length (text ++ rest) ≡ Some (length text)
closed_exact {text} (IsClosed.close is) rest = subst (λ w. block_length (w ++ rest) ≡ Some (length w)) (sym is) refl
closed_exact (IsClosed.before {b = b} {bs = bs} h more) rest =
    cond-false (is_close (b ∷ (bs ++ rest))) _ _ (ap (λ t. nat_eq b 42 && t) (closed_first more rest) ∙ h)
    ∙ ap (option_map (λ n. 1 + n)) (closed_exact more rest)
    ∙ (let one : 1 + length bs ≡ suc (length bs) = omega arith in ap Some one)

-- a piece of a gap before what follows it
piece_adds : (b n : ℕ) (bs : List ℕ) → gap_piece (b ∷ bs) ≡ Some (suc n) → gap (b ∷ bs) ≡ suc n + gap (drop n bs)
piece_adds b n bs e = ap (λ r. r.bytes) (run-piece gap_piece b n bs e)

gap_adds : {g : List ℕ} → IsGap g → (after : List ℕ) → gap (g ++ after) ≡ length g + gap after
gap_adds IsGap.none after = omega arith
gap_adds (IsGap.blank {b = b} {bs = bs} h more) after =
    let rest : gap (bs ++ after) ≡ length bs + gap after = gap_adds more after in
    let bytes : gap (b ∷ (bs ++ after)) ≡ 1 + gap (bs ++ after) = piece_adds b 0 (bs ++ after) (cond-true (is_blank b) _ _ h) in
    omega arith
gap_adds (IsGap.line text {bs = bs} {w = w} each more is) after =
    let rest : gap (10 ∷ (bs ++ after)) ≡ suc (length bs) + gap after = gap_adds more after in
    let same : w ++ after ≡ 47 ∷ 47 ∷ (text ++ 10 ∷ (bs ++ after)) =
    ap (λ x. x ++ after) is ∙ ap (λ x. 47 ∷ 47 ∷ x) (append_assoc text (10 ∷ bs) after) in
    let through : front is_no_line_feed (text ++ 10 ∷ (bs ++ after)) ≡ length text + front is_no_line_feed (10 ∷ (bs ++ after)) =
    front-each is_no_line_feed text (10 ∷ (bs ++ after)) each in
    let stops : front is_no_line_feed (10 ∷ (bs ++ after)) ≡ 0 = front-false is_no_line_feed 10 (bs ++ after) refl in
    let long : 1 + (1 + front is_no_line_feed (text ++ 10 ∷ (bs ++ after))) ≡ suc (suc (length text)) = omega arith in
    let bytes : gap (47 ∷ 47 ∷ (text ++ 10 ∷ (bs ++ after))) ≡ suc (suc (length text)) + gap (10 ∷ (bs ++ after)) =
    piece_adds 47 (suc (length text)) (47 ∷ (text ++ 10 ∷ (bs ++ after))) (ap Some long)
    ∙ ap (λ x. suc (suc (length text)) + gap x) (drop_at text (10 ∷ (bs ++ after)) (length text) refl) in
    let goes : gap (w ++ after) ≡ gap (47 ∷ 47 ∷ (text ++ 10 ∷ (bs ++ after))) = ap gap same in
    let wide : length w ≡ suc (suc (length (text ++ 10 ∷ bs))) = ap length is in
    let len : length (text ++ 10 ∷ bs) ≡ length text + suc (length bs) = length-append text (10 ∷ bs) in
    omega arith
gap_adds (IsGap.block {text = text} {bs = bs} {w = w} closed more is) after =
    let rest : gap (bs ++ after) ≡ length bs + gap after = gap_adds more after in
    let same : w ++ after ≡ 47 ∷ 42 ∷ (text ++ (bs ++ after)) =
    ap (λ x. x ++ after) is ∙ ap (λ x. 47 ∷ 42 ∷ x) (append_assoc text bs after) in
    let two : 1 + (1 + length text) ≡ suc (suc (length text)) = omega arith in
    let piece : gap_piece (47 ∷ 42 ∷ (text ++ (bs ++ after))) ≡ Some (suc (suc (length text))) =
    ap (λ o. option_map (λ n. 1 + n) (option_map (λ n. 1 + n) o)) (closed_exact closed (bs ++ after)) ∙ ap Some two in
    let bytes : gap (47 ∷ 42 ∷ (text ++ (bs ++ after))) ≡ suc (suc (length text)) + gap (bs ++ after) =
    piece_adds 47 (suc (length text)) (42 ∷ (text ++ (bs ++ after))) piece
    ∙ ap (λ x. suc (suc (length text)) + gap x) (drop_at text (bs ++ after) (length text) refl) in
    let goes : gap (w ++ after) ≡ gap (47 ∷ 42 ∷ (text ++ (bs ++ after))) = ap gap same in
    let wide : length w ≡ suc (suc (length (text ++ bs))) = ap length is in
    let len : length (text ++ bs) ≡ length text + length bs = length-append text bs in
    omega arith

or_false : (x y : Bool) → (x || y) ≡ false → (x ≡ false) × (y ≡ false)
or_false true y h = absurd (true≢false h)
or_false false y h = (refl, h)

no_gap : (after : List ℕ) → first_passes may_begin_gap after ≡ false → gap after ≡ 0
no_gap [] h = ap (λ r. r.bytes) (run-none gap_piece [] refl)
no_gap (b ∷ bs) h =
    let o = or_false (is_blank b) (nat_eq b 47) h in
    ap (λ r. r.bytes) (run-none gap_piece (b ∷ bs) (cond-false (is_blank b) _ _ o.0 ∙ cond-false (nat_eq b 47) _ _ o.1))

-- a gap before what begins none
pub gap_exact : {g : List ℕ} → IsGap g → (after : List ℕ) → first_passes may_begin_gap after ≡ false → gap (g ++ after) ≡ length g
gap_exact {g} h after e =
    let none : gap after ≡ 0 = no_gap after e in
    let all : gap (g ++ after) ≡ length g + gap after = gap_adds h after in
    omega arith

pub gap_dropped : {g : List ℕ} → IsGap g → (after : List ℕ) → first_passes may_begin_gap after ≡ false → drop (gap (g ++ after)) (g ++ after) ≡ after
gap_dropped {g} h after e = drop_at g after (gap (g ++ after)) (sym (gap_exact h after e))

-- ---- pairs of digits up to the parenthesis

abbrev pub pair_value : ℕ → ℕ → ℕ
pair_value a b = 16 * digit_value a + digit_value b

-- pairs with a gap behind each, and `)`; and the bytes that they spell
pub data HasPairs : List ℕ → List ℕ → Type 0 where
  close : {w out : List ℕ} → w ≡ 41 ∷ [] → out ≡ [] → HasPairs w out
  pair : {a b : ℕ} {g rest w out more : List ℕ} → is_hex a ≡ true → is_hex b ≡ true → IsGap g → HasPairs rest more →
      w ≡ a ∷ b ∷ (g ++ rest) → out ≡ pair_value a b ∷ more → HasPairs w out

hex_begins_none : (a : ℕ) → is_hex a ≡ true → may_begin_gap a ≡ false
hex_begins_none a h =
    or_is_false (is_blank a) (nat_eq a 47) (blank_no a h) (differ is_hex a 47 h refl)
  where
    or_is_false : (x y : Bool) → x ≡ false → y ≡ false → (x || y) ≡ false
    or_is_false true y p q = absurd (true≢false p)
    or_is_false false y p q = q

    or4 : (x y z u : Bool) → x ≡ false → y ≡ false → z ≡ false → u ≡ false → (x || y || z || u) ≡ false
    or4 true y z u p q r t = absurd (true≢false p)
    or4 false true z u p q r t = absurd (true≢false q)
    or4 false false true u p q r t = absurd (true≢false r)
    or4 false false false u p q r t = t

    blank_no : (b : ℕ) → is_hex b ≡ true → is_blank b ≡ false
    blank_no b k =
        or4 (nat_eq b 9) (nat_eq b 10) (nat_eq b 13) (nat_eq b 32) (differ is_hex b 9 k refl) (differ is_hex b 10 k refl)
        (differ is_hex b 13 k refl) (differ is_hex b 32 k refl)

-- they begin no gap
pub pairs_begin_none : {w out : List ℕ} → HasPairs w out → first_passes may_begin_gap w ≡ false
pairs_begin_none (HasPairs.close e o) = ap (first_passes may_begin_gap) e
pairs_begin_none (HasPairs.pair {a = a} ha hb g more e o) = ap (first_passes may_begin_gap) e ∙ hex_begins_none a ha

pub spelled_pairs : {n : ℕ} {w : List ℕ} → IsPairs n w → (out : List ℕ) × HasPairs (w ++ 41 ∷ []) out
spelled_pairs (IsPairs.none n is) = ([], HasPairs.close (ap (λ x. x ++ 41 ∷ []) is) refl)
spelled_pairs (IsPairs.last {a = a} {b = b} {g = g} n ha hb h is) =
    (pair_value a b ∷ [], HasPairs.pair ha hb h (HasPairs.close refl refl) (ap (λ x. x ++ 41 ∷ []) is) refl)
spelled_pairs (IsPairs.more {a = a} {b = b} {g = g} {rest = rest} n ha hb h some behind is) =
    let m = spelled_pairs behind in (
      pair_value a b ∷ m.0,
      HasPairs.pair ha hb h m.1 (ap (λ x. x ++ 41 ∷ []) is ∙ ap (λ x. a ∷ b ∷ x) (append_assoc g rest (41 ∷ []))) refl,
    )

-- the definition finds these bytes, in any number of steps that is enough
pub pairs_found : {w out : List ℕ} → HasPairs w out → {g : List ℕ} → IsGap g → (steps : ℕ) → length (g ++ w) ≤ steps →
    pairs_within steps (g ++ w) ≡ out
pairs_found {w} (HasPairs.close e o) {g} h zero less =
    let l : length (g ++ w) ≡ length g + length w = length-append g w in
    let k : length w ≡ 1 = ap length e in
    absurd (omega arith)
pairs_found {w} (HasPairs.close e o) {g} h (suc steps) less =
    ap (pair_then (pairs_within steps)) (gap_dropped h w (ap (first_passes may_begin_gap) e) ∙ e) ∙ sym o
pairs_found {w} (HasPairs.pair {a = a} {b = b} {g = gap_behind} {rest = rest} ha hb behind more e o) {g} h zero less =
    let l : length (g ++ w) ≡ length g + length w = length-append g w in
    let k : length w ≡ suc (suc (length (gap_behind ++ rest))) = ap length e in
    absurd (omega arith)
pairs_found {w} (HasPairs.pair {a = a} {b = b} {g = gap_behind} {rest = rest} {more = out} ha hb behind more e o) {g} h (suc steps) less =
    let l : length (g ++ w) ≡ length g + length w = length-append g w in
    let k : length w ≡ suc (suc (length (gap_behind ++ rest))) = ap length e in
    let enough : length (gap_behind ++ rest) ≤ steps = omega arith in
    ap (pair_then (pairs_within steps)) (gap_dropped h w (pairs_begin_none (HasPairs.pair ha hb behind more e o)) ∙ e)
    ∙ cond-true (is_hex a) _ _ ha
    ∙ ap (λ x. pair_value a b ∷ x) (pairs_found more behind steps enough)
    ∙ sym o

-- ---- the whole

-- behind the parenthesis and the gaps stand pairs, and what they spell is what the definition says
pub record Parenthesized (text : List ℕ) : Type 0 where
  pub lead : List ℕ
  pub inner : List ℕ
  pub begins : IsGap lead
  pub within : IsGap inner
  pub rest : List ℕ
  pub out : List ℕ
  pub pairs : HasPairs rest out
  pub is : text ≡ lead ++ 40 ∷ (inner ++ rest)
  pub value : out ≡ bytes_in_parentheses text

pub parenthesized : (text : List ℕ) → HasBytes text → Parenthesized text
unfolding bytes_in_parentheses
parenthesized text h =
    let p = spelled_pairs h.bytes.spelled in
    let whole : text ≡ h.lead ++ 40 ∷ (h.bytes.lead ++ (h.bytes.pairs ++ 41 ∷ [])) = h.is ∙ ap (λ x. h.lead ++ x) h.bytes.is in
    let after = 40 ∷ (h.bytes.lead ++ (h.bytes.pairs ++ 41 ∷ [])) in
    let n : gap text ≡ length h.lead = ap gap whole ∙ gap_exact h.gap after refl in
    let tail : drop (gap text + 1) text ≡ h.bytes.lead ++ (h.bytes.pairs ++ 41 ∷ []) =
    ap (λ k. drop (k + 1) text) n ∙ ap (drop (length h.lead + 1)) whole ∙ past h.lead (h.bytes.lead ++ (h.bytes.pairs ++ 41 ∷ [])) in
    let shorter : length (h.bytes.lead ++ (h.bytes.pairs ++ 41 ∷ [])) ≤ length text = long in
    record {
      lead = h.lead;
      inner = h.bytes.lead;
      begins = h.gap;
      within = h.bytes.gap;
      rest = h.bytes.pairs ++ 41 ∷ [];
      out = p.0;
      pairs = p.1;
      is = whole;
      value = sym (ap (pairs_within (length text)) tail ∙ pairs_found p.1 h.bytes.gap (length text) shorter);
    }
  where
    past : (g rest : List ℕ) → drop (length g + 1) (g ++ 40 ∷ rest) ≡ rest
    past g rest =
        sym (drop-drop 1 (length g) (g ++ 40 ∷ rest)) ∙ ap (drop 1) (drop_at g (40 ∷ rest) (length g) refl)

    long : length (h.bytes.lead ++ (h.bytes.pairs ++ 41 ∷ [])) ≤ length text
    long =
        let a : length text ≡ length (h.lead ++ 40 ∷ (h.bytes.lead ++ (h.bytes.pairs ++ 41 ∷ []))) =
        ap length (h.is ∙ ap (λ x. h.lead ++ x) h.bytes.is) in
        let b : length (h.lead ++ 40 ∷ (h.bytes.lead ++ (h.bytes.pairs ++ 41 ∷ []))) ≡ length h.lead + suc (length (h.bytes.lead ++ (h.bytes.pairs ++ 41 ∷ []))) =
        length-append h.lead (40 ∷ (h.bytes.lead ++ (h.bytes.pairs ++ 41 ∷ []))) in
        omega arith

-- ---- the loop

-- what is left spells the bytes that are still to come
pub record Coming (text bytes rest : List ℕ) : Type 0 where
  pub out : List ℕ
  pub pairs : HasPairs rest out
  pub whole : bytes ++ out ≡ bytes_in_parentheses text

pub next_byte : (text bytes rest : List ℕ) (a b value : ℕ) (more next : List ℕ) → rest ≡ a ∷ b ∷ more →
    (is_hex a ≡ true → is_hex b ≡ true → value ≡ pair_value a b) →
    ((g after : List ℕ) → IsGap g → first_passes may_begin_gap after ≡ false → more ≡ g ++ after → next ≡ after) →
    Coming text bytes rest → Coming text (bytes ++ value ∷ []) next
next_byte text bytes rest a b value more next is byte passed c = go c.pairs c.whole
  where
    go : {out : List ℕ} → HasPairs rest out → bytes ++ out ≡ bytes_in_parentheses text → Coming text (bytes ++ value ∷ []) next
    go (HasPairs.close e o) whole = (let bad : 41 ∷ [] ≡ a ∷ b ∷ more = sym e ∙ is in absurd (short (ap length bad)))
      where
        short : 1 ≡ suc (suc (length more)) → ⊥
        short h = omega arith
    go (HasPairs.pair {a = x} {b = y} {g = g} {rest = left} {more = out} hx hy h pairs e o) whole =
        let eq : x ∷ y ∷ (g ++ left) ≡ a ∷ b ∷ more = sym e ∙ is in
        let ea : x ≡ a = heads-same x a (y ∷ (g ++ left)) (b ∷ more) eq in
        let tail : y ∷ (g ++ left) ≡ b ∷ more = tails-same x a (y ∷ (g ++ left)) (b ∷ more) eq in
        let eb : y ≡ b = heads-same y b (g ++ left) more tail in
        let em : g ++ left ≡ more = tails-same y b (g ++ left) more tail in
        let v : value ≡ pair_value a b = byte (subst (λ z. is_hex z ≡ true) ea hx) (subst (λ z. is_hex z ≡ true) eb hy) in
        let en : next ≡ left = passed g left h (pairs_begin_none pairs) (sym em) in
        record {
          out = out;
          pairs = subst (λ z. HasPairs z out) (sym en) pairs;
          whole =
              append_assoc bytes (value ∷ []) out
              ∙ ap (λ z. bytes ++ z ∷ out) (v ∙ ap (λ z. pair_value z b) (sym ea) ∙ ap (pair_value x) (sym eb))
              ∙ ap (λ z. bytes ++ z) (sym o) ∙ whole;
        }

pub all_bytes : (text bytes rest : List ℕ) → length rest < 2 → Coming text bytes rest → bytes ≡ bytes_in_parentheses text
all_bytes text bytes rest short c = go c.pairs c.whole
  where
    nothing_more : (bs : List ℕ) → bs ++ [] ≡ bs
    nothing_more [] = refl
    nothing_more (b ∷ bs) = ap (λ x. b ∷ x) (nothing_more bs)

    go : {out : List ℕ} → HasPairs rest out → bytes ++ out ≡ bytes_in_parentheses text → bytes ≡ bytes_in_parentheses text
    go (HasPairs.close e o) whole = sym (nothing_more bytes) ∙ ap (λ x. bytes ++ x) (sym o) ∙ whole
    go (HasPairs.pair {g = g} {rest = left} hx hy h pairs e o) whole =
        let l : length rest ≡ suc (suc (length (g ++ left))) = ap length e in absurd (omega arith)

-- the pairs that begin behind the parenthesis
pub first_pairs : (text middle behind rest : List ℕ) → HasBytes text →
    ((g after : List ℕ) → IsGap g → first_passes may_begin_gap after ≡ false → text ≡ g ++ after → middle ≡ after) →
    behind ≡ drop 1 middle →
    ((g after : List ℕ) → IsGap g → first_passes may_begin_gap after ≡ false → behind ≡ g ++ after → rest ≡ after) →
    Coming text [] rest
first_pairs text middle behind rest h first past second =
    let p = parenthesized text h in
    let m : middle ≡ 40 ∷ (p.inner ++ p.rest) = first p.lead (40 ∷ (p.inner ++ p.rest)) p.begins refl p.is in
    let b : behind ≡ p.inner ++ p.rest = past ∙ ap (drop 1) m in
    let r : rest ≡ p.rest = second p.inner p.rest p.within (pairs_begin_none p.pairs) b in
    record { out = p.out; pairs = subst (λ z. HasPairs z p.out) (sym r) p.pairs; whole = p.value }

-- ---- tokens of bytes

pub bytes_behind_equals : (w : List ℕ) → IsSpelling EqBytes w → HasBytes (drop 1 w)
bytes_behind_equals w (bytes, h, is) = subst HasBytes (sym (ap (drop 1) is)) h

pub bytes_behind_word : (w : List ℕ) → IsSpelling ByteArray w → HasBytes (drop 9 w)
bytes_behind_word w (bytes, h, is) = subst HasBytes (sym (ap (drop 9) is)) h

pub real_has_bytes : (w : List ℕ) → IsSpelling RealBytes w → HasBytes w
real_has_bytes w (inl h) = record { lead = []; inner = w; count = 4; gap = IsGap.none; bytes = h; is = refl }
real_has_bytes w (inr h) = record { lead = []; inner = w; count = 8; gap = IsGap.none; bytes = h; is = refl }
