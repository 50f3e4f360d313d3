-- Bytes in parentheses: what the runs over them find.
use Rattle.std.proofs.Common.{◌≡◌, ℕ, zero, suc, ◌+◌, ◌<◌, true, cond, ◌&&◌, ◌||◌, nat_eq, nat_lt, inl, inr, List, [], ◌∷◌, ◌++◌, length, drop, Option, None, Some, refl, ap, sym, subst, ◌∙◌, arith, length-append, append_assoc, append-nil, drop_at, drop-drop}
use Rattle.std.proofs.lemmas.Bool.{cases_Bool, cond-true, cond-false, eqb-true, false≢true, or_right, or_left, or_cases, lt-ltb, ltb-true}
use Rattle.std.specs.Option.{option_map}
use Rattle.il_lexer.specs.declared.pairs.Pairs.{Pairs}
use Rattle.il_lexer.specs.Classes.{is_hex, first_is}
use Rattle.il_lexer.specs.Runs.{joined, run_of}
use Rattle.il_lexer.specs.Gaps.{gap_piece, gap}
use Rattle.il_lexer.specs.Spellings.{pair_piece, pairs_in, bytes_length}
use Rattle.il_lexer.specs.Spelled.{IsGap, IsPairs, IsBytes, HasBytes}
use Rattle.il_lexer.proofs.RunLemmas.{run-none}
use Rattle.il_lexer.proofs.Fronts.{Front, front-rest, Steps, stop, step, steps, run-append, first-is-cons, and3, and3-parts, cond-some}
use Rattle.il_lexer.proofs.SpelledGaps.{no-gap, gap-exact, gap-front}

some_same : (a n : ℕ) → Some a ≡ Some n → a ≡ n
some_same a n h = cc

nonempty : (w after : List ℕ) (x : ℕ) → (y : ℕ) × (ys : List ℕ) × (w ++ x ∷ after ≡ y ∷ ys)
nonempty [] after x = (x, after, refl)
nonempty (y ∷ w) after x = (y, w ++ x ∷ after, refl)

shorter : (n r rs b : ℕ) (bs ys : List ℕ) → rs ≡ suc (n + r) → drop rs (b ∷ bs) ≡ ys → drop r (drop n bs) ≡ ys
shorter n r rs b bs ys er e = drop-drop r n bs ∙ sym (ap (λ m. drop m (b ∷ bs)) er) ∙ e

-- pairs of digits
pub hex-no-gap : (b : ℕ) (rest : List ℕ) → is_hex b ≡ true → gap_piece (b ∷ rest) ≡ None
hex-no-gap b rest h = no-gap is_hex b rest h refl refl refl refl refl

pairs_no_gap : {n : ℕ} {w : List ℕ} → IsPairs n w → (after : List ℕ) → gap_piece (w ++ 41 ∷ after) ≡ None
pairs_no_gap (IsPairs.none en is) after = ap (λ x. gap_piece (x ++ 41 ∷ after)) is
pairs_no_gap (IsPairs.last {a = a} {b = b} {g = g} en ha hb hg is) after =
    ap (λ x. gap_piece (x ++ 41 ∷ after)) is ∙ hex-no-gap a (b ∷ (g ++ 41 ∷ after)) ha
pairs_no_gap (IsPairs.more {a = a} {b = b} {g = g} {rest = rest} en ha hb hg some tail is) after =
    ap (λ x. gap_piece (x ++ 41 ∷ after)) is ∙ hex-no-gap a (b ∷ ((g ++ rest) ++ 41 ∷ after)) ha

close_ends : (after : List ℕ) → pair_piece (41 ∷ after) ≡ None
close_ends [] = refl
close_ends (c ∷ after) = refl

a_pair : (a b g : ℕ) (rest : List ℕ) → is_hex a ≡ true → is_hex b ≡ true → gap rest ≡ g →
    (nat_lt 0 (gap rest) || first_is 41 (drop (gap rest) rest)) ≡ true → pair_piece (a ∷ b ∷ rest) ≡ Some (2 + g)
a_pair a b g rest ha hb eg h =
    cond-true (is_hex a && is_hex b && (nat_lt 0 (gap rest) || first_is 41 (drop (gap rest) rest))) _ _
    (and3 (is_hex a) (is_hex b) (nat_lt 0 (gap rest) || first_is 41 (drop (gap rest) rest)) ha hb h)
    ∙ ap (λ n. Some (2 + n)) eg

pairs_run : {n : ℕ} {w : List ℕ} → IsPairs n w → (after : List ℕ) →
    ((run_of pair_piece (w ++ 41 ∷ after)).bytes ≡ length w) × ((run_of pair_piece (w ++ 41 ∷ after)).pieces ≡ n)
pairs_run (IsPairs.none {n = n} {w = w} en is) after =
    let nothing = ap (λ x. run_of pair_piece (x ++ 41 ∷ after)) is ∙ run-none pair_piece (41 ∷ after) (close_ends after) in
    (ap (λ r. r.bytes) nothing ∙ sym (ap length is), ap (λ r. r.pieces) nothing ∙ sym en)
pairs_run (IsPairs.last {n = n} {a = a} {b = b} {g = g} {w = w} en ha hb hg is) after =
    let eg : gap (g ++ 41 ∷ after) ≡ length g = gap-exact hg (41 ∷ after) refl in
    let closes : first_is 41 (drop (gap (g ++ 41 ∷ after)) (g ++ 41 ∷ after)) ≡ true =
    ap (λ m. first_is 41 (drop m (g ++ 41 ∷ after))) eg ∙ ap (first_is 41) (drop_at g (41 ∷ after) (length g) refl) in
    let piece : pair_piece (a ∷ b ∷ (g ++ 41 ∷ after)) ≡ Some (2 + length g) =
    a_pair a b (length g) (g ++ 41 ∷ after) ha hb eg (or_right (nat_lt 0 (gap (g ++ 41 ∷ after))) _ closes) in
    let two : 2 + length g ≡ suc (suc (length g)) = omega arith in
    let run = ap (λ x. run_of pair_piece (x ++ 41 ∷ after)) is
    ∙ run-append pair_piece (a ∷ b ∷ g) (41 ∷ after) (omega arith) (piece ∙ ap Some two)
    ∙ ap (joined (suc (suc (length g)))) (run-none pair_piece (41 ∷ after) (close_ends after)) in
    let bytes : (run_of pair_piece (w ++ 41 ∷ after)).bytes ≡ suc (suc (length g)) + 0 = ap (λ r. r.bytes) run in
    let pieces : (run_of pair_piece (w ++ 41 ∷ after)).pieces ≡ 1 + 0 = ap (λ r. r.pieces) run in
    let wide : length w ≡ suc (suc (length g)) = ap length is in
    (omega arith, omega arith)
pairs_run (IsPairs.more {m = m} {n = n} {a = a} {b = b} {g = g} {rest = rest} {w = w} en ha hb hg some tail is) after =
    let on = pairs_run tail after in
    let on_bytes : (run_of pair_piece (rest ++ 41 ∷ after)).bytes ≡ length rest = on.0 in
    let on_pieces : (run_of pair_piece (rest ++ 41 ∷ after)).pieces ≡ suc m = on.1 in
    let eg : gap (g ++ (rest ++ 41 ∷ after)) ≡ length g = gap-exact hg (rest ++ 41 ∷ after) (pairs_no_gap tail after) in
    let low : 0 < gap (g ++ (rest ++ 41 ∷ after)) = omega arith in
    let piece : pair_piece (a ∷ b ∷ (g ++ (rest ++ 41 ∷ after))) ≡ Some (2 + length g) =
    a_pair a b (length g) (g ++ (rest ++ 41 ∷ after)) ha hb eg (or_left _ _ (lt-ltb 0 (gap (g ++ (rest ++ 41 ∷ after))) low)) in
    let two : 2 + length g ≡ suc (suc (length g)) = omega arith in
    let same : w ++ 41 ∷ after ≡ a ∷ b ∷ (g ++ (rest ++ 41 ∷ after)) =
    ap (λ x. x ++ 41 ∷ after) is ∙ ap (λ x. a ∷ b ∷ x) (append_assoc g rest (41 ∷ after)) in
    let run = ap (run_of pair_piece) same
    ∙ run-append pair_piece (a ∷ b ∷ g) (rest ++ 41 ∷ after) (omega arith) (piece ∙ ap Some two) in
    let bytes : (run_of pair_piece (w ++ 41 ∷ after)).bytes ≡ suc (suc (length g)) + (run_of pair_piece (rest ++ 41 ∷ after)).bytes =
    ap (λ r. r.bytes) run in
    let pieces : (run_of pair_piece (w ++ 41 ∷ after)).pieces ≡ 1 + (run_of pair_piece (rest ++ 41 ∷ after)).pieces =
    ap (λ r. r.pieces) run in
    let wide : length w ≡ suc (suc (length (g ++ rest))) = ap length is in
    let len : length (g ++ rest) ≡ length g + length rest = length-append g rest in
    (omega arith, omega arith)

-- bytes in parentheses, behind the `(`
abbrev pub pairs : ℕ → ℕ → Pairs
pairs bytes count = record { bytes = bytes; count = count }

pub pairs-exact : {n : ℕ} {lead ps : List ℕ} → IsGap lead → IsPairs n ps → (after : List ℕ) →
    pairs_in (lead ++ (ps ++ 41 ∷ after)) ≡ Some (pairs (length lead + length ps + 1) n)
pairs-exact {n} {lead} {ps} hl hp after =
    let bs = lead ++ (ps ++ 41 ∷ after) in
    let eg : gap (lead ++ (ps ++ 41 ∷ after)) ≡ length lead = gap-exact hl (ps ++ 41 ∷ after) (pairs_no_gap hp after) in
    let behind : drop (gap (lead ++ (ps ++ 41 ∷ after))) (lead ++ (ps ++ 41 ∷ after)) ≡ ps ++ 41 ∷ after =
    ap (λ m. drop m (lead ++ (ps ++ 41 ∷ after))) eg ∙ drop_at lead (ps ++ 41 ∷ after) (length lead) refl in
    let run = pairs_run hp after in
    let bytes : (run_of pair_piece (drop (gap (lead ++ (ps ++ 41 ∷ after))) (lead ++ (ps ++ 41 ∷ after)))).bytes ≡ length ps =
    ap (λ x. (run_of pair_piece x).bytes) behind ∙ run.0 in
    let pieces : (run_of pair_piece (drop (gap (lead ++ (ps ++ 41 ∷ after))) (lead ++ (ps ++ 41 ∷ after)))).pieces ≡ n =
    ap (λ x. (run_of pair_piece x).pieces) behind ∙ run.1 in
    closing (lead ++ (ps ++ 41 ∷ after)) (gap (lead ++ (ps ++ 41 ∷ after)))
    (run_of pair_piece (drop (gap (lead ++ (ps ++ 41 ∷ after))) (lead ++ (ps ++ 41 ∷ after)))).bytes
    (run_of pair_piece (drop (gap (lead ++ (ps ++ 41 ∷ after))) (lead ++ (ps ++ 41 ∷ after)))).pieces eg bytes pieces
  where
    closing : (bs : List ℕ) (g r k : ℕ) → g ≡ length lead → r ≡ length ps → k ≡ n →
        cond (first_is 41 (drop (g + r) (lead ++ (ps ++ 41 ∷ after)))) (Some (pairs (g + r + 1) k)) None
        ≡ Some (pairs (length lead + length ps + 1) n)
    closing bs g r k eg er ek =
        let sum : g + r ≡ length lead + length ps = omega arith in
        let len : length (lead ++ ps) ≡ length lead + length ps = length-append lead ps in
        cond-true (first_is 41 (drop (g + r) (lead ++ (ps ++ 41 ∷ after)))) _ _
        (ap (λ m. first_is 41 (drop m (lead ++ (ps ++ 41 ∷ after)))) sum
        ∙ ap (λ x. first_is 41 (drop (length lead + length ps) x)) (sym (append_assoc lead ps (41 ∷ after)))
        ∙ ap (first_is 41) (drop_at (lead ++ ps) (41 ∷ after) (length lead + length ps) len))
        ∙ ap (λ m. Some (pairs (m + 1) k)) sum ∙ ap (λ c. Some (pairs (length lead + length ps + 1) c)) ek

no_pairs : {k : ℕ} {w : List ℕ} → IsPairs k w → k ≡ 0 → w ≡ []
no_pairs (IsPairs.none en is) z = is
no_pairs (IsPairs.last en ha hb hg is) z = absurd (omega arith)
no_pairs (IsPairs.more en ha hb hg some tail is) z = absurd (omega arith)

some_pairs : {k : ℕ} {w : List ℕ} → IsPairs k w → 0 < k → (a : ℕ) × (rest : List ℕ) × (is_hex a ≡ true) × (w ≡ a ∷ rest)
some_pairs (IsPairs.none en is) lt = absurd (omega arith)
some_pairs (IsPairs.last {a = a} {b = b} {g = g} en ha hb hg is) lt = (a, b ∷ g, ha, is)
some_pairs (IsPairs.more {a = a} {b = b} {g = g} {rest = rest} en ha hb hg some tail is) lt = (a, b ∷ (g ++ rest), ha, is)

-- one pair more
pair_more : (a b k g : ℕ) (gs ps after : List ℕ) → is_hex a ≡ true → is_hex b ≡ true → IsGap gs → length gs ≡ g → IsPairs k ps →
    (nat_lt 0 g || first_is 41 (ps ++ 41 ∷ after)) ≡ true → IsPairs (suc k) (a ∷ b ∷ (gs ++ ps))
pair_more a b zero g gs ps after ha hb hg lg hp h =
    let none : gs ++ ps ≡ gs = ap (λ x. gs ++ x) (no_pairs hp refl) ∙ append-nil gs in
    IsPairs.last refl ha hb hg (ap (λ x. a ∷ b ∷ x) none)
pair_more a b (suc k) g gs ps after ha hb hg lg hp h =
    let low : 0 < length gs = elim (or_cases (nat_lt 0 g) (first_is 41 (ps ++ 41 ∷ after)) h) [
      | inl e ↦ (let lt : 0 < g = ltb-true 0 g e in omega arith)
      | inr e ↦
          let first = some_pairs hp (omega arith) in
          let bad : nat_eq first.0 41 ≡ true = sym (ap (λ x. first_is 41 (x ++ 41 ∷ after)) first.3) ∙ e in
          absurd (false≢true (ap is_hex (sym (eqb-true first.0 41 bad)) ∙ first.2))
    ] in
    IsPairs.more refl ha hb hg low hp refl

pub pair-front : {bs : List ℕ} {r k : ℕ} → Steps pair_piece bs r k → (after : List ℕ) → drop r bs ≡ 41 ∷ after → Front (IsPairs k) bs r
pair-front {bs} (stop stuck er ek) after e =
    record { word = []; after = bs; holds = IsPairs.none ek refl; whole = refl; long = sym er }
pair-front {r = rs} {k = ks} (step {b = b} {n = n} {r = r} {k = k} {bs = bs} h more er ek) after e =
    let on : drop r (drop n bs) ≡ 41 ∷ after = shorter n r rs b bs (41 ∷ after) er e in
    subst (λ m. Front (IsPairs m) (b ∷ bs) rs) (sym ek) (first_pair b n r rs bs k h er (pair-front more after on) on)
  where
    first_pair : (a n r rs : ℕ) (bs : List ℕ) (k : ℕ) → pair_piece (a ∷ bs) ≡ Some (suc n) → rs ≡ suc (n + r) →
        Front (IsPairs k) (drop n bs) r → drop r (drop n bs) ≡ 41 ∷ after → Front (IsPairs (suc k)) (a ∷ bs) rs
    first_pair a n r rs [] k h er rest on = cc
    first_pair a n r rs (b ∷ cs) k h er rest on =
        let found = cond-some (is_hex a && is_hex b && (nat_lt 0 (gap cs) || first_is 41 (drop (gap cs) cs))) (2 + gap cs) (suc n) h in
        let parts = and3-parts (is_hex a) (is_hex b) (nat_lt 0 (gap cs) || first_is 41 (drop (gap cs) cs)) found.0 in
        let sum : 2 + gap cs ≡ suc n = found.1 in
        let n_suc : n ≡ suc (gap cs) = omega arith in
        let behind : drop n (b ∷ cs) ≡ drop (gap cs) cs = ap (λ m. drop m (b ∷ cs)) n_suc in
        let tail : rest.after ≡ 41 ∷ after = sym (front-rest rest) ∙ on in
        let there : drop (gap cs) cs ≡ rest.word ++ 41 ∷ after = sym behind ∙ rest.whole ∙ ap (λ x. rest.word ++ x) tail in
        let first = nonempty rest.word after 41 in
        let g : Front IsGap cs (gap cs) = gap-front (steps gap_piece refl cs) first.0 first.1 (there ∙ first.2) in
        let l1 : length g.word ≡ gap cs = g.long in
        let l2 : length rest.word ≡ r = rest.long in
        let len : length (g.word ++ rest.word) ≡ length g.word + length rest.word = length-append g.word rest.word in
        record {
          word = a ∷ b ∷ (g.word ++ rest.word);
          after = 41 ∷ after;
          holds = pair_more a b k (gap cs) g.word rest.word after parts.0 parts.1 g.holds g.long rest.holds
              (ap (λ x. nat_lt 0 (gap cs) || first_is 41 x) (sym there) ∙ parts.2);
          whole = ap (λ x. a ∷ b ∷ x) (g.whole ∙ ap (λ x. g.word ++ x) (sym (front-rest g) ∙ there)
              ∙ sym (append_assoc g.word rest.word (41 ∷ after)));
          long = omega arith;
        }

pub record PairsAt (bs : List ℕ) (bytes count : ℕ) : Type 0 where
  pub lead : List ℕ
  pub inner : List ℕ
  pub after : List ℕ
  pub gap_is : IsGap lead
  pub spelled : IsPairs count inner
  pub whole : bs ≡ lead ++ (inner ++ 41 ∷ after)
  pub long : bytes ≡ length lead + length inner + 1

pub pairs-front : (bs : List ℕ) (bytes count : ℕ) → pairs_in bs ≡ Some (pairs bytes count) → PairsAt bs bytes count
pairs-front bs bytes count h =
    go (gap bs) (run_of pair_piece (drop (gap bs) bs)).bytes (run_of pair_piece (drop (gap bs) bs)).pieces
    refl (steps pair_piece refl (drop (gap bs) bs)) h
  where
    go : (g r k : ℕ) → gap bs ≡ g → Steps pair_piece (drop g bs) r k →
        cond (first_is 41 (drop (g + r) bs)) (Some (pairs (g + r + 1) k)) None ≡ Some (pairs bytes count) → PairsAt bs bytes count
    go g r k eg run h =
        elim (cases_Bool (first_is 41 (drop (g + r) bs))) [
          | inl e ↦
              let next = first-is-cons 41 (drop (g + r) bs) e in
              let at : drop r (drop g bs) ≡ 41 ∷ next.0 = drop-drop r g bs ∙ next.1 in
              let f : Front (IsPairs k) (drop g bs) r = pair-front run next.0 at in
              let there : drop g bs ≡ f.word ++ 41 ∷ next.0 = f.whole ∙ ap (λ x. f.word ++ x) (sym (front-rest f) ∙ at) in
              let first = nonempty f.word next.0 41 in
              let lead : Front IsGap bs (gap bs) =
              gap-front (steps gap_piece refl bs) first.0 first.1 (ap (λ m. drop m bs) eg ∙ there ∙ first.2) in
              let l1 : length lead.word ≡ gap bs = lead.long in
              let l2 : length f.word ≡ r = f.long in
              let same : Some (pairs (g + r + 1) k) ≡ Some (pairs bytes count) = sym (cond-true (first_is 41 (drop (g + r) bs)) _ _ e) ∙ h in
              let b : g + r + 1 ≡ bytes = (let s : pairs (g + r + 1) k ≡ pairs bytes count = cc in ap (λ p. p.bytes) s) in
              let c : k ≡ count = (let s : pairs (g + r + 1) k ≡ pairs bytes count = cc in ap (λ p. p.count) s) in
              record {
                lead = lead.word;
                inner = f.word;
                after = next.0;
                gap_is = lead.holds;
                spelled = subst (λ m. IsPairs m f.word) c f.holds;
                whole = lead.whole ∙ ap (λ x. lead.word ++ x) (sym (front-rest lead) ∙ ap (λ m. drop m bs) eg ∙ there);
                long = omega arith;
              }
          | inr e ↦ (let bad : None ≡ Some (pairs bytes count) = sym (cond-false (first_is 41 (drop (g + r) bs)) _ _ e) ∙ h in cc)
        ]

-- bytes in parentheses with the gap before them
no_gap_paren : (rest : List ℕ) → gap_piece (40 ∷ rest) ≡ None
no_gap_paren rest = refl

inner_is : (lead inner ps after : List ℕ) → inner ≡ 40 ∷ (lead ++ (ps ++ 41 ∷ [])) →
    inner ++ after ≡ 40 ∷ (lead ++ (ps ++ 41 ∷ after))
inner_is lead inner ps after is =
    ap (λ x. x ++ after) is
    ∙ ap (λ x. 40 ∷ x) (append_assoc lead (ps ++ 41 ∷ []) after ∙ ap (λ x. lead ++ x) (append_assoc ps (41 ∷ []) after))

pub bytes-in-exact : {n : ℕ} {w : List ℕ} → IsBytes n w → (after : List ℕ) →
    (rest : List ℕ) × (w ++ after ≡ 40 ∷ rest) × (bytes : ℕ) × (pairs_in rest ≡ Some (pairs bytes n)) × (length w ≡ bytes + 1)
bytes-in-exact {n} {w} b after =
    let l1 : length (b.lead ++ (b.pairs ++ 41 ∷ [])) ≡ length b.lead + length (b.pairs ++ 41 ∷ []) =
    length-append b.lead (b.pairs ++ 41 ∷ []) in
    let l2 : length (b.pairs ++ 41 ∷ []) ≡ length b.pairs + 1 = length-append b.pairs (41 ∷ []) in
    let l3 : length w ≡ suc (length (b.lead ++ (b.pairs ++ 41 ∷ []))) = ap length b.is in (
      b.lead ++ (b.pairs ++ 41 ∷ after),
      inner_is b.lead w b.pairs after b.is,
      length b.lead + length b.pairs + 1,
      pairs-exact b.gap b.spelled after,
      omega arith,
    )

pub bytes-exact : {w : List ℕ} → HasBytes w → (after : List ℕ) → bytes_length (w ++ after) ≡ Some (length w)
bytes-exact {w} h after =
    let inner = bytes-in-exact h.bytes after in
    let whole : w ++ after ≡ h.lead ++ 40 ∷ inner.0 =
    ap (λ x. x ++ after) h.is ∙ append_assoc h.lead h.inner after ∙ ap (λ x. h.lead ++ x) inner.1 in
    let eg : gap (h.lead ++ 40 ∷ inner.0) ≡ length h.lead = gap-exact h.gap (40 ∷ inner.0) (no_gap_paren inner.0) in
    let l1 : length w ≡ length (h.lead ++ h.inner) = ap length h.is in
    let l2 : length (h.lead ++ h.inner) ≡ length h.lead + length h.inner = length-append h.lead h.inner in
    let l3 : length h.inner ≡ inner.2 + 1 = inner.4 in
    let sum : length h.lead + 1 + inner.2 ≡ length w = omega arith in
    ap bytes_length whole ∙ go h.lead inner.0 inner.2 h.count inner.3 (gap (h.lead ++ 40 ∷ inner.0)) eg ∙ ap Some sum
  where
    go : (lead rest : List ℕ) (bytes count : ℕ) → pairs_in rest ≡ Some (pairs bytes count) → (g : ℕ) → g ≡ length lead →
        cond (first_is 40 (drop g (lead ++ 40 ∷ rest)))
        (option_map (λ p. g + 1 + p.bytes) (pairs_in (drop (g + 1) (lead ++ 40 ∷ rest)))) None
        ≡ Some (length lead + 1 + bytes)
    go lead rest bytes count e g eg =
        let one : g + 1 ≡ length lead + 1 = omega arith in
        let len : length (lead ++ 40 ∷ []) ≡ length lead + 1 = length-append lead (40 ∷ []) in
        let behind : drop (g + 1) (lead ++ 40 ∷ rest) ≡ rest =
        ap (λ m. drop m (lead ++ 40 ∷ rest)) one ∙ ap (drop (length lead + 1)) (sym (append_assoc lead (40 ∷ []) rest))
        ∙ drop_at (lead ++ 40 ∷ []) rest (length lead + 1) len in
        cond-true (first_is 40 (drop g (lead ++ 40 ∷ rest))) _ _
        (ap (λ m. first_is 40 (drop m (lead ++ 40 ∷ rest))) eg ∙ ap (first_is 40) (drop_at lead (40 ∷ rest) (length lead) refl))
        ∙ ap (option_map (λ (p : Pairs). g + 1 + p.bytes)) (ap pairs_in behind ∙ e)
        ∙ ap (λ m. Some (m + bytes)) one

pub bytes-front : (bs : List ℕ) (n : ℕ) → bytes_length bs ≡ Some n → Front HasBytes bs n
bytes-front bs n h =
    elim (cases_Bool (first_is 40 (drop (gap bs) bs))) [
      | inl e ↦ found (pairs_in (drop (gap bs + 1) bs)) refl e (sym (cond-true (first_is 40 (drop (gap bs) bs)) _ _ e) ∙ h)
      | inr e ↦ (let bad : None ≡ Some n = sym (cond-false (first_is 40 (drop (gap bs) bs)) _ _ e) ∙ h in cc)
    ]
  where
    found : (o : Option Pairs) → pairs_in (drop (gap bs + 1) bs) ≡ o → first_is 40 (drop (gap bs) bs) ≡ true →
        option_map (λ (p : Pairs). gap bs + 1 + p.bytes) o ≡ Some n → Front HasBytes bs n
    found None eo e h = cc
    found (Some p) eo e h =
        let next = first-is-cons 40 (drop (gap bs) bs) e in
        let lead : Front IsGap bs (gap bs) = gap-front (steps gap_piece refl bs) 40 next.0 next.1 in
        let behind : drop (gap bs + 1) bs ≡ next.0 =
        (let swap : gap bs + 1 ≡ gap bs + 1 = refl in sym (drop-drop 1 (gap bs) bs) ∙ ap (drop 1) next.1) in
        let at : PairsAt next.0 p.bytes p.count = pairs-front next.0 p.bytes p.count (ap pairs_in (sym behind) ∙ eo) in
        let l1 : length lead.word ≡ gap bs = lead.long in
        let l2 : p.bytes ≡ length at.lead + length at.inner + 1 = at.long in
        let total : gap bs + 1 + p.bytes ≡ n = (let s : Some (gap bs + 1 + p.bytes) ≡ Some n = h in cc) in
        let l3 : length (lead.word ++ 40 ∷ (at.lead ++ (at.inner ++ 41 ∷ []))) ≡ length lead.word + suc (length (at.lead ++ (at.inner ++ 41 ∷ []))) =
        length-append lead.word (40 ∷ (at.lead ++ (at.inner ++ 41 ∷ []))) in
        let l4 : length (at.lead ++ (at.inner ++ 41 ∷ [])) ≡ length at.lead + length (at.inner ++ 41 ∷ []) =
        length-append at.lead (at.inner ++ 41 ∷ []) in
        let l5 : length (at.inner ++ 41 ∷ []) ≡ length at.inner + 1 = length-append at.inner (41 ∷ []) in
        record {
          word = lead.word ++ 40 ∷ (at.lead ++ (at.inner ++ 41 ∷ []));
          after = at.after;
          holds = record {
            lead = lead.word;
            inner = 40 ∷ (at.lead ++ (at.inner ++ 41 ∷ []));
            count = p.count;
            gap = lead.holds;
            bytes = record { lead = at.lead; pairs = at.inner; gap = at.gap_is; spelled = at.spelled; is = refl };
            is = refl;
          };
          whole = lead.whole ∙ ap (λ x. lead.word ++ x)
              (sym (front-rest lead) ∙ next.1 ∙ ap (λ x. 40 ∷ x) at.whole
              ∙ sym (inner_is at.lead (40 ∷ (at.lead ++ (at.inner ++ 41 ∷ []))) at.inner at.after refl))
              ∙ sym (append_assoc lead.word (40 ∷ (at.lead ++ (at.inner ++ 41 ∷ []))) at.after);
          long = omega arith;
        }
