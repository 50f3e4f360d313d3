-- Names that are ASCII without quotes: each is its own text.
use Rattle.std.proofs.Common.{◌≡◌, ℕ, suc, ◌+◌, ◌<◌, true, false, not, ◌==◌, inl, inr, List, [], ◌∷◌, ◌++◌, length, drop, Some, refl, ap, sym, subst, ◌∙◌, arith, length-append, append_assoc, append-nil, true≢false}
use Rattle.std.specs.Prelude.{Bool, ◌||◌, nat_le, if◌then◌else◌, Option, None}
use Rattle.std.specs.Str.{IsAscii}
use Rattle.std.proofs.lemmas.Bool.{leb-false}
use Rattle.std.proofs.lemmas.Option.{same_Some}
use Rattle.std.proofs.lemmas.Str.Ascii.{IsAscii-cons, IsAscii-nil}
use Rattle.il_lexer.specs.Spelled.{Each, IsId, IsPart, IsName}
use Rattle.source_model.specs.Values.{part_texts}
use Rattle.source_nodes.specs.NameTexts.{EndsPart, IsTextOf, plain_last}
use Rattle.source_nodes.proofs.Lexed.{heads-same}
use Rattle.source_nodes.proofs.NameLemmas.{ended, ended-more, id_text, last_part, no_dot_in_id, no_texts, part_texts-at}

-- ---- a byte, and a run of bytes without a dot

plain_step : (at last b : ℕ) (bs : List ℕ) (n : ℕ) → plain_last at last (b ∷ bs) ≡ Some n →
    ((b == 39) ≡ false) × (nat_le 128 b ≡ false) × ((if b == 46 then plain_last (suc at) (suc at) bs else plain_last (suc at) last bs) ≡ Some n)
plain_step at last b bs n e = go (b == 39) (nat_le 128 b) refl refl e
  where
    left : Option ℕ
    left = if b == 46 then plain_last (suc at) (suc at) bs else plain_last (suc at) last bs

    go : (q a : Bool) → (b == 39) ≡ q → nat_le 128 b ≡ a → (if q || a then None else left) ≡ Some n →
        ((b == 39) ≡ false) × (nat_le 128 b ≡ false) × (left ≡ Some n)
    go true a p r f = absurd cc
    go false true p r f = absurd cc
    go false false p r f = (p, r, f)

plain_over : (w after : List ℕ) (at last n : ℕ) → Each (λ b. not (b == 46)) w → plain_last at last (w ++ after) ≡ Some n →
    plain_last (at + length w) last after ≡ Some n
plain_over [] after at last n none e = let same : at ≡ at + 0 = omega arith in subst (λ k. plain_last k last after ≡ Some n) same e
plain_over (b ∷ w) after at last n none e =
    let step = plain_step at last b (w ++ after) n e in
    let go_on = sym (ap (λ c. if c then plain_last (suc at) (suc at) (w ++ after) else plain_last (suc at) last (w ++ after)) (no_dot b none.0)) ∙ step.2 in
    let same : suc at + length w ≡ at + length (b ∷ w) = omega arith in
    subst (λ k. plain_last k last after ≡ Some n) same (plain_over w after (suc at) last n none.1 go_on)
  where
    no_dot : (x : ℕ) → not (x == 46) ≡ true → (x == 46) ≡ false
    no_dot x h = go (x == 46) h
      where
        go : (c : Bool) → not c ≡ true → c ≡ false
        go true f = absurd cc
        go false f = refl

pub plain_ascii : (at last : ℕ) (bs : List ℕ) (n : ℕ) → plain_last at last bs ≡ Some n → IsAscii bs
plain_ascii at last [] n e = IsAscii-nil
plain_ascii at last (b ∷ bs) n e =
    let step = plain_step at last b bs n e in
    go (b == 46) (leb-false 128 b step.1) (plain_ascii (suc at) (suc at) bs n) (plain_ascii (suc at) last bs n) step.2
  where
    go : (c : Bool) → b < 128 → (plain_last (suc at) (suc at) bs ≡ Some n → IsAscii bs) → (plain_last (suc at) last bs ≡ Some n → IsAscii bs) →
        (if c then plain_last (suc at) (suc at) bs else plain_last (suc at) last bs) ≡ Some n → IsAscii (b ∷ bs)
    go true below dot other f = IsAscii-cons b bs below (dot f)
    go false below dot other f = IsAscii-cons b bs below (other f)

-- ---- names

-- without a quote a part is an identifier
plain_part : (part after : List ℕ) (at last n : ℕ) → IsPart part → plain_last at last (part ++ after) ≡ Some n → IsId part
plain_part part after at last n (inl id) e = id
plain_part [] after at last n (inr (text, t, some, is)) e = absurd cc
plain_part (b ∷ w) after at last n (inr (text, t, some, is)) e =
    let step = plain_step at last b (w ++ after) n e in
    let quote : b ≡ 39 = heads-same b 39 w (text ++ 39 ∷ []) is in
    absurd (true≢false (sym (ap (λ x. x == 39) quote) ∙ step.0))

text_at : (part after : List ℕ) → IsId part → EndsPart after → part_texts (part ++ after) ≡ part ∷ part_texts (drop 1 after)
text_at part after id ends =
    part_texts-at part after (inl id) ends ∙ ap (λ t. t ∷ part_texts (drop 1 after)) (id_text part id)

plain_rest : (texts : List (List ℕ)) (text : List ℕ) (done : List (List ℕ)) (rest : List ℕ) (n : ℕ) → IsName rest → texts ≡ done ++ part_texts rest →
    text ≡ ended done ++ rest → plain_last (length (ended done)) (length (ended done)) rest ≡ Some n → IsTextOf texts text n
plain_rest texts text done rest n (IsName.part p) ts t e =
    let start = length (ended done) in
    let f : plain_last start start (rest ++ []) ≡ Some n = ap (plain_last start start) (append-nil rest) ∙ e in
    let id = plain_part rest [] start start n p f in
    let at_end : Some start ≡ Some n = plain_over rest [] start start n (no_dot_in_id rest id) f in
    let alone : part_texts rest ≡ rest ∷ [] =
    ap part_texts (sym (append-nil rest)) ∙ text_at rest [] id (inl refl) ∙ ap (λ us. rest ∷ us) no_texts in
    last_part texts text n [] (omega arith) record {
      done = done;
      part = rest;
      whole = t;
      place = sym (same_Some start n at_end);
      more = inl (refl, ts ∙ ap (λ us. done ++ us) alone);
    }
plain_rest texts text done rest n (IsName.dotted {first = first} {rest = more} p m is) ts t e =
    let start = length (ended done) in
    let f : plain_last start start (first ++ 46 ∷ more) ≡ Some n = ap (plain_last start start) (sym is) ∙ e in
    let id = plain_part first (46 ∷ more) start start n p f in
    let over = plain_over first (46 ∷ more) start start n (no_dot_in_id first id) f in
    let step = plain_step (start + length first) start 46 more n over in
    let all = done ++ first ∷ [] in
    let l1 : length (ended all) ≡ length ((ended done ++ first) ++ 46 ∷ []) = ap length (ended-more done first) in
    let l2 : length ((ended done ++ first) ++ 46 ∷ []) ≡ length (ended done ++ first) + 1 = length-append (ended done ++ first) (46 ∷ []) in
    let l3 : length (ended done ++ first) ≡ start + length first = length-append (ended done) first in
    let place : suc (start + length first) ≡ length (ended all) = omega arith in
    plain_rest texts text all more n m
    (ts ∙ ap (λ w. done ++ part_texts w) is ∙ ap (λ us. done ++ us) (text_at first (46 ∷ more) id (inr refl)) ∙ sym (append_assoc done (first ∷ []) (part_texts more)))
    (t ∙ ap (λ w. ended done ++ w) is ∙ sym (append_assoc (ended done) first (46 ∷ more)) ∙ sym (append_assoc (ended done ++ first) (46 ∷ []) more)
    ∙ ap (λ w. w ++ more) (sym (ended-more done first)))
    (subst (λ k. plain_last k k more ≡ Some n) place step.2)

-- such a name is its own text
pub plain_text : (name : List ℕ) (n : ℕ) → plain_last 0 0 name ≡ Some n → IsName name → IsTextOf (part_texts name) name n
plain_text name n e h = plain_rest (part_texts name) name [] name n h refl refl e
