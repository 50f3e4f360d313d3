-- Identifiers, names and integers: what is found at their spellings, and what is spelled where they are found.
use Rattle.std.proofs.Common.{◌≡◌, ℕ, suc, ◌+◌, ◌<◌, ◌≤◌, Bool, true, false, cond, not, ◌&&◌, nat_eq, nat_lt, ◌⊎◌, inl, inr, List, [], ◌∷◌, ◌++◌, length, drop, Option, None, Some, refl, ap, sym, subst, ◌∙◌, arith, length-append, append_assoc, append-nil, drop_at, true≢false}
use Rattle.std.proofs.lemmas.Bool.{cases_Bool, cond-true, cond-false, eqb-true, and_parts, and_from, lt-ltb, ltb-true}
use Rattle.std.specs.Option.{option_map}
use Rattle.il_lexer.specs.Classes.{is_digit, is_hex, is_id_start, is_id_part, first_passes, first_is}
use Rattle.il_lexer.specs.Runs.{front, run_of}
use Rattle.il_lexer.specs.Spellings.{id_length, part_length, dotted_part, name_length, is_barred, hex_length, decimal_length, or_else, int_length}
use Rattle.il_lexer.specs.Spelled.{Each, EachOf, IsId, IsPart, IsName, IsDecimal, IsHexadecimal}
use Rattle.il_lexer.proofs.RunLemmas.{run-none, run-piece}
use Rattle.il_lexer.proofs.Fronts.{Front, front-rest, Passed, passed, Steps, stop, step, steps, first-is-cons, differ, not-true, cond-some, map-some, front-each, front-false, front-stops}
use Rattle.il_lexer.proofs.SpelledTexts.{quoted-part-exact, quoted-part-front}

some_same : (a n : ℕ) → Some a ≡ Some n → a ≡ n
some_same a n h = cc

-- identifiers
pub id-exact : (w after : List ℕ) → IsId w → id_length (w ++ after) ≡ Some (length w + front is_id_part after)
id-exact [] after h = absurd h
id-exact (b ∷ w) after h =
    let through : front is_id_part (w ++ after) ≡ length w + front is_id_part after = front-each is_id_part w after h.1 in
    let sum : 1 + front is_id_part (w ++ after) ≡ suc (length w) + front is_id_part after = omega arith in
    cond-true (is_id_start b) _ _ h.0 ∙ ap Some sum

pub id-front : (bs : List ℕ) (n : ℕ) → id_length bs ≡ Some n → Front IsId bs n
id-front [] n h = cc
id-front (b ∷ bs) n h =
    let found = cond-some (is_id_start b) (1 + front is_id_part bs) n h in
    let p : Passed is_id_part bs = passed is_id_part bs in
    let l1 : length p.word ≡ front is_id_part bs = p.long in
    let sum : 1 + front is_id_part bs ≡ n = found.1 in
    record { word = b ∷ p.word; after = p.after; holds = (found.0, p.each); whole = ap (λ x. b ∷ x) p.whole; long = omega arith }

-- parts
pub extra : {w : List ℕ} → IsPart w → List ℕ → ℕ
extra (inl id) after = front is_id_part after
extra (inr quoted) after = 0

quote_apart : (b : ℕ) → is_id_start b ≡ true → nat_eq b 39 ≡ false
quote_apart b h = differ is_id_start b 39 h refl

part_of_id : (w after : List ℕ) → IsId w → part_length (w ++ after) ≡ Some (length w + front is_id_part after)
part_of_id [] after h = absurd h
part_of_id (b ∷ w) after h = cond-false (nat_eq b 39) _ _ (quote_apart b h.0) ∙ id-exact (b ∷ w) after h

pub part-exact : {w : List ℕ} → (p : IsPart w) → (after : List ℕ) → part_length (w ++ after) ≡ Some (length w + extra p after)
unfolding extra
part-exact {w} (inl id) after = part_of_id w after id
part-exact {w} (inr (text, t, some, is)) after =
    let same : w ++ after ≡ 39 ∷ (text ++ 39 ∷ after) = ap (λ x. x ++ after) is ∙ ap (λ x. 39 ∷ x) (append_assoc text (39 ∷ []) after) in
    let l1 : length w ≡ suc (length (text ++ 39 ∷ [])) = ap length is in
    let l2 : length (text ++ 39 ∷ []) ≡ length text + 1 = length-append text (39 ∷ []) in
    let long : length text + 2 ≡ length w + 0 = omega arith in
    ap part_length same ∙ quoted-part-exact t some after ∙ ap Some long

pub part-front : (bs : List ℕ) (n : ℕ) → part_length bs ≡ Some n → Front IsPart bs n
part-front [] n h = cc
part-front (b ∷ bs) n h =
    elim (cases_Bool (nat_eq b 39)) [
      | inl e ↦
          let f = quoted-part-front bs n (sym (cond-true (nat_eq b 39) _ _ e) ∙ h) in
          let l2 : length (f.0 ++ 39 ∷ []) ≡ length f.0 + 1 = length-append f.0 (39 ∷ []) in
          let l3 : n ≡ length f.0 + 2 = f.5 in
          record {
            word = 39 ∷ (f.0 ++ 39 ∷ []);
            after = f.1;
            holds = inr (f.0, f.2, f.3, refl);
            whole = ap (λ x. x ∷ bs) (eqb-true b 39 e) ∙ ap (λ x. 39 ∷ x) (f.4 ∙ sym (append_assoc f.0 (39 ∷ []) f.1));
            long = omega arith;
          }
      | inr e ↦
          let f : Front IsId (b ∷ bs) n = id-front (b ∷ bs) n (sym (cond-false (nat_eq b 39) _ _ e) ∙ h) in
          record { word = f.word; after = f.after; holds = inl f.holds; whole = f.whole; long = f.long }
    ]

pub id-some : (w : List ℕ) → IsId w → 0 < length w
id-some [] id = absurd id
id-some (b ∷ w) id = omega arith

pub part-some : {w : List ℕ} → IsPart w → 0 < length w
part-some {w} (inl id) = id-some w id
part-some {w} (inr (text, t, some, is)) = (let l : length w ≡ suc (length (text ++ 39 ∷ [])) = ap length is in omega arith)

-- names
dotted_at : (xs : List ℕ) (o : Option ℕ) → part_length xs ≡ o → (m : ℕ) →
    option_map (λ n. n + (run_of dotted_part (drop n xs)).bytes) o ≡ Some m → (run_of dotted_part (46 ∷ xs)).bytes ≡ suc m
dotted_at xs None e m h = cc
dotted_at xs (Some n) e m h =
    let one : 1 + n ≡ suc n = omega arith in
    let piece : dotted_part (46 ∷ xs) ≡ Some (suc n) = ap (option_map (λ k. 1 + k)) e ∙ ap Some one in
    let run : (run_of dotted_part (46 ∷ xs)).bytes ≡ suc n + (run_of dotted_part (drop n xs)).bytes =
    ap (λ r. r.bytes) (run-piece dotted_part 46 n xs piece) in
    let sum : n + (run_of dotted_part (drop n xs)).bytes ≡ m = some_same _ m h in
    omega arith

pub dotted-run : (xs : List ℕ) (m : ℕ) → name_length xs ≡ Some m → (run_of dotted_part (46 ∷ xs)).bytes ≡ suc m
dotted-run xs m h = dotted_at xs (part_length xs) refl m h

name_from : (bs : List ℕ) (n : ℕ) → part_length bs ≡ Some n → name_length bs ≡ Some (n + (run_of dotted_part (drop n bs)).bytes)
name_from bs n e = ap (option_map (λ m. m + (run_of dotted_part (drop m bs)).bytes)) e

-- a name at least as long as its spelling stands there, and one that is as long where it ends there
pub record NameAt (w after : List ℕ) : Type 0 where
  pub size : ℕ
  pub is : name_length (w ++ after) ≡ Some size
  pub long : length w ≤ size
  pub stops : first_passes is_id_part after ≡ false → dotted_part after ≡ None → size ≡ length w

pub name-exact : {w : List ℕ} → IsName w → (after : List ℕ) → NameAt w after
unfolding extra
name-exact {w} (IsName.part p) after =
    record {
      size = length w + extra p after + (run_of dotted_part (drop (length w + extra p after) (w ++ after))).bytes;
      is = name_from (w ++ after) (length w + extra p after) (part-exact p after);
      long = omega arith;
      stops = λ ids dots.
          let none : extra p after ≡ 0 = no_extra p ids in
          let at : length w + extra p after ≡ length w = omega arith in
          let behind : drop (length w + extra p after) (w ++ after) ≡ after =
          ap (λ m. drop m (w ++ after)) at ∙ drop_at w after (length w) refl in
          let run : (run_of dotted_part (drop (length w + extra p after) (w ++ after))).bytes ≡ 0 =
          ap (λ x. (run_of dotted_part x).bytes) behind ∙ ap (λ r. r.bytes) (run-none dotted_part after dots) in
          omega arith;
    }
  where
    no_extra : (p : IsPart w) → first_passes is_id_part after ≡ false → extra p after ≡ 0
    no_extra (inl id) h = front-stops is_id_part after h
    no_extra (inr q) h = refl
name-exact {w} (IsName.dotted {first = first} {rest = rest} p more is) after =
    let on : NameAt rest after = name-exact more after in
    let same : w ++ after ≡ first ++ 46 ∷ (rest ++ after) = ap (λ x. x ++ after) is ∙ append_assoc first (46 ∷ rest) after in
    let none : extra p (46 ∷ (rest ++ after)) ≡ 0 = no_extra p in
    let at : length first + extra p (46 ∷ (rest ++ after)) ≡ length first = omega arith in
    let part : part_length (first ++ 46 ∷ (rest ++ after)) ≡ Some (length first) =
    part-exact p (46 ∷ (rest ++ after)) ∙ ap Some at in
    let behind : drop (length first) (first ++ 46 ∷ (rest ++ after)) ≡ 46 ∷ (rest ++ after) =
    drop_at first (46 ∷ (rest ++ after)) (length first) refl in
    let run : (run_of dotted_part (drop (length first) (first ++ 46 ∷ (rest ++ after)))).bytes ≡ suc on.size =
    ap (λ x. (run_of dotted_part x).bytes) behind ∙ dotted-run (rest ++ after) on.size on.is in
    let sum : length first + (run_of dotted_part (drop (length first) (first ++ 46 ∷ (rest ++ after)))).bytes ≡ length first + suc on.size =
    omega arith in
    let l1 : length w ≡ length first + suc (length rest) = ap length is ∙ length-append first (46 ∷ rest) in
    let l2 : length rest ≤ on.size = on.long in
    record {
      size = length first + suc on.size;
      is = ap name_length same ∙ name_from (first ++ 46 ∷ (rest ++ after)) (length first) part ∙ ap Some sum;
      long = omega arith;
      stops = λ ids dots. let e : on.size ≡ length rest = on.stops ids dots in omega arith;
    }
  where
    no_extra : (p : IsPart first) → extra p (46 ∷ (rest ++ after)) ≡ 0
    no_extra (inl id) = front-false is_id_part 46 (rest ++ after) refl
    no_extra (inr q) = refl

names_from : {bs : List ℕ} {r k : ℕ} → Steps dotted_part bs r k → (p : List ℕ) → IsPart p → Front (λ w. IsName (p ++ w)) bs r
names_from {bs} (stop stuck er ek) p hp =
    record {
      word = [];
      after = bs;
      holds = subst IsName (sym (append-nil p)) (IsName.part hp);
      whole = refl;
      long = sym er;
    }
names_from {r = rs} (step {b = b} {n = n} {r = r} {bs = bs} e more er ek) p hp =
    elim (cases_Bool (nat_eq b 46)) [
      | inl dot ↦
          let m = map-some 1 (suc n) (part_length bs) (sym (cond-true (nat_eq b 46) _ _ dot) ∙ e) in
          let same : m.0 ≡ n = (let sum : 1 + m.0 ≡ suc n = m.2 in omega arith) in
          let f : Front IsPart bs n = part-front bs n (m.1 ∙ ap Some same) in
          let rest : Front (λ w. IsName (f.word ++ w)) (drop n bs) r = names_from more f.word f.holds in
          let l1 : length f.word ≡ n = f.long in
          let l2 : length rest.word ≡ r = rest.long in
          let len : length (f.word ++ rest.word) ≡ length f.word + length rest.word = length-append f.word rest.word in
          record {
            word = 46 ∷ (f.word ++ rest.word);
            after = rest.after;
            holds = IsName.dotted hp rest.holds refl;
            whole =
                ap (λ x. x ∷ bs) (eqb-true b 46 dot)
                ∙ ap (λ x. 46 ∷ x) (f.whole ∙ ap (λ x. f.word ++ x) (sym (front-rest f) ∙ rest.whole)
                ∙ sym (append_assoc f.word rest.word rest.after));
            long = omega arith;
          }
      | inr other ↦ (let bad : None ≡ Some (suc n) = sym (cond-false (nat_eq b 46) _ _ other) ∙ e in cc)
    ]

name_at : (bs : List ℕ) (o : Option ℕ) → part_length bs ≡ o → (n : ℕ) →
    option_map (λ m. m + (run_of dotted_part (drop m bs)).bytes) o ≡ Some n → Front IsName bs n
name_at bs None e n h = cc
name_at bs (Some m) e n h =
    let f : Front IsPart bs m = part-front bs m e in
    let rest : Front (λ w. IsName (f.word ++ w)) (drop m bs) (run_of dotted_part (drop m bs)).bytes =
    names_from (steps dotted_part refl (drop m bs)) f.word f.holds in
    let l1 : length f.word ≡ m = f.long in
    let l2 : length rest.word ≡ (run_of dotted_part (drop m bs)).bytes = rest.long in
    let sum : m + (run_of dotted_part (drop m bs)).bytes ≡ n = some_same _ n h in
    let len : length (f.word ++ rest.word) ≡ length f.word + length rest.word = length-append f.word rest.word in
    record {
      word = f.word ++ rest.word;
      after = rest.after;
      holds = rest.holds;
      whole = f.whole ∙ ap (λ x. f.word ++ x) (sym (front-rest f) ∙ rest.whole) ∙ sym (append_assoc f.word rest.word rest.after);
      long = omega arith;
    }

pub name-front : (bs : List ℕ) (n : ℕ) → name_length bs ≡ Some n → Front IsName bs n
name-front bs n h = name_at bs (part_length bs) refl n h

pub name-some : {w : List ℕ} → IsName w → 0 < length w
name-some (IsName.part p) = part-some p
name-some {w} (IsName.dotted {first = first} {rest = rest} p more is) =
    let l1 : length w ≡ length first + suc (length rest) = ap length is ∙ length-append first (46 ∷ rest) in omega arith

-- integers without a sign
decimal_at : (w after : List ℕ) → IsDecimal w → first_passes is_digit after ≡ false → is_barred after ≡ false →
    decimal_length (w ++ after) ≡ Some (length w)
decimal_at [] after h d b = absurd h
decimal_at (x ∷ w) after h d b =
    let through : front is_digit (x ∷ (w ++ after)) ≡ suc (length w) + front is_digit after =
    front-each is_digit (x ∷ w) after h in
    let none : front is_digit after ≡ 0 = front-stops is_digit after d in
    go (front is_digit (x ∷ (w ++ after))) (omega arith)
  where
    go : (n : ℕ) → n ≡ suc (length w) →
        cond (nat_lt 0 n && not (is_barred (drop n (x ∷ (w ++ after))))) (Some n) None ≡ Some (suc (length w))
    go n e =
        let behind : drop n (x ∷ (w ++ after)) ≡ after =
        ap (λ m. drop m (x ∷ (w ++ after))) e ∙ drop_at w after (length w) refl in
        let low : 0 < n = omega arith in
        cond-true (nat_lt 0 n && not (is_barred (drop n (x ∷ (w ++ after))))) _ _
        (and_from (nat_lt 0 n) _ (lt-ltb 0 n low) (ap (λ x. not (is_barred x)) behind ∙ ap not b))
        ∙ ap Some e

-- an integer at least as long as its spelling stands there, and one that is as long where it ends there
pub record IntAt (w after : List ℕ) : Type 0 where
  pub size : ℕ
  pub is : int_length (w ++ after) ≡ Some size
  pub long : length w ≤ size
  pub stops : first_passes is_id_part after ≡ false → size ≡ length w

x_is_part : (after : List ℕ) → first_passes is_id_part after ≡ false → hex_length after ≡ None
x_is_part [] h = refl
x_is_part (b ∷ after) h =
    elim (cases_Bool (nat_eq b 120)) [
      | inl e ↦ absurd (true≢false (sym (ap is_id_part (eqb-true b 120 e)) ∙ h))
      | inr e ↦ cond-false (nat_eq b 120 && first_passes is_hex after) _ _ (ap (λ t. t && first_passes is_hex after) e)
    ]

digit_no_x : (b : ℕ) (rest : List ℕ) → is_digit b ≡ true → hex_length (b ∷ rest) ≡ None
digit_no_x b rest h =
    cond-false (nat_eq b 120 && first_passes is_hex rest) _ _
    (ap (λ t. t && first_passes is_hex rest) (differ is_digit b 120 h refl))

pub decimal-exact : (w after : List ℕ) → IsDecimal w → first_passes is_digit after ≡ false → is_barred after ≡ false → IntAt w after
decimal-exact [] after h d b = absurd h
decimal-exact (x ∷ []) after h d b =
    let plain : decimal_length (x ∷ after) ≡ Some 1 = decimal_at (x ∷ []) after h d b in
    hex_first (nat_eq x 48) (hex_length after) refl refl plain
  where
    hex_first : (t : Bool) (o : Option ℕ) → nat_eq x 48 ≡ t → hex_length after ≡ o → decimal_length (x ∷ after) ≡ Some 1 →
        IntAt (x ∷ []) after
    hex_first false o et eo plain =
        record {
          size = 1;
          is = ap (λ t. or_else (cond t (option_map (λ n. 1 + n) (hex_length after)) None) (decimal_length (x ∷ after))) et ∙ plain;
          long = omega arith;
          stops = λ ids. refl;
        }
    hex_first true None et eo plain =
        record {
          size = 1;
          is =
              ap (λ t. or_else (cond t (option_map (λ n. 1 + n) (hex_length after)) None) (decimal_length (x ∷ after))) et
              ∙ ap (λ o. or_else (option_map (λ n. 1 + n) o) (decimal_length (x ∷ after))) eo ∙ plain;
          long = omega arith;
          stops = λ ids. refl;
        }
    hex_first true (Some n) et eo plain =
        record {
          size = 1 + n;
          is =
              ap (λ t. or_else (cond t (option_map (λ n. 1 + n) (hex_length after)) None) (decimal_length (x ∷ after))) et
              ∙ ap (λ o. or_else (option_map (λ n. 1 + n) o) (decimal_length (x ∷ after))) eo;
          long = omega arith;
          stops = λ ids. (let bad : None ≡ Some n = sym (x_is_part after ids) ∙ eo in cc);
        }
decimal-exact (x ∷ y ∷ w) after h d b =
    record {
      size = suc (suc (length w));
      is =
          no_hex (nat_eq x 48) (hex_length (y ∷ (w ++ after))) (decimal_length (x ∷ y ∷ (w ++ after)))
          (digit_no_x y (w ++ after) h.1.0)
          ∙ decimal_at (x ∷ y ∷ w) after h d b;
      long = omega arith;
      stops = λ ids. refl;
    }
  where
    no_hex : (t : Bool) (o d : Option ℕ) → o ≡ None → or_else (cond t (option_map (λ n. 1 + n) o) None) d ≡ d
    no_hex true o d e = ap (λ x. or_else (option_map (λ n. 1 + n) x) d) e
    no_hex false o d e = refl

pub hexadecimal-exact : (w after : List ℕ) → IsHexadecimal w → IntAt w after
hexadecimal-exact w after ([], h, is) = absurd h
hexadecimal-exact w after (a ∷ digits, h, is) =
    let same : w ++ after ≡ 48 ∷ 120 ∷ a ∷ (digits ++ after) = ap (λ x. x ++ after) is in
    let through : front is_hex (a ∷ (digits ++ after)) ≡ suc (length digits) + front is_hex after =
    front-each is_hex (a ∷ digits) after h in
    let l1 : length w ≡ suc (suc (suc (length digits))) = ap length is in
    record {
      size = 1 + (1 + front is_hex (a ∷ (digits ++ after)));
      is =
          ap int_length same
          ∙ ap (λ o. or_else (option_map (λ n. 1 + n) o) (decimal_length (48 ∷ 120 ∷ a ∷ (digits ++ after))))
          (cond-true (is_hex a) (Some (1 + front is_hex (a ∷ (digits ++ after)))) None h.0);
      long = omega arith;
      stops = λ ids. (let none : front is_hex after ≡ 0 = front-stops is_hex after (hex_is_part after ids) in omega arith);
    }
  where
    hex_is_part : (after : List ℕ) → first_passes is_id_part after ≡ false → first_passes is_hex after ≡ false
    hex_is_part [] h = refl
    hex_is_part (b ∷ after) h = elim (cases_Bool (is_hex b)) [
      | inl e ↦ absurd (true≢false (sym (hex_part b e) ∙ h))
      | inr e ↦ e
    ]
      where
        hex_part : (b : ℕ) → is_hex b ≡ true → is_id_part b ≡ true
        hex_part b h = grind arith

-- an integer where it is found: decimal digits with nothing behind them that bars them, or hexadecimal digits
pub record IntFront (bs : List ℕ) (n : ℕ) : Type 0 where
  pub word : List ℕ
  pub after : List ℕ
  pub holds : (IsDecimal word × (first_passes is_digit after ≡ false) × (is_barred after ≡ false)) ⊎ IsHexadecimal word
  pub whole : bs ≡ word ++ after
  pub long : length word ≡ n

decimal_front : (bs : List ℕ) (n : ℕ) → decimal_length bs ≡ Some n → IntFront bs n
decimal_front bs n h = go (passed is_digit bs) (front is_digit bs) refl h
  where
    go : Passed is_digit bs → (m : ℕ) → front is_digit bs ≡ m →
        cond (nat_lt 0 m && not (is_barred (drop m bs))) (Some m) None ≡ Some n → IntFront bs n
    go p m em h =
        let found = cond-some (nat_lt 0 m && not (is_barred (drop m bs))) m n h in
        let parts = and_parts (nat_lt 0 m) (not (is_barred (drop m bs))) found.0 in
        let low : 0 < m = ltb-true 0 m parts.0 in
        let l1 : length p.word ≡ front is_digit bs = p.long in
        let l2 : length p.word ≡ m = omega arith in
        let same : m ≡ n = found.1 in
        let behind : drop m bs ≡ p.after = ap (drop m) p.whole ∙ drop_at p.word p.after m l2 in
        record {
          word = p.word;
          after = p.after;
          holds = inl (
            some_digits p.word p.each (omega arith),
            p.stops,
            ap is_barred (sym behind) ∙ not-true (is_barred (drop m bs)) parts.1,
          );
          whole = p.whole;
          long = omega arith;
        }
      where
        some_digits : (w : List ℕ) → Each is_digit w → 0 < length w → IsDecimal w
        some_digits [] h lt = absurd (omega arith)
        some_digits (x ∷ w) h lt = h

hex_front : (cs : List ℕ) (n : ℕ) → hex_length cs ≡ Some n → IntFront (48 ∷ cs) (suc n)
hex_front [] n h = cc
hex_front (c ∷ ds) n h =
    let found = cond-some (nat_eq c 120 && first_passes is_hex ds) (1 + front is_hex ds) n h in
    let parts = and_parts (nat_eq c 120) (first_passes is_hex ds) found.0 in
    let p : Passed is_hex ds = passed is_hex ds in
    let l1 : length p.word ≡ front is_hex ds = p.long in
    let sum : 1 + front is_hex ds ≡ n = found.1 in
    record {
      word = 48 ∷ 120 ∷ p.word;
      after = p.after;
      holds = inr (p.word, some_hex p.word p.after p.each p.stops p.whole parts.1, refl);
      whole = ap (λ x. 48 ∷ x ∷ ds) (eqb-true c 120 parts.0) ∙ ap (λ x. 48 ∷ 120 ∷ x) p.whole;
      long = omega arith;
    }
  where
    some_hex : (w after : List ℕ) → Each is_hex w → first_passes is_hex after ≡ false → ds ≡ w ++ after →
        first_passes is_hex ds ≡ true → EachOf is_hex w
    some_hex [] after h none e f = absurd (true≢false (sym f ∙ ap (first_passes is_hex) e ∙ none))
    some_hex (x ∷ w) after h none e f = h

pub int-front : (bs : List ℕ) (n : ℕ) → int_length bs ≡ Some n → IntFront bs n
int-front bs n h = go (cond (first_is 48 bs) (option_map (λ m. 1 + m) (hex_length (drop 1 bs))) None) refl h
  where
    go : (o : Option ℕ) → cond (first_is 48 bs) (option_map (λ m. 1 + m) (hex_length (drop 1 bs))) None ≡ o →
        or_else o (decimal_length bs) ≡ Some n → IntFront bs n
    go None e h = decimal_front bs n h
    go (Some k) e h =
        elim (cases_Bool (first_is 48 bs)) [
          | inl t ↦
              let m = map-some 1 k (hex_length (drop 1 bs)) (sym (cond-true (first_is 48 bs) _ _ t) ∙ e) in
              let next = first-is-cons 48 bs t in
              let f : IntFront (48 ∷ next.0) (suc m.0) = hex_front next.0 m.0 (sym (ap (λ x. hex_length (drop 1 x)) next.1) ∙ m.1) in
              let size : suc m.0 ≡ n = (let a : 1 + m.0 ≡ k = m.2 in let b : k ≡ n = some_same k n h in omega arith) in
              subst (λ s. IntFront bs s) size (subst (λ x. IntFront x (suc m.0)) (sym next.1) f)
          | inr t ↦ (let bad : None ≡ Some k = sym (cond-false (first_is 48 bs) _ _ t) ∙ e in cc)
        ]
