-- The parts of a name, as far as they go.
use Rattle.std.proofs.Common.{◌≡◌, inl, inr, ℕ, zero, suc, ◌+◌, ◌/◌, ◌%◌, ◌<◌, ◌≤◌, ◌||◌, nat_lt, nat_eq, Bool, true, false, cond, List, [], ◌∷◌, ◌++◌, length, drop, Option, None, Some, refl, ap, sym, subst, ◌∙◌, arith, length-append, append_assoc}
use Rattle.std.proofs.lemmas.Bool.{and_parts, cases_Bool, eqb-true, ltb-true, false≢true}
use Rattle.std.proofs.lemmas.List.Sums.{take_while-cons}
use Rattle.std.specs.List.{flat_map, list_all}
use Rattle.std.specs.Option.{option_map}
use Rattle.std.specs.Prelude.{take_while}
use Rattle.il_lexer.specs.Classes.{is_id_start, is_id_part, first_is}
use Rattle.il_lexer.specs.Quotes.{line_end, escape_length, is_escape_letter, is_octal_code, char_length, quoted_length}
use Rattle.il_lexer.specs.Runs.{front, run_of, run_within, from_piece}
use Rattle.il_lexer.specs.Spellings.{id_length, is_empty_quote, quoted_part, part_length}
use Rattle.listing_leaves.specs.Laws.{has_no_zero}
use Rattle.listing_leaves.specs.Names.{is_id}
use Rattle.listing_leaves.specs.Texts.{is_control, octal, escaped, quoted}
use Rattle.listing_values.proofs.Texts.{control_ok, own_letter, longer, not_true}

-- ---- a run of characters

abbrev piece : List ℕ → Option ℕ
piece = char_length 39

letter_piece : (b : ℕ) (more : List ℕ) → is_escape_letter b ≡ true → piece (92 ∷ b ∷ more) ≡ Some 2
letter_piece b more h = ap (λ c. option_map (λ n. 1 + n) (cond c (Some 1) (cond (is_octal_code (b ∷ more)) (Some 3) (line_end (b ∷ more))))) h

octal_piece : (a b c : ℕ) (more : List ℕ) → is_escape_letter a ≡ false → is_octal_code (a ∷ b ∷ c ∷ more) ≡ true → piece (92 ∷ a ∷ b ∷ c ∷ more) ≡ Some 4
octal_piece a b c more plain code =
    ap (λ x. option_map (λ n. 1 + n) (cond x (Some 1) (cond (is_octal_code (a ∷ b ∷ c ∷ more)) (Some 3) (line_end (a ∷ b ∷ c ∷ more))))) plain
    ∙ ap (λ x. option_map (λ n. 1 + n) (cond x (Some 3) (line_end (a ∷ b ∷ c ∷ more)))) code

plain_piece : (b : ℕ) (more : List ℕ) → (nat_eq b 39 || nat_eq b 10 || nat_eq b 0) ≡ false → nat_eq b 92 ≡ false → piece (b ∷ more) ≡ Some 1
plain_piece b more h e =
    ap (λ x. cond x None (cond (nat_eq b 92) (option_map (λ n. 1 + n) (escape_length more)) (Some 1))) h
    ∙ ap (λ x. cond x (option_map (λ n. 1 + n) (escape_length more)) (Some 1)) e

-- the run over a character that is written so, with what stands behind it
run_step : (b : ℕ) (x y : Bool) → (nat_eq b 92 || nat_eq b 39) ≡ x → is_control b ≡ y → 0 < b → (steps : ℕ) (more : List ℕ) →
    (run_within (suc steps) piece (cond x (92 ∷ b ∷ []) (cond y (octal b) (b ∷ [])) ++ more)).bytes
    ≡ length (cond x (92 ∷ b ∷ []) (cond y (octal b) (b ∷ []))) + (run_within steps piece more).bytes
run_step b true y e c l steps more =
    let own = own_letter 39 b refl e in
    ap (λ o. (from_piece o (λ n. run_within steps piece (drop n (92 ∷ b ∷ more)))).bytes) (letter_piece b more own.0)
run_step b false true e c l steps more =
    let ok = and_parts _ _ (control_ok b c) in
    let code = and_parts _ _ ok.1 in
    ap (λ o. (from_piece o (λ n. run_within steps piece (drop n (octal b ++ more)))).bytes)
    (octal_piece (48 + b / 64) (48 + b / 8 % 8) (48 + b % 8) more (not_true _ ok.0) code.0)
run_step b false false e c l steps more =
    ap (λ o. (from_piece o (λ n. run_within steps piece (drop n (b ∷ more)))).bytes) (plain_piece b more (others b e c l) (backslash b e))
  where
    others : (b : ℕ) → (nat_eq b 92 || nat_eq b 39) ≡ false → is_control b ≡ false → 0 < b → (nat_eq b 39 || nat_eq b 10 || nat_eq b 0) ≡ false
    others b e c l = grind (arith, e, c, l)

    backslash : (b : ℕ) → (nat_eq b 92 || nat_eq b 39) ≡ false → nat_eq b 92 ≡ false
    backslash b e = grind (arith, e)

run_is : (text more : List ℕ) (steps : ℕ) → has_no_zero text ≡ true → length (flat_map (escaped 39) text) ≤ steps →
    (run_within steps piece (flat_map (escaped 39) text ++ 39 ∷ more)).bytes ≡ length (flat_map (escaped 39) text)
run_is [] more zero h le = refl
run_is [] more (suc steps) h le = refl
run_is (b ∷ bs) more zero h le =
    let some = longer 39 b (nat_eq b 92 || nat_eq b 39) (is_control b) in
    let split = length-append (escaped 39 b) (flat_map (escaped 39) bs) in
    absurd (omega arith)
run_is (b ∷ bs) more (suc steps) h le =
    let hs = and_parts (nat_lt 0 b) (has_no_zero bs) h in
    let some = longer 39 b (nat_eq b 92 || nat_eq b 39) (is_control b) in
    let split = length-append (escaped 39 b) (flat_map (escaped 39) bs) in
    let rest = run_is bs more steps hs.1 (omega arith) in
    ap (λ t. (run_within (suc steps) piece t).bytes) (append_assoc (escaped 39 b) (flat_map (escaped 39) bs) (39 ∷ more))
    ∙ (run_step b (nat_eq b 92 || nat_eq b 39) (is_control b) refl refl (ltb-true 0 b hs.0) steps (flat_map (escaped 39) bs ++ 39 ∷ more)
    ∙ (ap (λ n. length (escaped 39 b) + n) rest ∙ sym split))

drop_front : (xs ys : List ℕ) → drop (length xs) (xs ++ ys) ≡ ys
drop_front [] ys = refl
drop_front (x ∷ xs) ys = drop_front xs ys

quoted_is : (text more : List ℕ) → has_no_zero text ≡ true → quoted_length 39 (flat_map (escaped 39) text ++ 39 ∷ more) ≡ Some (length (flat_map (escaped 39) text) + 1)
unfolding run_of
quoted_is text more h =
    let all = flat_map (escaped 39) text ++ 39 ∷ more in
    let long = length-append (flat_map (escaped 39) text) (39 ∷ more) in
    ap (λ n. cond (first_is 39 (drop n all)) (Some (n + 1)) None) (run_is text more (length all) h (omega arith))
    ∙ ap (λ t. cond (first_is 39 t) (Some (length (flat_map (escaped 39) text) + 1)) None) (drop_front (flat_map (escaped 39) text) (39 ∷ more))

-- ---- a text that isn't empty

-- its first character is no escaped line end, and no quote
first_step : (b : ℕ) (x y : Bool) → (nat_eq b 92 || nat_eq b 39) ≡ x → is_control b ≡ y → (more : List ℕ) →
    is_empty_quote (cond x (92 ∷ b ∷ []) (cond y (octal b) (b ∷ [])) ++ more) ≡ false
unfolding run_of
first_step b true y e c more = by (nat_eq b 92) (nat_eq b 39) refl refl e
  where
    by : (u v : Bool) → nat_eq b 92 ≡ u → nat_eq b 39 ≡ v → (u || v) ≡ true → is_empty_quote (92 ∷ b ∷ more) ≡ false
    by true v f g k = subst (λ i. is_empty_quote (92 ∷ i ∷ more) ≡ false) (sym (eqb-true b 92 f)) refl
    by false true f g k = subst (λ i. is_empty_quote (92 ∷ i ∷ more) ≡ false) (sym (eqb-true b 39 g)) refl
    by false false f g k = absurd (false≢true k)
first_step b false true e c more =
    let a = 48 + b / 64 in
    let f : nat_eq a 10 ≡ false = grind arith in
    let g : nat_eq a 13 ≡ false = grind arith in
    simp (f, g) refl
first_step b false false e c more =
    let f : nat_eq b 92 ≡ false = grind (arith, e) in
    let g : nat_eq b 39 ≡ false = grind (arith, e) in
    simp (f, g) refl

pub quoted_part_is : (text more : List ℕ) → has_no_zero text ≡ true → 0 < length text → part_length (quoted 39 text ++ more) ≡ Some (length (quoted 39 text))
unfolding quoted
quoted_part_is [] more h some = absurd (omega arith)
quoted_part_is (b ∷ bs) more h some =
    let inner = flat_map (escaped 39) (b ∷ bs) in
    let split : (inner ++ 39 ∷ []) ++ more ≡ inner ++ 39 ∷ more = append_assoc inner (39 ∷ []) more in
    let long = length-append inner (39 ∷ []) in
    let whole : 1 + (length inner + 1) ≡ suc (length (inner ++ 39 ∷ [])) = omega arith in
    ap quoted_part split
    ∙ (ap (λ c. cond c None (option_map (λ n. 1 + n) (quoted_length 39 (inner ++ 39 ∷ more))))
    (ap is_empty_quote (append_assoc (escaped 39 b) (flat_map (escaped 39) bs) (39 ∷ more))
    ∙ first_step b (nat_eq b 92 || nat_eq b 39) (is_control b) refl refl (flat_map (escaped 39) bs ++ 39 ∷ more))
    ∙ (ap (option_map (λ n. 1 + n)) (quoted_is (b ∷ bs) more h) ∙ ap (λ n. Some n) whole))

-- ---- identifiers

-- what may stand behind a part: nothing, or a dot
abbrev pub ends_part : List ℕ → Bool
ends_part [] = true
ends_part (b ∷ bs) = nat_eq b 46

id_run : (bs more : List ℕ) → list_all is_id_part bs ≡ true → ends_part more ≡ true → front is_id_part (bs ++ more) ≡ length bs
id_run [] [] h e = refl
id_run [] (c ∷ cs) h e = subst (λ i. front is_id_part (i ∷ cs) ≡ 0) (sym (eqb-true c 46 e)) (ap (λ t. length t) (take_while-cons is_id_part 46 cs))
id_run (b ∷ bs) more h e =
    let hs = and_parts (is_id_part b) (list_all is_id_part bs) h in
    ap (λ t. length t) (take_while-cons is_id_part b (bs ++ more))
    ∙ (ap (λ c. length (cond c (b ∷ take_while is_id_part (bs ++ more)) [])) hs.0 ∙ ap suc (id_run bs more hs.1 e))

pub id_part_is : (text more : List ℕ) → is_id text ≡ true → ends_part more ≡ true → part_length (text ++ more) ≡ Some (length text)
id_part_is [] more h e = absurd (false≢true h)
id_part_is (b ∷ bs) more h e =
    let hs = and_parts (is_id_start b) (list_all is_id_part bs) h in
    let no_quote : nat_eq b 39 ≡ false = quote b hs.0 in
    let count : 1 + length bs ≡ suc (length bs) = omega arith in
    ap (λ c. cond c (quoted_part (bs ++ more)) (id_length (b ∷ (bs ++ more)))) no_quote
    ∙ (ap (λ c. cond c (Some (1 + front is_id_part (bs ++ more))) None) hs.0
    ∙ (ap (λ n. Some (1 + n)) (id_run bs more hs.1 e) ∙ ap (λ n. Some n) count))
  where
    quote : (b : ℕ) → is_id_start b ≡ true → nat_eq b 39 ≡ false
    quote b s = elim (cases_Bool (nat_eq b 39)) [
      | inl e ↦ absurd (false≢true (sym (subst (λ i. is_id_start i ≡ false) (sym (eqb-true b 39 e)) refl) ∙ s))
      | inr e ↦ e
    ]
