-- Labels are read as names that are these.
use Rattle.std.proofs.Common.{◌≡◌, ℕ, zero, suc, ◌+◌, ◌-◌, ◌^◌, ◌<◌, ◌&&◌, nat_eq, Bool, true, false, cond, List, [], ◌∷◌, ◌++◌, length, take, drop, None, Some, refl, ap, ◌∙◌, arith}
use Rattle.std.proofs.lemmas.Bool.{and_parts}
use Rattle.std.proofs.lemmas.Fmt.{decimal_is_IsNumeral_wide, digits_is_IsNumeral}
use Rattle.std.proofs.lemmas.List.Sums.{take_while-cons}
use Rattle.std.specs.Char as char
use Rattle.std.specs.Fmt.{digits, decimal}
use Rattle.std.specs.List.{list_all}
use Rattle.std.specs.Prelude.{take_while}
use Rattle.std.specs.Str.Parse.{AllDigits}
use Rattle.il_lexer.specs.Classes.{is_id_start, is_id_part}
use Rattle.il_lexer.specs.Runs.{front}
use Rattle.il_lexer.specs.Spellings.{id_length, quoted_part, part_length}
use Rattle.source_model.specs.Values.{or_zero, part_text, part_texts_within, part_texts, dotted, unescaped, between_quotes}
use Rattle.listing_leaves.specs.Numbers.{zeros, at_least, label, data_label}
use Rattle.listing_constants.specs.Laws.{LabelsAreRead}

-- ---- identifiers

all_taken : (bs : List ℕ) → list_all is_id_part bs ≡ true → front is_id_part bs ≡ length bs
all_taken [] h = refl
all_taken (b ∷ bs) h =
    let hs = and_parts (is_id_part b) (list_all is_id_part bs) h in
    ap (λ t. length t) (take_while-cons is_id_part b bs)
    ∙ (ap (λ c. length (cond c (b ∷ take_while is_id_part bs) [])) hs.0 ∙ ap suc (all_taken bs hs.1))

no_quote : (b : ℕ) → is_id_start b ≡ true → nat_eq b 39 ≡ false
no_quote b h = grind (arith, h)

whole_length : (b : ℕ) (bs : List ℕ) → is_id_start b ≡ true → list_all is_id_part bs ≡ true → part_length (b ∷ bs) ≡ Some (suc (length bs))
whole_length b bs start parts =
    let count : 1 + length bs ≡ suc (length bs) = omega arith in
    ap (λ c. cond c (quoted_part bs) (id_length (b ∷ bs))) (no_quote b start)
    ∙ (ap (λ c. cond c (Some (1 + front is_id_part bs)) None) start
    ∙ (ap (λ n. Some (1 + n)) (all_taken bs parts) ∙ ap (λ n. Some n) count))

take_all : (xs : List ℕ) → take (length xs) xs ≡ xs
take_all [] = refl
take_all (x ∷ xs) = ap (λ ys. x ∷ ys) (take_all xs)

drop_all : (xs : List ℕ) → drop (length xs + 1) xs ≡ []
drop_all [] = refl
drop_all (x ∷ xs) = let same : suc (length xs) + 1 ≡ suc (length xs + 1) = omega arith in ap (λ k. drop k (x ∷ xs)) same ∙ drop_all xs

none_left : (k : ℕ) → part_texts_within k [] ≡ []
none_left zero = refl
none_left (suc k) = refl

-- an identifier is a name of one part
id_read : (b : ℕ) (bs : List ℕ) → is_id_start b ≡ true → list_all is_id_part bs ≡ true → dotted (part_texts (b ∷ bs)) ≡ b ∷ bs
unfolding part_texts
id_read b bs start parts =
    let whole = b ∷ bs in
    ap (λ o. dotted (part_text (take (or_zero o) whole) ∷ part_texts_within (length bs) (drop (or_zero o + 1) whole))) (whole_length b bs start parts)
    ∙ (ap (λ t. dotted (part_text t ∷ part_texts_within (length bs) (drop (length whole + 1) whole))) (take_all whole)
    ∙ (ap (λ t. dotted (part_text whole ∷ part_texts_within (length bs) t)) (drop_all whole)
    ∙ (ap (λ ts. dotted (part_text whole ∷ ts)) (none_left (length bs))
    ∙ ap (λ c. cond c (unescaped (between_quotes whole)) whole) (no_quote b start))))

-- ---- digits

hex_part : (c : ℕ) → char.digit_value c < 16 → is_id_part c ≡ true
hex_part c h = grind (arith, h)

both : (x y : Bool) → x ≡ true → y ≡ true → (x && y) ≡ true
both true y h k = k
both false y h k = h

digits_parts : (ds : List ℕ) → AllDigits 16 ds → list_all is_id_part ds ≡ true
digits_parts [] h = refl
digits_parts (d ∷ ds) h = both (is_id_part d) (list_all is_id_part ds) (hex_part d h.0) (digits_parts ds h.1)

wider : (ds : List ℕ) → AllDigits 10 ds → AllDigits 16 ds
wider [] h = tt
wider (d ∷ ds) h = let low = h.0 in (omega arith, wider ds h.1)

padded : (k : ℕ) (ds : List ℕ) → list_all is_id_part ds ≡ true → list_all is_id_part (zeros k ++ ds) ≡ true
padded zero ds h = h
padded (suc k) ds h = padded k ds h

offset_read : (n : ℕ) → n < 2 ^ 128 → dotted (part_texts (label n)) ≡ label n
unfolding label
offset_read n small =
    let numeral = digits_is_IsNumeral 16 false (omega arith) (omega arith) n (grind (arith, small)) in
    let ds = digits 16 false n in
    id_read 73 (76 ∷ 95 ∷ at_least 4 ds) refl (padded (4 - length ds) ds (digits_parts ds numeral.0.1))

content_read : (k : ℕ) → k < 2 ^ 128 → dotted (part_texts (data_label k)) ≡ data_label k
unfolding data_label
content_read k small =
    let numeral = decimal_is_IsNumeral_wide k (grind (arith, small)) in
    id_read 68 (95 ∷ decimal k) refl (digits_parts (decimal k) (wider (decimal k) numeral.0.1))

pub labels_are_read : LabelsAreRead
labels_are_read = record { offsets = offset_read; contents = content_read }
