-- Names that begin with an identifier, part for part.
use Rattle.std.proofs.Common.{◌≡◌, ℕ, zero, suc, ◌+◌, ◌<◌, Bool, true, false, nat_eq, ◌||◌, ◌&&◌, List, [], ◌∷◌, length, take, drop, drop-drop, None, Some, refl, ap, sym, ◌∙◌, arith}
use Rattle.std.specs.Option.{option_map}
use Rattle.std.proofs.lemmas.Bool.{cond-true, cond-false, eqb-true}
use Rattle.il_lexer.specs.Classes.{first_is, first_passes, is_id_start, is_id_part}
use Rattle.il_lexer.specs.Runs.{front, joined, run_of}
use Rattle.il_lexer.specs.Spellings.{id_length, part_length, dotted_part, name_length}
use Rattle.il_lexer.specs.WordList.{word_number}
use Rattle.il_lexer.specs.Tokens.{longer_word, name_or_word, named, lexeme_or}
use Rattle.il_lexer.specs.declared.runs.Run.{Run}
use Rattle.il_lexer.proofs.Fronts.{front-true, first-is-cons}
use Rattle.il_lexer.proofs.RunLemmas.{run-none, run-piece}

-- a byte more at the front
pub front-more : (p : ℕ → Bool) (bs : List ℕ) (n : ℕ) → first_passes p (drop n bs) ≡ true → n + front p (drop n bs) ≡ suc n + front p (drop (suc n) bs)
front-more p [] zero h = cc
front-more p [] (suc n) h = cc
front-more p (b ∷ bs) zero h = omega (arith, front-true p b bs h)
front-more p (b ∷ bs) (suc n) h = omega (arith, front-more p bs n h)

pub within : (p : ℕ → Bool) (bs : List ℕ) (n : ℕ) → first_passes p (drop n bs) ≡ true → n < length bs
within p [] zero h = cc
within p [] (suc n) h = cc
within p (b ∷ bs) zero h = omega arith
within p (b ∷ bs) (suc n) h = omega (arith, within p bs n h)

and-parts : (a b : Bool) → (a && b) ≡ true → (a ≡ true) × (b ≡ true)
and-parts true b h = (refl, h)
and-parts false b h = cc

or_left : (a b : Bool) → a ≡ true → (a || b) ≡ true
or_left true b e = refl
or_left false b e = cc

unquoted : (b : ℕ) → is_id_start b ≡ true → nat_eq b 39 ≡ false
unquoted b h = go (nat_eq b 39) refl
  where
    at_quote : is_id_start 39 ≡ false
    at_quote = refl

    go : (t : Bool) → nat_eq b 39 ≡ t → nat_eq b 39 ≡ false
    go false e = e
    go true e = let same : b ≡ 39 = eqb-true b 39 e in let bad = sym h ∙ ap is_id_start same ∙ at_quote in cc

-- an identifier is a part of a name, with its first byte
part-is : (b : ℕ) (bs : List ℕ) → is_id_start b ≡ true → part_length (b ∷ bs) ≡ Some (front is_id_part (b ∷ bs))
part-is b bs h =
    let f : front is_id_part (b ∷ bs) ≡ 1 + front is_id_part bs = front-true is_id_part b bs (or_left _ _ h) ∙ omega arith in
    cond-false _ _ _ (unquoted b h) ∙ cond-true _ _ _ h ∙ ap (λ (n : ℕ). Some n) (sym f)

part-at : (bs : List ℕ) → first_passes is_id_start bs ≡ true → part_length bs ≡ Some (front is_id_part bs)
part-at [] h = cc
part-at (b ∷ bs) h = part-is b bs h

-- the identifier at the front is its first byte and what goes on behind it
pub id-front : (bs : List ℕ) → first_passes is_id_start bs ≡ true → front is_id_part bs ≡ 1 + front is_id_part (drop 1 bs)
id-front [] h = cc
id-front (b ∷ bs) h = omega (arith, front-true is_id_part b bs (or_left (is_id_start b) _ h))

pub id-length : (bs : List ℕ) → first_passes is_id_start bs ≡ true → id_length bs ≡ Some (front is_id_part bs)
id-length [] h = cc
id-length (b ∷ bs) h =
    let more : 1 + front is_id_part bs ≡ front is_id_part (b ∷ bs) = sym (id-front (b ∷ bs) h) in
    cond-true _ _ _ h ∙ ap (λ (n : ℕ). Some n) more

-- a name that begins with an identifier: that, and the parts behind it
pub name-first : (bs : List ℕ) (n : ℕ) → first_passes is_id_start bs ≡ true → n ≡ front is_id_part bs →
    name_length bs ≡ Some (n + (run_of dotted_part (drop n bs)).bytes)
name-first [] n h e = cc
name-first (b ∷ bs) n h e =
    ap (option_map (λ (m : ℕ). m + (run_of dotted_part (drop m (b ∷ bs))).bytes)) (part-is b bs h ∙ ap (λ (m : ℕ). Some m) (sym e))

-- a dot and an identifier are one part more
pub name-more : (bs : List ℕ) (n m : ℕ) → (first_is 46 (drop n bs) && first_passes is_id_start (drop (n + 1) bs)) ≡ true →
    m ≡ n + 1 + front is_id_part (drop (n + 1) bs) →
    n + (run_of dotted_part (drop n bs)).bytes ≡ m + (run_of dotted_part (drop m bs)).bytes
name-more bs n m h e =
    let both = and-parts (first_is 46 (drop n bs)) (first_passes is_id_start (drop (n + 1) bs)) h in
    let dot = first-is-cons 46 (drop n bs) both.0 in
    let xs = dot.0 in
    let behind : drop (n + 1) bs ≡ xs = sym (drop-drop 1 n bs) ∙ ap (drop 1) dot.1 in
    let starts : first_passes is_id_start xs ≡ true = ap (first_passes is_id_start) (sym behind) ∙ both.1 in
    let f : front is_id_part (drop (n + 1) bs) ≡ front is_id_part xs = ap (front is_id_part) behind in
    let one : 1 + front is_id_part xs ≡ suc (front is_id_part xs) = omega arith in
    let on : run_of dotted_part (46 ∷ xs) ≡ joined (suc (front is_id_part xs)) (run_of dotted_part (drop (front is_id_part xs) xs)) =
    run-piece dotted_part 46 (front is_id_part xs) xs (ap (option_map (λ (k : ℕ). 1 + k)) (part-at xs starts) ∙ ap (λ (k : ℕ). Some k) one) in
    let whole : run_of dotted_part (drop n bs) ≡ joined (suc (front is_id_part xs)) (run_of dotted_part (drop (front is_id_part xs) xs)) =
    ap (run_of dotted_part) dot.1 ∙ on in
    let bytes : (run_of dotted_part (drop n bs)).bytes ≡ suc (front is_id_part xs) + (run_of dotted_part (drop (front is_id_part xs) xs)).bytes =
    ap (λ (r : Run). r.bytes) whole in
    let place : n + 1 + front is_id_part xs ≡ m = omega (arith, e, f) in
    let there : drop (front is_id_part xs) xs ≡ drop m bs =
    ap (drop (front is_id_part xs)) (sym behind) ∙ drop-drop (front is_id_part xs) (n + 1) bs ∙ ap (λ (k : ℕ). drop k bs) place in
    let rest : (run_of dotted_part (drop (front is_id_part xs) xs)).bytes ≡ (run_of dotted_part (drop m bs)).bytes =
    ap (λ (ys : List ℕ). (run_of dotted_part ys).bytes) there in
    omega (arith, bytes, place, rest)

not_part : (bs : List ℕ) → first_passes is_id_start bs ≡ false → first_is 39 bs ≡ false → part_length bs ≡ None
not_part [] h q = refl
not_part (b ∷ bs) h q = cond-false _ _ _ q ∙ cond-false _ _ _ h

no_dotted : (bs : List ℕ) → (first_is 46 bs && first_passes is_id_start (drop 1 bs)) ≡ false →
    (first_is 46 bs && first_is 39 (drop 1 bs)) ≡ false → dotted_part bs ≡ None
no_dotted [] h q = refl
no_dotted (b ∷ bs) h q = go (nat_eq b 46) refl
  where
    go : (t : Bool) → nat_eq b 46 ≡ t → dotted_part (b ∷ bs) ≡ None
    go false e = cond-false _ _ _ e
    go true e =
        let id : first_passes is_id_start bs ≡ false = sym (ap (λ (t : Bool). t && first_passes is_id_start bs) e) ∙ h in
        let quote : first_is 39 bs ≡ false = sym (ap (λ (t : Bool). t && first_is 39 bs) e) ∙ q in
        cond-true _ _ _ e ∙ ap (option_map (λ (k : ℕ). 1 + k)) (not_part bs id quote)

-- behind the whole name stands no part more
pub name-whole : (bs : List ℕ) (n : ℕ) → (first_is 46 (drop n bs) && first_passes is_id_start (drop (n + 1) bs)) ≡ false →
    (first_is 46 (drop n bs) && first_is 39 (drop (n + 1) bs)) ≡ false → n + (run_of dotted_part (drop n bs)).bytes ≡ n
name-whole bs n h q =
    let on : drop (n + 1) bs ≡ drop 1 (drop n bs) = sym (drop-drop 1 n bs) in
    let id : (first_is 46 (drop n bs) && first_passes is_id_start (drop 1 (drop n bs))) ≡ false =
    ap (λ (ys : List ℕ). first_is 46 (drop n bs) && first_passes is_id_start ys) (sym on) ∙ h in
    let quote : (first_is 46 (drop n bs) && first_is 39 (drop 1 (drop n bs))) ≡ false =
    ap (λ (ys : List ℕ). first_is 46 (drop n bs) && first_is 39 ys) (sym on) ∙ q in
    let none : (run_of dotted_part (drop n bs)).bytes ≡ 0 =
    ap (λ (r : Run). r.bytes) (run-none dotted_part (drop n bs) (no_dotted (drop n bs) id quote)) in
    omega (arith, none)

and_none : (a b : Bool) → a ≡ false → (a && b) ≡ false
and_none true b e = cc
and_none false b e = refl

-- an identifier without a dot behind it is a whole name
pub name-alone : (bs : List ℕ) (n : ℕ) → first_passes is_id_start bs ≡ true → n ≡ front is_id_part bs → first_is 46 (drop n bs) ≡ false →
    name_length bs ≡ Some n
name-alone bs n h e apart =
    name-first bs n h e ∙ ap (λ (k : ℕ). Some k) (name-whole bs n (and_none _ _ apart) (and_none _ _ apart))

pub named_plain : (bs : List ℕ) (n : ℕ) → first_is 46 (drop n bs) ≡ false → named bs n ≡ name_or_word bs n (word_number (take n bs))
unfolding named longer_word
named_plain bs n apart = ap (λ x. lexeme_or x (name_or_word bs n (word_number (take n bs)))) (cond-false _ _ _ apart)
