-- Names are read back.
use Rattle.std.proofs.Common.{◌≡◌, inl, inr, ℕ, zero, suc, ◌+◌, ◌-◌, ◌<◌, ◌≤◌, ◌&&◌, ◌||◌, not, nat_lt, nat_eq, Bool, true, false, cond, List, [], ◌∷◌, ◌++◌, map, length, take, drop, is_some, is_none, Some, refl, ap, sym, subst, ◌∙◌, arith, length-append, append-nil}
use Rattle.std.proofs.lemmas.Bool.{and_parts, cases_Bool, eqb-true, ltb-true, false≢true}
use Rattle.std.specs.List.{list_any, list_all}
use Rattle.il_lexer.specs.Classes.{is_id_start, is_id_part}
use Rattle.il_lexer.specs.Spellings.{part_length}
use Rattle.il_lexer.specs.WordList.{word_number}
use Rattle.source_model.specs.Nodes.{id_of_texts}
use Rattle.source_model.specs.Values.{or_zero, unescaped, between_quotes, part_text, part_texts_within, part_texts, dotted, last_text, all_but_last}
use Rattle.listing_leaves.specs.Laws.{has_no_zero, is_name}
use Rattle.listing_leaves.specs.Names as names
use Rattle.listing_leaves.specs.Names.{longer_first, pieces, is_empty, parts_of, type_parts, is_id, is_bracketed, is_bare, part, joined, last_quoted, spelled}
use Rattle.listing_leaves.specs.Texts.{quoted}
use Rattle.listing_values.specs.Laws.{NamesAreRead}
use Rattle.listing_values.proofs.Parts.{ends_part, id_part_is, quoted_part_is}
use Rattle.listing_values.proofs.Texts.{text_read, take_front}

-- ---- parts

-- these bytes are a part of a name, which stands for the text
pub record PartOf (w text : List ℕ) : Type 0 where
  pub some : 0 < length w
  pub ends : (more : List ℕ) → ends_part more ≡ true → part_length (w ++ more) ≡ Some (length w)
  pub stands : part_text w ≡ text

quoted_of : (text : List ℕ) → is_name text ≡ true → PartOf (quoted 39 text) text
unfolding quoted
quoted_of text h =
    let hs = and_parts (nat_lt 0 (length text)) (has_no_zero text) h in
    record { some = omega arith; ends = λ more e. quoted_part_is text more hs.1 (ltb-true 0 (length text) hs.0); stands = text_read 39 refl text }

id_of : (text : List ℕ) → is_id text ≡ true → PartOf text text
id_of [] h = absurd (false≢true h)
id_of (b ∷ bs) h =
    let start = (and_parts (is_id_start b) (list_all is_id_part bs) h).0 in
    record {
      some = omega arith;
      ends = λ more e. id_part_is (b ∷ bs) more h e;
      stands = ap (λ c. cond c (unescaped (between_quotes (b ∷ bs))) (b ∷ bs)) (no_quote b start);
    }
  where
    no_quote : (b : ℕ) → is_id_start b ≡ true → nat_eq b 39 ≡ false
    no_quote b s = elim (cases_Bool (nat_eq b 39)) [
      | inl e ↦ absurd (false≢true (sym (subst (λ i. is_id_start i ≡ false) (sym (eqb-true b 39 e)) refl) ∙ s))
      | inr e ↦ e
    ]

part_by : (text : List ℕ) (b : Bool) → is_bare text ≡ b → is_name text ≡ true → PartOf (cond b text (quoted 39 text)) text
part_by text true e h =
    id_of text (and_parts (is_id text) (is_none (word_number text)) (and_parts (is_id text && is_none (word_number text)) (not (is_bracketed text)) e).0).0
part_by text false e h = quoted_of text h

part_of : (text : List ℕ) → is_name text ≡ true → PartOf (part text) text
part_of text h = part_by text (is_bare text) refl h

-- ---- parts joined by dots

abbrev AreParts : List (List ℕ) → List (List ℕ) → Type 0
AreParts [] [] = Unit {0}
AreParts [] (t ∷ ts) = ⊥
AreParts (w ∷ ws) [] = ⊥
AreParts (w ∷ ws) (t ∷ ts) = PartOf w t × AreParts ws ts

drop_past : (xs ys : List ℕ) → drop (length xs + 1) (xs ++ ys) ≡ drop 1 ys
drop_past [] ys = refl
drop_past (x ∷ xs) ys = let e : suc (length xs) + 1 ≡ suc (length xs + 1) = omega arith in ap (λ n. drop n (x ∷ (xs ++ ys))) e ∙ drop_past xs ys

part_step : (w text : List ℕ) → PartOf w text → (more : List ℕ) → ends_part more ≡ true → (steps : ℕ) →
    part_texts_within (suc steps) (w ++ more) ≡ text ∷ part_texts_within steps (drop 1 more)
part_step [] text p more e steps = let some = p.some in absurd (omega arith)
part_step (b ∷ bs) text p more e steps =
    let all = (b ∷ bs) ++ more in
    ap (λ o. part_text (take (or_zero o) all) ∷ part_texts_within steps (drop (or_zero o + 1) all)) (p.ends more e)
    ∙ (ap (λ t. part_text t ∷ part_texts_within steps (drop (length (b ∷ bs) + 1) all)) (take_front (b ∷ bs) more)
    ∙ (ap (λ t. t ∷ part_texts_within steps (drop (length (b ∷ bs) + 1) all)) p.stands
    ∙ ap (λ t. text ∷ part_texts_within steps t) (drop_past (b ∷ bs) more)))

none_left : (steps : ℕ) → part_texts_within steps [] ≡ []
none_left zero = refl
none_left (suc steps) = refl

joined_read : (ws ts : List (List ℕ)) → AreParts ws ts → (steps : ℕ) → length (joined ws) ≤ steps → part_texts_within steps (joined ws) ≡ ts
joined_read [] [] p steps le = none_left steps
joined_read [] (t ∷ ts) p steps le = absurd p
joined_read (w ∷ ws) [] p steps le = absurd p
joined_read (w ∷ []) (t ∷ []) p zero le = let some = p.0.some in absurd (omega arith)
joined_read (w ∷ []) (t ∷ []) p (suc steps) le =
    ap (part_texts_within (suc steps)) (sym (append-nil w)) ∙ (part_step w t p.0 [] refl steps ∙ ap (λ us. t ∷ us) (none_left steps))
joined_read (w ∷ []) (t ∷ u ∷ ts) p steps le = absurd p.1
joined_read (w ∷ v ∷ ws) (t ∷ []) p steps le = absurd p.1
joined_read (w ∷ v ∷ ws) (t ∷ u ∷ ts) p zero le =
    let some = p.0.some in
    let long = length-append w (46 ∷ joined (v ∷ ws)) in
    absurd (omega arith)
joined_read (w ∷ v ∷ ws) (t ∷ u ∷ ts) p (suc steps) le =
    let some = p.0.some in
    let long = length-append w (46 ∷ joined (v ∷ ws)) in
    part_step w t p.0 (46 ∷ joined (v ∷ ws)) refl steps ∙ ap (λ us. t ∷ us) (joined_read (v ∷ ws) (u ∷ ts) p.1 steps (omega arith))

parts_are : (ts : List (List ℕ)) → list_all is_name ts ≡ true → AreParts (map part ts) ts
parts_are [] h = tt
parts_are (t ∷ ts) h = let hs = and_parts (is_name t) (list_all is_name ts) h in (part_of t hs.0, parts_are ts hs.1)

last_are : (ts : List (List ℕ)) → list_all is_name ts ≡ true → AreParts (last_quoted ts) ts
last_are [] h = tt
last_are (t ∷ []) h = (quoted_of t (and_parts (is_name t) true h).0, tt)
last_are (t ∷ u ∷ ts) h = let hs = and_parts (is_name t) (list_all is_name (u ∷ ts)) h in (part_of t hs.0, last_are (u ∷ ts) hs.1)

spelled_by : (ts : List (List ℕ)) (b : Bool) → list_all is_name ts ≡ true → part_texts (cond b (joined (last_quoted ts)) (joined (map part ts))) ≡ ts
unfolding part_texts
spelled_by ts true h = joined_read (last_quoted ts) ts (last_are ts h) (length (joined (last_quoted ts))) (omega arith)
spelled_by ts false h = joined_read (map part ts) ts (parts_are ts h) (length (joined (map part ts))) (omega arith)

spelled_read : (ts : List (List ℕ)) → list_all is_name ts ≡ true → part_texts (spelled ts) ≡ ts
unfolding spelled
spelled_read ts h = spelled_by ts (is_some (word_number (joined (map part ts)))) h

-- ---- the pieces of a text

-- a list that isn't empty
abbrev HasOne : List (List ℕ) → Type 0
HasOne [] = ⊥
HasOne (t ∷ ts) = Unit {0}

longer_some : (b : ℕ) (ps : List (List ℕ)) → HasOne (longer_first b ps)
longer_some b [] = tt
longer_some b (p ∷ ps) = tt

pieces_by : (b : ℕ) (bs : List ℕ) (c : Bool) → HasOne (cond c ([] ∷ pieces bs) (longer_first b (pieces bs)))
pieces_by b bs true = tt
pieces_by b bs false = longer_some b (pieces bs)

some_pieces : (bs : List ℕ) → HasOne (pieces bs)
some_pieces [] = tt
some_pieces (b ∷ bs) = pieces_by b bs (nat_eq b 46)

dot_first : (ps : List (List ℕ)) → HasOne ps → dotted ([] ∷ ps) ≡ 46 ∷ dotted ps
dot_first [] h = absurd h
dot_first (p ∷ ps) h = refl

byte_first : (b : ℕ) (ps : List (List ℕ)) → HasOne ps → dotted (longer_first b ps) ≡ b ∷ dotted ps
byte_first b [] h = absurd h
byte_first b (p ∷ []) h = refl
byte_first b (p ∷ q ∷ ps) h = refl

dotted_by : (b : ℕ) (bs : List ℕ) (c : Bool) → nat_eq b 46 ≡ c → dotted (pieces bs) ≡ bs → dotted (cond c ([] ∷ pieces bs) (longer_first b (pieces bs))) ≡ b ∷ bs
dotted_by b bs true e h = dot_first (pieces bs) (some_pieces bs) ∙ (ap (λ t. 46 ∷ t) h ∙ ap (λ c. c ∷ bs) (sym (eqb-true b 46 e)))
dotted_by b bs false e h = byte_first b (pieces bs) (some_pieces bs) ∙ ap (λ t. b ∷ t) h

dotted_pieces : (bs : List ℕ) → dotted (pieces bs) ≡ bs
dotted_pieces [] = refl
dotted_pieces (b ∷ bs) = dotted_by b bs (nat_eq b 46) refl (dotted_pieces bs)

some_length : (n : ℕ) → nat_lt 0 (suc n) ≡ true
some_length n = grind arith

both : (x y : Bool) → x ≡ true → y ≡ true → (x && y) ≡ true
both true y f g = g
both false y f g = f

longer_clear : (b : ℕ) (ps : List (List ℕ)) → nat_lt 0 b ≡ true → list_all has_no_zero ps ≡ true → list_all has_no_zero (longer_first b ps) ≡ true
longer_clear b [] h k = both _ _ (both _ _ h refl) refl
longer_clear b (p ∷ ps) h k =
    let ks = and_parts (has_no_zero p) (list_all has_no_zero ps) k in both _ _ (both _ _ h ks.0) ks.1

pieces_clear_by : (b : ℕ) (bs : List ℕ) (c : Bool) → nat_lt 0 b ≡ true → list_all has_no_zero (pieces bs) ≡ true →
    list_all has_no_zero (cond c ([] ∷ pieces bs) (longer_first b (pieces bs))) ≡ true
pieces_clear_by b bs true h k = k
pieces_clear_by b bs false h k = longer_clear b (pieces bs) h k

pieces_clear : (bs : List ℕ) → has_no_zero bs ≡ true → list_all has_no_zero (pieces bs) ≡ true
pieces_clear [] h = refl
pieces_clear (b ∷ bs) h =
    let hs = and_parts (nat_lt 0 b) (has_no_zero bs) h in pieces_clear_by b bs (nat_eq b 46) hs.0 (pieces_clear bs hs.1)

-- texts of which none is empty are names
names_by : (ts : List (List ℕ)) → list_any is_empty ts ≡ false → list_all has_no_zero ts ≡ true → list_all is_name ts ≡ true
names_by [] e h = refl
names_by ([] ∷ ts) e h = absurd (false≢true (sym e))
names_by ((b ∷ bs) ∷ ts) e h =
    let hs = and_parts (has_no_zero (b ∷ bs)) (list_all has_no_zero ts) h in
    both _ _ (both _ _ (some_length (length bs)) hs.0) (names_by ts (others b bs (list_any is_empty ts) e) hs.1)
  where
    others : (b : ℕ) (bs : List ℕ) (c : Bool) → (is_empty (b ∷ bs) || c) ≡ false → c ≡ false
    others b bs true e = grind (arith, e)
    others b bs false e = refl

parts_by : (text : List ℕ) (c : Bool) → list_any is_empty (pieces text) ≡ c → is_name text ≡ true →
    (list_all is_name (cond c (text ∷ []) (pieces text)) ≡ true) × (dotted (cond c (text ∷ []) (pieces text)) ≡ text)
parts_by text true e h = (both _ _ h refl, refl)
parts_by text false e h = (names_by (pieces text) e (pieces_clear text (and_parts (nat_lt 0 (length text)) (has_no_zero text) h).1), dotted_pieces text)

parts_named : (text : List ℕ) → is_name text ≡ true → (list_all is_name (parts_of text) ≡ true) × (dotted (parts_of text) ≡ text)
parts_named text h = parts_by text (list_any is_empty (pieces text)) refl h

-- ---- names

name_read : (text : List ℕ) → is_name text ≡ true → dotted (part_texts (names.name text)) ≡ text
unfolding names.name
name_read text h = let p = parts_named text h in ap dotted (spelled_read (parts_of text) p.0) ∙ p.1

scope_read : (text : List ℕ) → is_name text ≡ true → dotted (part_texts (between_quotes (names.scope text))) ≡ text
unfolding names.scope
scope_read text h = ap (λ t. dotted (part_texts t)) (in_brackets (names.name text)) ∙ name_read text h
  where
    in_brackets : (t : List ℕ) → between_quotes (91 ∷ (t ++ 93 ∷ [])) ≡ t
    in_brackets t =
        let long = length-append t (93 ∷ []) in
        let count : suc (length (t ++ 93 ∷ [])) - 2 ≡ length t = omega arith in
        ap (λ k. take k (t ++ 93 ∷ [])) count ∙ take_front t (93 ∷ [])

-- ---- names of types

all_append : (xs : List (List ℕ)) (t : List ℕ) → list_all is_name xs ≡ true → is_name t ≡ true → list_all is_name (xs ++ t ∷ []) ≡ true
all_append [] t h k = both _ _ k refl
all_append (x ∷ xs) t h k = let hs = and_parts (is_name x) (list_all is_name xs) h in both _ _ hs.0 (all_append xs t hs.1 k)

front_is : (xs : List (List ℕ)) (t : List ℕ) → all_but_last (xs ++ t ∷ []) ≡ xs
front_is [] t = refl
front_is (x ∷ []) t = refl
front_is (x ∷ y ∷ xs) t = ap (λ ts. x ∷ ts) (front_is (y ∷ xs) t)

last_is : (xs : List (List ℕ)) (t : List ℕ) → last_text (xs ++ t ∷ []) ≡ t
last_is [] t = refl
last_is (x ∷ []) t = refl
last_is (x ∷ y ∷ xs) t = last_is (y ∷ xs) t

space_by : (space : List ℕ) (c : Bool) → is_empty space ≡ c → has_no_zero space ≡ true →
    (list_all is_name (cond c [] (parts_of space)) ≡ true) × (dotted (cond c [] (parts_of space)) ≡ space)
space_by [] true e h = (refl, refl)
space_by (b ∷ bs) true e h = absurd (grind (arith, e))
space_by [] false e h = absurd (false≢true (sym e))
space_by (b ∷ bs) false e h = parts_named (b ∷ bs) (both _ _ (some_length (length bs)) h)

type_name_read : (space text : List ℕ) → has_no_zero space ≡ true → is_name text ≡ true →
    id_of_texts (part_texts (names.type_name space text)) ≡ record { space = space; name = text }
unfolding names.type_name
type_name_read space text h k =
    let s = space_by space (is_empty space) refl h in
    let front = cond (is_empty space) [] (parts_of space) in
    ap id_of_texts (spelled_read (front ++ text ∷ []) (all_append front text s.0 k))
    ∙ (λ i. record { space = (ap dotted (front_is front text) ∙ s.1) i; name = last_is front text i })

pub names_are_read : NamesAreRead
names_are_read = record { name = name_read; scope = scope_read; type_name = type_name_read }
