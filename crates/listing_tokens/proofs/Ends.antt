-- Each token of a listing ends before what stands behind it.
use Rattle.std.proofs.Common.{◌≡◌, ◌⊎◌, inl, inr, ℕ, zero, suc, ◌+◌, ◌*◌, ◌<◌, ◌≤◌, ◌&&◌, ◌||◌, not, nat_le, nat_eq, Bool, true, false, cond, List, [], ◌∷◌, ◌++◌, length, Some, refl, sym, subst, ap, ◌∙◌, append_assoc, arith}
use Rattle.std.proofs.lemmas.Bool.{and_parts, cases_Bool, or_cases, eqb-true, leb-true, false≢true}
use Rattle.std.specs.List.{list_any, list_all}
use Rattle.std.specs.Prelude.{⊤, codes, slice_index_or}
use Rattle.std.specs.Str.{bytes_eq}
use Rattle.il_lexer.specs.Classes.{is_blank, is_digit, is_hex, is_id_start, is_id_part, first_passes}
use Rattle.il_lexer.specs.Longest.{ends_word, ends_parenthesis, ends_before_bytes, gap_begins}
use Rattle.il_lexer.specs.Spelled.{Each, IsSpelling, IsName, IsPart, IsId, IsDecimal}
use Rattle.il_lexer.specs.WordList.{words}
use Rattle.il_lexer.specs.declared.types.TokenKind.{TokenKind}
use Rattle.il_lexer.specs.declared.types.TokenKind.TheVariants.{Name, Scope, Int, QString, EqBytes, ByteArray, RealBytes, Hash, Unused, Word}
use Rattle.il_lexer.specs.declared.word.TheConstants as word
use Rattle.listing_leaves.specs.Laws.{IsLeaf, is_end}
use Rattle.listing_model.specs.Shown.{Leaf}
use Rattle.listing_model.specs.Text.{State, is_one_of, is_the, is_int, shuts_behind, shuts_before, joins_integer, has_blank, line_end, blanks, line_depth, gap, next, text_from}
use Rattle.listing_tokens.proofs.Sound.{is_name_kind, next_passes, closes_name, opens_with, opens, is_value, is_bound, no_colon, passes}

-- ---- what stands behind a token

-- the bytes behind a token of a kind: the leaves, and the end of the last line
abbrev pub behind : State → List Leaf → List ℕ
behind s ls = text_from s ls ++ 10 ∷ []

-- each leaf is spelled, and ends before those behind it
abbrev pub AreFine : List Leaf → Type 0
AreFine [] = ⊤
AreFine (l ∷ ls) = IsLeaf l.kind l.text × (passes l.kind ls ≡ true) × AreFine ls

-- some bytes begin with one that ends a token
pub record BeginsWithEnd (bytes : List ℕ) : Type 0 where
  pub first : ℕ
  pub rest : List ℕ
  pub is : bytes ≡ first ∷ rest
  pub ends : is_end first ≡ true

-- what holds of each item of a list holds of one that is among them
pub among : (f : ℕ → Bool) (xs : List ℕ) (c : ℕ) → list_any (λ e. nat_eq e c) xs ≡ true → list_all f xs ≡ true → f c ≡ true
among f [] c h a = absurd (false≢true h)
among f (x ∷ xs) c h a =
    let both = and_parts (f x) (list_all f xs) a in
    elim (cases_Bool (nat_eq x c)) [
      | inl e ↦ subst (λ n. f n ≡ true) (eqb-true x c e) both.0
      | inr e ↦ among f xs c (subst (λ b. (b || list_any (λ e. nat_eq e c) xs) ≡ true) e h) both.1
    ]

-- the same for a token that is one of some words
pub one_of : (f : ℕ → Bool) (xs : List ℕ) (kind : TokenKind) → is_one_of xs kind ≡ true → list_all f xs ≡ true → (k : ℕ) × (kind ≡ Word k) × (f k ≡ true)
one_of f xs (Word k) h a = (k, refl, among f xs k h a)
one_of f xs Name h a = absurd (false≢true h)
one_of f xs Scope h a = absurd (false≢true h)
one_of f xs Int h a = absurd (false≢true h)
one_of f xs QString h a = absurd (false≢true h)
one_of f xs EqBytes h a = absurd (false≢true h)
one_of f xs ByteArray h a = absurd (false≢true h)
one_of f xs RealBytes h a = absurd (false≢true h)
one_of f xs Hash h a = absurd (false≢true h)
one_of f xs Unused h a = absurd (false≢true h)

-- ---- words of the table

abbrev pub word_text : ℕ → List ℕ
word_text k = slice_index_or words k []

-- the text of a word
pub worded : (l : Leaf) (k : ℕ) → l.kind ≡ Word k → IsLeaf l.kind l.text → word_text k ≡ l.text
worded l k e h = let s : IsSpelling (Word k) l.text = subst (λ kind. IsSpelling kind l.text) e h.spelled in s.1

abbrev first_ends : List ℕ → Bool
first_ends [] = false
first_ends (b ∷ bs) = is_end b

pub begins : (bytes more : List ℕ) → first_ends bytes ≡ true → BeginsWithEnd (bytes ++ more)
begins [] more h = absurd (false≢true h)
begins (b ∷ bs) more h = record { first = b; rest = bs ++ more; is = refl; ends = h }

-- the marks that no blank stands before
abbrev marks : List ℕ
marks =
    word.COMMA ∷ word.CLOSE_PAREN ∷ word.CLOSE_BRACKET ∷ word.GREATER ∷ word.COLON ∷ word.DOUBLE_COLON ∷ word.SLASH ∷ word.OPEN_PAREN
    ∷ word.OPEN_BRACKET ∷ word.LESS ∷ word.AMPERSAND ∷ word.STAR ∷ []

-- marks with nothing before them begin with such a byte
marks_end : list_all (λ k. first_ends (word_text k)) marks ≡ true
unfolding words
marks_end = refl

-- ---- the blank before a token

-- what stands behind, where no line begins there
pub within : (s : State) (m : Leaf) (ms : List Leaf) (kind : TokenKind) → s.last ≡ Some kind → m.starts ≡ false →
    behind s (m ∷ ms) ≡ gap (Some kind) m ++ (m.text ++ behind (next s m) ms)
within s m ms kind e h =
    ap (λ b. (cond b (line_end s.last ++ blanks (2 * line_depth s.depth m)) (gap s.last m) ++ (m.text ++ text_from (next s m) ms)) ++ 10 ∷ []) h
    ∙ (ap (λ o. (gap o m ++ (m.text ++ text_from (next s m) ms)) ++ 10 ∷ []) e
    ∙ (append_assoc (gap (Some kind) m) (m.text ++ text_from (next s m) ms) (10 ∷ [])
    ∙ ap (λ t. gap (Some kind) m ++ t) (append_assoc m.text (text_from (next s m) ms) (10 ∷ []))))

pub starts_line : (s : State) (m : Leaf) (ms : List Leaf) (kind : TokenKind) → s.last ≡ Some kind → m.starts ≡ true → BeginsWithEnd (behind s (m ∷ ms))
starts_line s m ms kind e h =
    let is =
    ap (λ b. (cond b (line_end s.last ++ blanks (2 * line_depth s.depth m)) (gap s.last m) ++ (m.text ++ text_from (next s m) ms)) ++ 10 ∷ []) h
    ∙ ap (λ o. ((line_end o ++ blanks (2 * line_depth s.depth m)) ++ (m.text ++ text_from (next s m) ms)) ++ 10 ∷ []) e in
    record { first = 10; rest = (blanks (2 * line_depth s.depth m) ++ (m.text ++ text_from (next s m) ms)) ++ 10 ∷ []; is = is; ends = refl }

pub with_blank : (kind : TokenKind) (m : Leaf) (more : List ℕ) → has_blank kind m ≡ true → gap (Some kind) m ++ more ≡ 32 ∷ more
with_blank kind m more h = ap (λ b. cond b (32 ∷ []) [] ++ more) h

no_blank : (kind : TokenKind) (m : Leaf) (more : List ℕ) → has_blank kind m ≡ false → gap (Some kind) m ++ more ≡ more
no_blank kind m more h = ap (λ b. cond b (32 ∷ []) [] ++ more) h

-- no blank where there could be one, so a mark stands there
or_mark : (c s a b j : Bool) → (c || (not s && (a || not (b || j)))) ≡ false → s ≡ false → j ≡ false → b ≡ true
or_mark c s a true j h e f = refl
or_mark true s a false j h e f = absurd (false≢true (sym h))
or_mark false true a false j h e f = absurd (false≢true (sym e))
or_mark false false true false j h e f = absurd (false≢true (sym h))
or_mark false false false false true h e f = absurd (false≢true (sym f))
or_mark false false false false false h e f = absurd (false≢true (sym h))

-- Behind a token that shuts out no blank stands a byte that ends tokens, but where an integer joins.
pub then_end_at : (s : State) (m : Leaf) (ms : List Leaf) (kind : TokenKind) → s.last ≡ Some kind → IsLeaf m.kind m.text → shuts_behind kind ≡ false →
    joins_integer kind m.kind ≡ false → BeginsWithEnd (behind s (m ∷ ms))
then_end_at s m ms kind e f quiet apart =
    elim (cases_Bool m.starts) [
      | inl h ↦ starts_line s m ms kind e h
      | inr h ↦ elim (cases_Bool (has_blank kind m)) [
        | inl b ↦ record { first = 32; rest = m.text ++ behind (next s m) ms; is = within s m ms kind e h ∙ with_blank kind m (m.text ++ behind (next s m) ms) b; ends = refl }
        | inr b ↦
            let mark = or_mark (is_the word.COMMA kind) (shuts_behind kind) m.apart (shuts_before m.kind) (joins_integer kind m.kind) b quiet apart in
            let is = one_of (λ k. first_ends (word_text k)) marks m.kind mark marks_end in
            let text = worded m is.0 is.1 f in
            let first = begins m.text (behind (next s m) ms) (subst (λ t. first_ends t ≡ true) text is.2) in
            record { first = first.first; rest = first.rest; is = within s m ms kind e h ∙ (no_blank kind m (m.text ++ behind (next s m) ms) b ∙ first.is); ends = first.ends }
      ]
    ]

pub then_end : (s : State) (ls : List Leaf) (kind : TokenKind) → s.last ≡ Some kind → AreFine ls → shuts_behind kind ≡ false →
    ((other : TokenKind) → joins_integer kind other ≡ false) → BeginsWithEnd (behind s ls)
then_end s [] kind e f quiet apart = record { first = 10; rest = []; is = refl; ends = refl }
then_end s (m ∷ ms) kind e f quiet apart = then_end_at s m ms kind e f.0 quiet (apart m.kind)

-- ---- what a word's text isn't

-- such a text may go on with a byte that ends other tokens
abbrev pub goes_far : List ℕ → Bool
goes_far w = bytes_eq w (codes ":") || bytes_eq w (codes "/") || bytes_eq w (codes "=") || bytes_eq w (codes "(") || bytes_eq w (codes "bytearray")

abbrev pub is_far : ℕ → Bool
is_far k = nat_eq k word.COLON || nat_eq k word.SLASH || nat_eq k word.EQUALS || nat_eq k word.OPEN_PAREN || nat_eq k word.BYTEARRAY

-- a test of each word by its number
abbrev tested : (ℕ → List ℕ → Bool) → ℕ → List (List ℕ) → Bool
tested t k [] = true
tested t k (w ∷ ws) = t k w && tested t (suc k) ws

pub tested_at : (t : ℕ → List ℕ → Bool) (j : ℕ) (ws : List (List ℕ)) → tested t j ws ≡ true → (k : ℕ) → k < length ws → t (j + k) (slice_index_or ws k []) ≡ true
tested_at t j [] h k low = absurd (omega arith)
tested_at t j (w ∷ ws) h zero low = let e : j ≡ j + 0 = omega arith in subst (λ i. t i w ≡ true) e (and_parts (t j w) (tested t (suc j) ws) h).0
tested_at t j (w ∷ ws) h (suc k) low =
    let e : suc j + k ≡ j + suc k = omega arith in
    let less : k < length ws = omega arith in
    subst (λ i. t i (slice_index_or ws k []) ≡ true) e (tested_at t (suc j) ws (and_parts (t j w) (tested t (suc j) ws) h).1 k less)

abbrev pub near_test : ℕ → List ℕ → Bool
near_test k w = is_far k || not (goes_far w)

pub all_near : tested near_test 0 words ≡ true
unfolding words
all_near = refl

-- behind `(`: no byte of a gap at the front, and no pair of digits with one behind it
abbrev third_is_safe : List ℕ → Bool
third_is_safe [] = true
third_is_safe (d ∷ ds) = not (is_blank d || nat_eq d 47)

abbrev second_is_safe : List ℕ → Bool
second_is_safe [] = true
second_is_safe (c ∷ cs) = not (is_hex c) || third_is_safe cs

abbrev is_inner_safe : List ℕ → Bool
is_inner_safe [] = false
is_inner_safe (b ∷ bs) = not (is_blank b || nat_eq b 47) && (not (is_hex b) || second_is_safe bs)

-- and what stands behind the text doesn't matter
abbrev third_is_there : List ℕ → Bool
third_is_there [] = false
third_is_there (d ∷ ds) = not (is_blank d || nat_eq d 47)

abbrev second_is_there : List ℕ → Bool
second_is_there [] = false
second_is_there (c ∷ cs) = not (is_hex c) || third_is_there cs

abbrev is_safe : List ℕ → Bool
is_safe [] = false
is_safe (b ∷ bs) = not (is_blank b || nat_eq b 47) && (not (is_hex b) || second_is_there bs)

abbrev safe_test : ℕ → List ℕ → Bool
safe_test k w = nat_eq k word.SLASH || is_safe w

all_safe : tested safe_test 0 words ≡ true
unfolding words
all_safe = refl

-- the texts of values, behind a blank
abbrev begins_value : List ℕ → Bool
begins_value [] = false
begins_value (b ∷ bs) = not (is_blank b) && not (nat_eq b 40 || nat_eq b 47)

abbrev value_test : ℕ → Bool
value_test k = not (shuts_before (Word k)) && begins_value (word_text k)

-- the words that begin a value
abbrev value_words : List ℕ
value_words =
    word.INT8 ∷ word.INT16 ∷ word.INT32 ∷ word.INT64 ∷ word.UINT8 ∷ word.UINT16 ∷ word.UINT32 ∷ word.UINT64 ∷ word.BOOL ∷ word.CHAR
    ∷ word.FLOAT32 ∷ word.FLOAT64 ∷ word.NULLREF ∷ []

values_begin : list_all value_test value_words ≡ true
unfolding words
values_begin = refl

-- ---- the first byte of a text

abbrev first_of : (ℕ → Bool) → List ℕ → Bool
first_of t [] = false
first_of t (b ∷ bs) = t b

pub record Begun (t : ℕ → Bool) (bytes : List ℕ) : Type 0 where
  pub first : ℕ
  pub rest : List ℕ
  pub is : bytes ≡ first ∷ rest
  pub passes : t first ≡ true

begun : (t : ℕ → Bool) (w more : List ℕ) → first_of t w ≡ true → Begun t (w ++ more)
begun t [] more h = absurd (false≢true h)
begun t (b ∷ bs) more h = record { first = b; rest = bs ++ more; is = refl; passes = h }

-- an integer begins with a digit or `-`
abbrev is_int_start : ℕ → Bool
is_int_start b = is_digit b || nat_eq b 45

decimal_first : (w : List ℕ) → IsDecimal w → first_of is_int_start w ≡ true
decimal_first [] h = absurd h
decimal_first (b ∷ bs) h = ap (λ x. x || nat_eq b 45) h.0

int_first : (w : List ℕ) → IsSpelling Int w → first_of is_int_start w ≡ true
int_first w (inl (inl h)) = decimal_first w h
int_first w (inl (inr (digits, h, e))) = subst (λ x. first_of is_int_start x ≡ true) (sym e) refl
int_first w (inr (inl (digits, h, e))) = subst (λ x. first_of is_int_start x ≡ true) (sym e) refl
int_first w (inr (inr (digits, (ds, h, e), f))) = subst (λ x. first_of is_int_start x ≡ true) (sym f) refl

-- a name begins with a byte that begins identifiers, or with a quote
abbrev is_name_start : ℕ → Bool
is_name_start b = is_id_start b || nat_eq b 39

id_first : (w : List ℕ) → IsId w → first_of is_name_start w ≡ true
id_first [] h = absurd h
id_first (b ∷ bs) h = ap (λ x. x || nat_eq b 39) h.0

part_first : (w : List ℕ) → IsPart w → first_of is_name_start w ≡ true
part_first w (inl h) = id_first w h
part_first w (inr (text, t, some, e)) = subst (λ x. first_of is_name_start x ≡ true) (sym e) refl

front : (t : ℕ → Bool) (w more : List ℕ) → first_of t w ≡ true → first_of t (w ++ more) ≡ true
front t [] more h = absurd (false≢true h)
front t (b ∷ bs) more h = h

name_first : (w : List ℕ) → IsName w → first_of is_name_start w ≡ true
name_first w (IsName.part h) = part_first w h
name_first w (IsName.dotted {first = first} {rest = rest} h more e) =
    subst (λ x. first_of is_name_start x ≡ true) (sym e) (front is_name_start first (46 ∷ rest) (part_first first h))

-- ---- texts behind `(`

apart_hex : (b : ℕ) → nat_eq b 39 ≡ true → is_hex b ≡ false
apart_hex b h = subst (λ x. is_hex x ≡ false) (sym (eqb-true b 39 h)) refl

part_byte : (d : ℕ) → is_id_part d ≡ true → not (is_blank d || nat_eq d 47) ≡ true
part_byte d h = grind (arith, h)

start_byte : (b : ℕ) → is_id_start b ≡ true → not (is_blank b || nat_eq b 47) ≡ true
start_byte b h = grind (arith, h)

digit_byte : (b : ℕ) → is_digit b ≡ true → not (is_blank b || nat_eq b 47) ≡ true
digit_byte b h = grind (arith, h)

both : (x y : Bool) → x ≡ true → y ≡ true → (x && y) ≡ true
both true y h k = k
both false y h k = h

second_or : (x y : Bool) → y ≡ true → (x || y) ≡ true
second_or true y h = refl
second_or false y h = h

id_second : (t : List ℕ → Bool) (bs : List ℕ) → Each is_id_part bs → second_is_safe bs ≡ true
id_second t [] h = refl
id_second t (c ∷ []) h = second_or (not (is_hex c)) true refl
id_second t (c ∷ d ∷ ds) h = second_or (not (is_hex c)) _ (part_byte d h.1.0)

digit_second : (bs : List ℕ) → Each is_digit bs → second_is_safe bs ≡ true
digit_second [] h = refl
digit_second (c ∷ []) h = second_or (not (is_hex c)) true refl
digit_second (c ∷ d ∷ ds) h = second_or (not (is_hex c)) _ (digit_byte d h.1.0)

decimal_safe : (w : List ℕ) → IsDecimal w → is_inner_safe w ≡ true
decimal_safe [] h = absurd h
decimal_safe (b ∷ bs) h = both _ _ (digit_byte b h.0) (second_or (not (is_hex b)) _ (digit_second bs h.1))

int_safe : (w : List ℕ) → IsSpelling Int w → is_inner_safe w ≡ true
int_safe w (inl (inl h)) = decimal_safe w h
int_safe w (inl (inr (digits, h, e))) = subst (λ x. is_inner_safe x ≡ true) (sym e) refl
int_safe w (inr (inl (digits, h, e))) = subst (λ x. is_inner_safe x ≡ true) (sym e) refl
int_safe w (inr (inr (digits, (ds, h, e), f))) = subst (λ x. is_inner_safe x ≡ true) (sym f) refl

id_safe : (w : List ℕ) → IsId w → is_inner_safe w ≡ true
id_safe [] h = absurd h
id_safe (b ∷ bs) h = both _ _ (start_byte b h.0) (second_or (not (is_hex b)) _ (id_second is_inner_safe bs h.1))

-- an identifier before a dot
dotted_second : (bs rest : List ℕ) → Each is_id_part bs → second_is_safe (bs ++ 46 ∷ rest) ≡ true
dotted_second [] rest h = refl
dotted_second (c ∷ []) rest h = second_or (not (is_hex c)) true refl
dotted_second (c ∷ d ∷ ds) rest h = second_or (not (is_hex c)) _ (part_byte d h.1.0)

dotted_safe : (w rest : List ℕ) → IsId w → is_inner_safe (w ++ 46 ∷ rest) ≡ true
dotted_safe [] rest h = absurd h
dotted_safe (b ∷ bs) rest h = both _ _ (start_byte b h.0) (second_or (not (is_hex b)) _ (dotted_second bs rest h.1))

name_safe : (w : List ℕ) → IsName w → is_inner_safe w ≡ true
name_safe w (IsName.part (inl h)) = id_safe w h
name_safe w (IsName.part (inr (text, t, some, e))) = subst (λ x. is_inner_safe x ≡ true) (sym e) refl
name_safe w (IsName.dotted {first = first} {rest = rest} (inl h) more e) = subst (λ x. is_inner_safe x ≡ true) (sym e) (dotted_safe first rest h)
name_safe w (IsName.dotted {first = first} {rest = rest} (inr (text, t, some, g)) more e) =
    subst (λ x. is_inner_safe x ≡ true) (sym (e ∙ ap (λ x. x ++ 46 ∷ rest) g)) refl

-- ---- `(` before a text

no_gap : (d : ℕ) (y : Bool) → not (is_blank d || nat_eq d 47) ≡ true → (is_blank d || (nat_eq d 47 && y)) ≡ false
no_gap d y h = grind (arith, h)

both_not : (x y : Bool) → x ≡ false → y ≡ false → (not x && not y) ≡ true
both_not false false h k = refl
both_not true y h k = absurd (false≢true (sym h))
both_not false true h k = absurd (false≢true (sym k))

-- no pair with a gap behind it
no_pair : (x y z : Bool) → (not x || (not y || not z)) ≡ true → (x && y && z) ≡ false
no_pair false y z h = refl
no_pair true false z h = refl
no_pair true true false h = refl
no_pair true true true h = absurd (false≢true h)

first_or : (x y : Bool) → x ≡ true → (x || y) ≡ true
first_or true y h = refl
first_or false y h = absurd (false≢true h)

not_false : (x : Bool) → x ≡ false → not x ≡ true
not_false false h = refl
not_false true h = absurd (false≢true (sym h))

-- a text that is safe whatever stands behind it
safe_ends : (w more : List ℕ) → is_safe w ≡ true → ends_parenthesis (w ++ more) ≡ true
safe_ends [] more h = absurd (false≢true h)
safe_ends (b ∷ []) more h =
    let hs = and_parts _ _ h in
    let none : is_hex b ≡ false = grind (arith, hs.1) in
    both_not _ _ (no_gap b _ hs.0) (no_pair (is_hex b) _ _ (first_or (not (is_hex b)) _ (not_false (is_hex b) none)))
safe_ends (b ∷ c ∷ []) more h =
    let hs = and_parts _ _ h in
    let none : (not (is_hex b) || not (is_hex c)) ≡ true = grind (arith, hs.1) in
    both_not _ _ (no_gap b _ hs.0) (no_pair (is_hex b) (is_hex c) _ (grind (arith, none)))
safe_ends (b ∷ c ∷ d ∷ ds) more h =
    let hs = and_parts _ _ h in
    both_not _ _ (no_gap b _ hs.0)
    (elim (cases_Bool (is_blank d || nat_eq d 47)) [
      | inl e ↦
          let none : (not (is_hex b) || not (is_hex c)) ≡ true = grind (arith, hs.1, e) in no_pair (is_hex b) (is_hex c) _ (grind (arith, none))
      | inr e ↦ no_pair (is_hex b) (is_hex c) _ (second_or (not (is_hex b)) _ (second_or (not (is_hex c)) _ (not_false _ (no_gap d _ (not_false _ e)))))
    ])

-- what stands behind the text begins with no digit and no gap
pub record IsClosing (more : List ℕ) : Type 0 where
  pub gap : gap_begins more ≡ false
  pub digit : first_passes is_hex more ≡ false

closed_ends : (w more : List ℕ) → is_inner_safe w ≡ true → IsClosing more → ends_parenthesis (w ++ more) ≡ true
closed_ends [] more h c = absurd (false≢true h)
closed_ends (b ∷ []) more h k =
    let hs = and_parts _ _ h in
    both_not _ _ (no_gap b _ hs.0) (no_pair (is_hex b) (first_passes is_hex more) _ (second_or (not (is_hex b)) _ (first_or _ _ (not_false _ k.digit))))
closed_ends (b ∷ c ∷ []) more h k =
    let hs = and_parts _ _ h in
    both_not _ _ (no_gap b _ hs.0) (no_pair (is_hex b) (is_hex c) (gap_begins more) (second_or (not (is_hex b)) _ (second_or (not (is_hex c)) _ (not_false _ k.gap))))
closed_ends (b ∷ c ∷ d ∷ ds) more h k = safe_ends (b ∷ c ∷ d ∷ ds) more h

-- ---- a token that stands directly behind another

pub direct : (s : State) (m : Leaf) (ms : List Leaf) (kind : TokenKind) → s.last ≡ Some kind → m.starts ≡ false → has_blank kind m ≡ false →
    behind s (m ∷ ms) ≡ m.text ++ behind (next s m) ms
direct s m ms kind e h b = within s m ms kind e h ∙ no_blank kind m (m.text ++ behind (next s m) ms) b

named_kind : (kind : TokenKind) → is_name_kind kind ≡ true → kind ≡ Name
named_kind Name h = refl
named_kind Scope h = absurd (false≢true h)
named_kind Int h = absurd (false≢true h)
named_kind QString h = absurd (false≢true h)
named_kind EqBytes h = absurd (false≢true h)
named_kind ByteArray h = absurd (false≢true h)
named_kind RealBytes h = absurd (false≢true h)
named_kind Hash h = absurd (false≢true h)
named_kind Unused h = absurd (false≢true h)
named_kind (Word k) h = absurd (false≢true h)

int_kind : (kind : TokenKind) → is_int kind ≡ true → kind ≡ Int
int_kind Int h = refl
int_kind Scope h = absurd (false≢true h)
int_kind Name h = absurd (false≢true h)
int_kind QString h = absurd (false≢true h)
int_kind EqBytes h = absurd (false≢true h)
int_kind ByteArray h = absurd (false≢true h)
int_kind RealBytes h = absurd (false≢true h)
int_kind Hash h = absurd (false≢true h)
int_kind Unused h = absurd (false≢true h)
int_kind (Word k) h = absurd (false≢true h)

not_true : (x : Bool) → not x ≡ true → x ≡ false
not_true false h = refl
not_true true h = absurd (false≢true h)

-- an integer or a name, by its first byte
int_begins : (m : Leaf) → m.kind ≡ Int → IsLeaf m.kind m.text → first_of is_int_start m.text ≡ true
int_begins m e h = int_first m.text (subst (λ k. IsSpelling k m.text) e h.spelled)

name_begins : (m : Leaf) → m.kind ≡ Name → IsLeaf m.kind m.text → first_of is_name_start m.text ≡ true
name_begins m e h = name_first m.text (subst (λ k. IsSpelling k m.text) e h.spelled)

ends_from : (t : ℕ → Bool) (w : List ℕ) (s : State) (m : Leaf) (ms : List Leaf) (kind : TokenKind) → s.last ≡ Some kind → m.starts ≡ false →
    has_blank kind m ≡ false → first_of t m.text ≡ true → ((b : ℕ) (bs : List ℕ) → t b ≡ true → ends_word w (b ∷ bs) ≡ true) →
    ends_word w (behind s (m ∷ ms)) ≡ true
ends_from t w s m ms kind e h b f g =
    let x = begun t m.text (behind (next s m) ms) f in
    subst (λ y. ends_word w y ≡ true) (sym (direct s m ms kind e h b ∙ x.is)) (g x.first x.rest x.passes)

pub slash_ends : (s : State) (ls : List Leaf) → s.last ≡ Some (Word word.SLASH) → next_passes is_name_kind ls ≡ true → AreFine ls →
    ends_word (codes "/") (behind s ls) ≡ true
slash_ends s [] e h f = absurd (false≢true h)
slash_ends s (m ∷ ms) e h f =
    let hs = and_parts (not m.starts) (is_name_kind m.kind) h in
    ends_from is_name_start (codes "/") s m ms (Word word.SLASH) e (not_true m.starts hs.0) refl (name_begins m (named_kind m.kind hs.1) f.0)
    (λ b bs i. grind (arith, i))

pub bang_ends : (s : State) (ls : List Leaf) → s.last ≡ Some (Word word.BANG) → next_passes is_int ls ≡ true → AreFine ls →
    ends_word (codes "!") (behind s ls) ≡ true
bang_ends s [] e h f = absurd (false≢true h)
bang_ends s (m ∷ ms) e h f =
    let hs = and_parts (not m.starts) (is_int m.kind) h in
    ends_from is_int_start (codes "!") s m ms (Word word.BANG) e (not_true m.starts hs.0) refl (int_begins m (int_kind m.kind hs.1) f.0)
    (λ b bs i. grind (arith, i))

-- a byte that begins no identifier and no quote
abbrev is_no_start : ℕ → Bool
is_no_start b = not (is_id_start b || nat_eq b 39)

abbrev bound_words : List ℕ
bound_words = word.CLOSE_BRACKET ∷ word.COMMA ∷ word.ELLIPSIS ∷ []

bounds_begin : list_all (λ k. first_of is_no_start (word_text k)) bound_words ≡ true
unfolding words
bounds_begin = refl

no_small : (b : ℕ) → b ≤ 57 → (nat_le 97 b && nat_le b 122) ≡ false
no_small b hi = grind (arith, hi)

no_capital : (b : ℕ) → b ≤ 57 → (nat_le 65 b && nat_le b 90) ≡ false
no_capital b hi = grind (arith, hi)

isnt_above : (b c : ℕ) → b ≤ 57 → 57 < c → nat_eq b c ≡ false
isnt_above b c hi over = grind (arith, hi, over)

isnt_below : (b c : ℕ) → 48 ≤ b → c < 48 → nat_eq b c ≡ false
isnt_below b c lo under = grind (arith, lo, under)

digit_no_start : (b : ℕ) → 48 ≤ b → b ≤ 57 → is_no_start b ≡ true
digit_no_start b lo hi =
    let f1 = no_small b hi in
    let f2 = no_capital b hi in
    let f3 = isnt_above b 95 hi (omega arith) in
    let f4 = isnt_below b 36 lo (omega arith) in
    let f5 = isnt_above b 64 hi (omega arith) in
    let f6 = isnt_above b 63 hi (omega arith) in
    let f7 = isnt_above b 96 hi (omega arith) in
    let f8 = isnt_below b 39 lo (omega arith) in
    simp (f1, f2, f3, f4, f5, f6, f7, f8) refl

no_start : (w : List ℕ) → first_of is_int_start w ≡ true → first_of is_no_start w ≡ true
no_start [] h = h
no_start (b ∷ bs) h = elim (or_cases (is_digit b) (nat_eq b 45) h) [
  | inl d ↦ let ds = and_parts (nat_le 48 b) (nat_le b 57) d in digit_no_start b (leb-true 48 b ds.0) (leb-true b 57 ds.1)
  | inr e ↦ subst (λ c. is_no_start c ≡ true) (sym (eqb-true b 45 e)) refl
]

bound_begins : (m : Leaf) → is_bound m.kind ≡ true → IsLeaf m.kind m.text → first_of is_no_start m.text ≡ true
bound_begins m h f = elim (or_cases (is_int m.kind) _ h) [
  | inl i ↦ no_start m.text (int_begins m (int_kind m.kind i) f)
  | inr w ↦ let is = one_of (λ k. first_of is_no_start (word_text k)) bound_words m.kind w bounds_begin in
      subst (λ t. first_of is_no_start t ≡ true) (worded m is.0 is.1 f) is.2
]

pub bracket_ends : (s : State) (ls : List Leaf) → s.last ≡ Some (Word word.OPEN_BRACKET) → next_passes is_bound ls ≡ true → AreFine ls →
    ends_word (codes "[") (behind s ls) ≡ true
bracket_ends s [] e h f = absurd (false≢true h)
bracket_ends s (m ∷ ms) e h f =
    let hs = and_parts (not m.starts) (is_bound m.kind) h in
    ends_from is_no_start (codes "[") s m ms (Word word.OPEN_BRACKET) e (not_true m.starts hs.0) refl (bound_begins m hs.1 f.0)
    (λ b bs i. i)

-- ---- `=`

value_blank : (m : Leaf) (kind : TokenKind) → m.kind ≡ kind → shuts_before kind ≡ false → joins_integer (Word word.EQUALS) kind ≡ false →
    has_blank (Word word.EQUALS) m ≡ true
value_blank m kind e f g =
    by m.apart (shuts_before m.kind) (joins_integer (Word word.EQUALS) m.kind) (ap shuts_before e ∙ f) (ap (joins_integer (Word word.EQUALS)) e ∙ g)
  where
    by : (a b j : Bool) → b ≡ false → j ≡ false → (false || (not false && (a || not (b || j)))) ≡ true
    by true b j h k = refl
    by false false false h k = refl
    by false true j h k = absurd (false≢true (sym h))
    by false false true h k = absurd (false≢true (sym k))

value_begins : (m : Leaf) → is_value m.kind ≡ true → IsLeaf m.kind m.text → (has_blank (Word word.EQUALS) m ≡ true) × (begins_value m.text ≡ true)
value_begins m h f = go m.kind refl h
  where
    go : (kind : TokenKind) → m.kind ≡ kind → is_value kind ≡ true → (has_blank (Word word.EQUALS) m ≡ true) × (begins_value m.text ≡ true)
    go (Word k) e v =
        let t = and_parts (not (shuts_before (Word k))) (begins_value (word_text k)) (among value_test value_words k v values_begin) in
        (value_blank m (Word k) e (not_true (shuts_before (Word k)) t.0) refl, subst (λ x. begins_value x ≡ true) (worded m k e f) t.1)
    go QString e v =
        let q = subst (λ k. IsSpelling k m.text) e f.spelled in (value_blank m QString e refl refl, subst (λ x. begins_value x ≡ true) (sym q.2) refl)
    go ByteArray e v =
        let q = subst (λ k. IsSpelling k m.text) e f.spelled in (value_blank m ByteArray e refl refl, subst (λ x. begins_value x ≡ true) (sym q.2) refl)
    go Name e v = absurd (false≢true v)
    go Scope e v = absurd (false≢true v)
    go Int e v = absurd (false≢true v)
    go EqBytes e v = absurd (false≢true v)
    go RealBytes e v = absurd (false≢true v)
    go Hash e v = absurd (false≢true v)
    go Unused e v = absurd (false≢true v)

before_value : (w more : List ℕ) → begins_value w ≡ true → ends_before_bytes (32 ∷ (w ++ more)) ≡ true
before_value [] more h = absurd (false≢true h)
before_value (b ∷ bs) more h =
    let hs = and_parts (not (is_blank b)) _ h in
    ap (λ x. cond x (ends_before_bytes (bs ++ more)) (not (nat_eq b 40 || nat_eq b 47))) (not_true (is_blank b) hs.0) ∙ hs.1

pub equals_ends : (s : State) (ls : List Leaf) → s.last ≡ Some (Word word.EQUALS) → next_passes is_value ls ≡ true → AreFine ls →
    ends_word (codes "=") (behind s ls) ≡ true
equals_ends s [] e h f = absurd (false≢true h)
equals_ends s (m ∷ ms) e h f =
    let hs = and_parts (not m.starts) (is_value m.kind) h in
    let v = value_begins m hs.1 f.0 in
    let is = within s m ms (Word word.EQUALS) e (not_true m.starts hs.0) ∙ with_blank (Word word.EQUALS) m (m.text ++ behind (next s m) ms) v.0 in
    subst (λ y. ends_word (codes "=") y ≡ true) (sym is) (before_value m.text (behind (next s m) ms) v.1)

-- ---- `:`

-- marks but `:` and `::`
abbrev mark_test : ℕ → Bool
mark_test k = list_any (λ j. nat_eq j k) (word.COLON ∷ word.DOUBLE_COLON ∷ []) || first_of (λ b. not (nat_eq b 58)) (word_text k)

marks_begin : list_all mark_test marks ≡ true
unfolding words
marks_begin = refl

not_colon : (w : List ℕ) → first_of is_int_start w ≡ true → first_of (λ b. not (nat_eq b 58)) w ≡ true
not_colon [] h = h
not_colon (b ∷ bs) h = grind (arith, h)

-- without a blank behind `:` stands a mark or an integer
after_colon : (a b j : Bool) → (false || (not false && (a || not (b || j)))) ≡ false → (b ≡ true) ⊎ (j ≡ true)
after_colon a true j h = inl refl
after_colon a false true h = inr refl
after_colon true false false h = absurd (false≢true (sym h))
after_colon false false false h = absurd (false≢true (sym h))

colon_joins : (kind : TokenKind) → joins_integer (Word word.COLON) kind ≡ true → is_int kind ≡ true
colon_joins Int h = refl
colon_joins Scope h = absurd (false≢true h)
colon_joins Name h = absurd (false≢true h)
colon_joins QString h = absurd (false≢true h)
colon_joins EqBytes h = absurd (false≢true h)
colon_joins ByteArray h = absurd (false≢true h)
colon_joins RealBytes h = absurd (false≢true h)
colon_joins Hash h = absurd (false≢true h)
colon_joins Unused h = absurd (false≢true h)
colon_joins (Word k) h = absurd (false≢true h)

no_mark : (m : Leaf) → shuts_before m.kind ≡ true → is_one_of (word.COLON ∷ word.DOUBLE_COLON ∷ []) m.kind ≡ false → IsLeaf m.kind m.text →
    first_of (λ b. not (nat_eq b 58)) m.text ≡ true
no_mark m b o f =
    let is = one_of mark_test marks m.kind b marks_begin in
    let other : is_one_of (word.COLON ∷ word.DOUBLE_COLON ∷ []) (Word is.0) ≡ false = subst (λ k. is_one_of (word.COLON ∷ word.DOUBLE_COLON ∷ []) k ≡ false) is.1 o in
    subst (λ t. first_of (λ b. not (nat_eq b 58)) t ≡ true) (worded m is.0 is.1 f) (ap (λ x. x || first_of (λ b. not (nat_eq b 58)) (word_text is.0)) (sym other) ∙ is.2)

pub colon_ends : (s : State) (ls : List Leaf) → s.last ≡ Some (Word word.COLON) → no_colon ls ≡ true → AreFine ls →
    ends_word (codes ":") (behind s ls) ≡ true
colon_ends s [] e h f = refl
colon_ends s (m ∷ ms) e h f = elim (cases_Bool m.starts) [
  | inl b ↦
      let is =
      ap (λ b. (cond b (line_end s.last ++ blanks (2 * line_depth s.depth m)) (gap s.last m) ++ (m.text ++ text_from (next s m) ms)) ++ 10 ∷ []) b
      ∙ ap (λ o. ((line_end o ++ blanks (2 * line_depth s.depth m)) ++ (m.text ++ text_from (next s m) ms)) ++ 10 ∷ []) e in
      subst (λ y. ends_word (codes ":") y ≡ true) (sym is) refl
  | inr b ↦
      let o = not_true _ (subst (λ x. (x || not (is_one_of (word.COLON ∷ word.DOUBLE_COLON ∷ []) m.kind)) ≡ true) b h) in
      elim (cases_Bool (has_blank (Word word.COLON) m)) [
        | inl g ↦ subst (λ y. ends_word (codes ":") y ≡ true) (sym (within s m ms (Word word.COLON) e b ∙ with_blank (Word word.COLON) m (m.text ++ behind (next s m) ms) g)) refl
        | inr g ↦ elim (after_colon m.apart (shuts_before m.kind) (joins_integer (Word word.COLON) m.kind) g) [
          | inl k ↦ ends_from (λ b. not (nat_eq b 58)) (codes ":") s m ms (Word word.COLON) e b g (no_mark m k o f.0) (λ b bs i. i)
          | inr k ↦ ends_from (λ b. not (nat_eq b 58)) (codes ":") s m ms (Word word.COLON) e b g (not_colon m.text (int_begins m (int_kind m.kind (colon_joins m.kind k)) f.0)) (λ b bs i. i)
        ]
      ]
]

-- ---- `(`

abbrev closing_test : ℕ → Bool
closing_test k = nat_eq k word.SLASH || first_of (λ c. not (is_hex c) && not (is_blank c || nat_eq c 47)) (word_text k)

abbrev closers : List ℕ
closers = word.CLOSE_PAREN ∷ word.COMMA ∷ word.SLASH ∷ []

closings : list_all closing_test closers ≡ true
unfolding words
closings = refl

closings_shut : list_all (λ k. shuts_before (Word k)) closers ≡ true
closings_shut = refl

slash_text : (l : Leaf) → l.kind ≡ Word word.SLASH → IsLeaf l.kind l.text → codes "/" ≡ l.text
unfolding words
slash_text l e f = worded l word.SLASH e f

-- no blank stands before such a mark
no_blank_before : (kind : TokenKind) (m : Leaf) → is_the word.COMMA kind ≡ false → m.apart ≡ false → shuts_before m.kind ≡ true → has_blank kind m ≡ false
no_blank_before kind m c a b = by (is_the word.COMMA kind) (not (shuts_behind kind)) m.apart (shuts_before m.kind) (joins_integer kind m.kind) c a b
  where
    by : (x y z t j : Bool) → x ≡ false → z ≡ false → t ≡ true → (x || (y && (z || not (t || j)))) ≡ false
    by true y z t j h k l = absurd (false≢true (sym h))
    by false true true t j h k l = absurd (false≢true (sym k))
    by false true false true j h k l = refl
    by false true false false j h k l = absurd (false≢true l)
    by false false z t j h k l = refl

closing_first : (w more : List ℕ) → first_of (λ c. not (is_hex c) && not (is_blank c || nat_eq c 47)) w ≡ true → IsClosing (w ++ more)
closing_first [] more h = absurd (false≢true h)
closing_first (c ∷ cs) more h =
    let hs = and_parts (not (is_hex c)) _ h in record { gap = no_gap c _ hs.1; digit = not_true (is_hex c) hs.0 }

closing : (s : State) (ls : List Leaf) (kind : TokenKind) → s.last ≡ Some kind → is_the word.COMMA kind ≡ false → closes_name ls ≡ true → AreFine ls →
    IsClosing (behind s ls)
closing s [] kind e c h f = absurd (false≢true h)
closing s (m ∷ ms) kind e c h f =
    let hs = and_parts (not m.starts) _ h in
    let ks = and_parts (not m.apart) _ hs.1 in
    let shut = one_of (λ k. shuts_before (Word k)) closers m.kind ks.1 closings_shut in
    let tight = no_blank_before kind m c (not_true m.apart ks.0) (subst (λ k. shuts_before k ≡ true) (sym shut.1) shut.2) in
    let is = direct s m ms kind e (not_true m.starts hs.0) tight in
    let which = one_of closing_test closers m.kind ks.1 closings in
    subst IsClosing (sym is)
    (elim (or_cases (nat_eq which.0 word.SLASH) (first_of (λ c. not (is_hex c) && not (is_blank c || nat_eq c 47)) (word_text which.0)) which.2) [
      | inl w ↦
          let slash : m.kind ≡ Word word.SLASH = which.1 ∙ ap (λ k. Word k) (eqb-true which.0 word.SLASH w) in
          let named : next_passes is_name_kind ms ≡ true = subst (λ k. passes k ms ≡ true) slash f.1 in
          let after = slash_ends (next s m) ms (ap (λ k. Some k) slash) named f.2 in
          subst (λ t. IsClosing (t ++ behind (next s m) ms)) (slash_text m slash f.0) (record { gap = not_true _ after; digit = refl })
      | inr w ↦ closing_first m.text (behind (next s m) ms) (subst (λ t. first_of (λ c. not (is_hex c) && not (is_blank c || nat_eq c 47)) t ≡ true) (worded m which.0 which.1 f.0) w)
    ])

pub paren_ends : (s : State) (ls : List Leaf) → s.last ≡ Some (Word word.OPEN_PAREN) → opens ls ≡ true → AreFine ls → ends_parenthesis (behind s ls) ≡ true
paren_ends s [] e h f = absurd (false≢true h)
paren_ends s (m ∷ ms) e h f =
    let hs = and_parts (not m.starts) _ h in
    let is = direct s m ms (Word word.OPEN_PAREN) e (not_true m.starts hs.0) refl in
    subst (λ y. ends_parenthesis y ≡ true) (sym is) (go m.kind refl hs.1)
  where
    go : (kind : TokenKind) → m.kind ≡ kind → opens_with kind ms ≡ true → ends_parenthesis (m.text ++ behind (next s m) ms) ≡ true
    go (Word k) k_is o =
        let low : k < length words = (subst (λ kind. IsSpelling kind m.text) k_is f.0.spelled).0 in
        let at : 0 + k ≡ k = omega arith in
        let t : (nat_eq k word.SLASH || is_safe (word_text k)) ≡ true = subst (λ j. safe_test j (word_text k) ≡ true) at (tested_at safe_test 0 words all_safe k low) in
        let safe : is_safe (word_text k) ≡ true = subst (λ b. (b || is_safe (word_text k)) ≡ true) (not_true (nat_eq k word.SLASH) o) t in
        safe_ends m.text (behind (next s m) ms) (subst (λ x. is_safe x ≡ true) (worded m k k_is f.0) safe)
    go Scope k_is o =
        let q = subst (λ kind. IsSpelling kind m.text) k_is f.0.spelled in
        safe_ends m.text (behind (next s m) ms) (subst (λ x. is_safe x ≡ true) (sym q.2) refl)
    go Name k_is o =
        closed_ends m.text (behind (next s m) ms) (name_safe m.text (subst (λ kind. IsSpelling kind m.text) k_is f.0.spelled))
        (closing (next s m) ms Name (ap (λ k. Some k) k_is) refl o f.2)
    go Int k_is o =
        closed_ends m.text (behind (next s m) ms) (int_safe m.text (subst (λ kind. IsSpelling kind m.text) k_is f.0.spelled))
        (closing (next s m) ms Int (ap (λ k. Some k) k_is) refl o f.2)
    go QString k_is o = absurd (false≢true o)
    go EqBytes k_is o = absurd (false≢true o)
    go ByteArray k_is o = absurd (false≢true o)
    go RealBytes k_is o = absurd (false≢true o)
    go Hash k_is o = absurd (false≢true o)
    go Unused k_is o = absurd (false≢true o)
