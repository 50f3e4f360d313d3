-- Texts of tokens are UTF-8, since the source is: each is cut where ASCII stands.
use Rattle.std.proofs.Common.{◌≡◌, ℕ, zero, suc, ◌+◌, ◌*◌, ◌-◌, ◌<◌, ◌≤◌, Bool, true, false, ◌||◌, nat_eq, inl, inr, ◌⊎◌, List, [], ◌∷◌, ◌++◌, length, take, drop, refl, ap, sym, subst, ◌∙◌, arith, length-append, append_assoc, append-nil, take_at, drop_at, drop-drop}
use Rattle.std.proofs.Math.Seq.{get_or-append_seam}
use Rattle.std.proofs.lemmas.Bool.{cond-true, eqb-true}
use Rattle.std.proofs.lemmas.Bool.Decides.{nat_tests}
use Rattle.std.proofs.lemmas.List.{take-append-drop}
use Rattle.std.proofs.lemmas.Str.{IsUtf8-append, IsUtf8-drop, IsUtf8-from_ascii, IsUtf8-nil, IsUtf8-take, IsCharBoundary-after_ascii, IsCharBoundary-before_ascii}
use Rattle.std.specs.Prelude.{IsUtf8, get_or, slice_index}
use Rattle.il_lexer.specs.Classes.{is_id_start, is_id_part, is_octal, is_digit}
use Rattle.il_lexer.specs.Quotes.{is_octal_code, is_escape_letter}
use Rattle.il_lexer.specs.Spelled.{Each, IsEscape, IsText, IsPart, IsName, IsSpelling}
use Rattle.il_lexer.specs.declared.types.TokenKind.TheVariants.{Scope, QString}
use Rattle.source_model.specs.Nodes.{id_of_texts}
use Rattle.source_model.specs.Values.{between_quotes, letter_value, octal_value, escape_bytes, unescaped, part_text, part_texts, dotted, last_text, all_but_last}
use Rattle.type_terms.specs.declared.name.TypeId.{TypeId}
use Rattle.source_nodes.specs.NameTexts.{IsTextOf}
use Rattle.source_nodes.proofs.Lexed.{escape-exact}
use Rattle.source_nodes.proofs.Texts.{unescaped-nil, unescaped-plain, unescaped-escape, plain}
use Rattle.source_nodes.proofs.NameLemmas.{brackets_inner, id_text, in_brackets, quoted_text, no_texts, part_texts-at}

-- ---- cuts at ASCII

within : (xs ys : List ℕ) (b : ℕ) → length xs < length (xs ++ b ∷ ys)
within xs ys b = let l : length (xs ++ b ∷ ys) ≡ length xs + suc (length ys) = length-append xs (b ∷ ys) in omega arith

small_there : (xs ys : List ℕ) (b : ℕ) → b < 128 → get_or (xs ++ b ∷ ys) (length xs) 0 < 128
small_there xs ys b less = subst (λ x. x < 128) (sym (get_or-append_seam xs b ys 0)) less

pub before_ascii : (xs ys : List ℕ) (b : ℕ) → b < 128 → IsUtf8 (xs ++ b ∷ ys) → IsUtf8 xs
before_ascii xs ys b less u =
    subst IsUtf8 (take_at xs (b ∷ ys) (length xs) refl)
    (IsUtf8-take (xs ++ b ∷ ys) (length xs) u (IsCharBoundary-before_ascii (xs ++ b ∷ ys) (length xs) (within xs ys b) (small_there xs ys b less)))

pub from_ascii : (xs ys : List ℕ) (b : ℕ) → b < 128 → IsUtf8 (xs ++ b ∷ ys) → IsUtf8 (b ∷ ys)
from_ascii xs ys b less u =
    subst IsUtf8 (drop_at xs (b ∷ ys) (length xs) refl)
    (IsUtf8-drop (xs ++ b ∷ ys) (length xs) u (IsCharBoundary-before_ascii (xs ++ b ∷ ys) (length xs) (within xs ys b) (small_there xs ys b less)))

pub behind_ascii : (xs ys : List ℕ) (b : ℕ) → b < 128 → IsUtf8 (xs ++ b ∷ ys) → IsUtf8 ys
behind_ascii xs ys b less u =
    let cut : drop (length xs + 1) (xs ++ b ∷ ys) ≡ ys =
    sym (drop-drop 1 (length xs) (xs ++ b ∷ ys)) ∙ ap (drop 1) (drop_at xs (b ∷ ys) (length xs) refl) in
    subst IsUtf8 cut
    (IsUtf8-drop (xs ++ b ∷ ys) (length xs + 1) u (IsCharBoundary-after_ascii (xs ++ b ∷ ys) (length xs) u (within xs ys b) (small_there xs ys b less)))

pub one_ascii : (b : ℕ) → b < 128 → IsUtf8 (b ∷ [])
one_ascii b less = IsUtf8-from_ascii (b ∷ []) small
  where
    small : (i : ℕ) → slice_index (b ∷ []) i < 128
    small zero = less
    small (suc i) = omega arith

-- ---- escapes

abbrev any_from : Bool → List ℕ → ℕ → Bool
any_from found [] a = found
any_from found (n ∷ ns) a = any_from (found || nat_eq a n) ns a

abbrev Among : (ℕ → Type 0) → List ℕ → Type 0
Among P [] = Unit {0}
Among P (n ∷ ns) = P n × Among P ns

or_cases : (x y : Bool) → (x || y) ≡ true → (x ≡ true) ⊎ (y ≡ true)
or_cases true y h = inl refl
or_cases false y h = inr h

holds_of : (P : ℕ → Type 0) (found : Bool) (ns : List ℕ) (a : ℕ) → (found ≡ true → P a) → Among P ns → any_from found ns a ≡ true → P a
holds_of P found [] a f all h = f h
holds_of P found (n ∷ ns) a f all h =
    holds_of P (found || nat_eq a n) ns a
    (λ e. elim (or_cases found (nat_eq a n) e) [
      | inl x ↦ f x
      | inr x ↦ subst P (sym (eqb-true a n x)) all.0
    ])
    all.1 h

abbrev letters : List ℕ
letters = 110 ∷ 114 ∷ 97 ∷ 98 ∷ 102 ∷ 118 ∷ 34 ∷ 39 ∷ 92 ∷ 63 ∷ []

abbrev IsSmall : ℕ → Type 0
IsSmall n = (n < 128) × (letter_value n < 128)

small_letter : (a : ℕ) → is_escape_letter a ≡ true → (a < 128) × (letter_value a < 128)
small_letter a h =
    holds_of IsSmall (nat_eq a 116) letters a (λ e. subst IsSmall (sym (eqb-true a 116 e)) (omega arith, omega arith)) (
      (omega arith, omega arith),
      (
        (omega arith, omega arith),
        (
          (omega arith, omega arith),
          (
            (omega arith, omega arith),
            (
              (omega arith, omega arith),
              (
                (omega arith, omega arith),
                ((omega arith, omega arith), ((omega arith, omega arith), ((omega arith, omega arith), ((omega arith, omega arith), tt)))),
              ),
            ),
          ),
        ),
      ),
    )
    h

record Octal (a b c : ℕ) : Type 0 where
  first : (a ≡ 48) ⊎ (a ≡ 49)
  second : b ≤ 55
  third : c ≤ 55

low_octal : (b : ℕ) → is_octal b ≡ true → b ≤ 55
low_octal b h = grind (arith, nat_tests)

octal : (a b c : ℕ) → is_octal_code (a ∷ b ∷ c ∷ []) ≡ true → Octal a b c
octal a b c h = grind (arith, nat_tests)

-- what an escape gives is ASCII, and so are its bytes
escape_gives : {e : List ℕ} → IsEscape e → (after : List ℕ) → IsUtf8 (escape_bytes (e ++ after))
escape_gives {e} (IsEscape.letter {a = a} h is) after =
    subst (λ w. IsUtf8 (escape_bytes (w ++ after))) (sym is)
    (subst IsUtf8 (sym (cond-true (is_escape_letter a) _ _ h)) (one_ascii (letter_value a) (small_letter a h).1))
escape_gives {e} (IsEscape.octal {a = a} {b = b} {c = c} h is) after =
    let o = octal a b c h in
    let first_value : (0 + (b - 48)) * 8 + (c - 48) < 128 = omega (arith, o.second, o.third) in
    let second_value : (1 * 8 + (b - 48)) * 8 + (c - 48) < 128 = omega (arith, o.second, o.third) in
    subst (λ w. IsUtf8 (escape_bytes (w ++ after))) (sym is)
    (elim o.first [
      | inl e ↦ subst (λ x. IsUtf8 (escape_bytes (x ∷ b ∷ c ∷ after))) (sym e) (one_ascii (octal_value (48 ∷ b ∷ c ∷ after)) first_value)
      | inr e ↦ subst (λ x. IsUtf8 (escape_bytes (x ∷ b ∷ c ∷ after))) (sym e) (one_ascii (octal_value (49 ∷ b ∷ c ∷ after)) second_value)
    ])
escape_gives {e} (IsEscape.line is) after = subst (λ w. IsUtf8 (escape_bytes (w ++ after))) (sym is) IsUtf8-nil
escape_gives {e} (IsEscape.return_line is) after = subst (λ w. IsUtf8 (escape_bytes (w ++ after))) (sym is) IsUtf8-nil

behind_escape : {e : List ℕ} → IsEscape e → (after : List ℕ) → IsUtf8 (e ++ after) → IsUtf8 after
behind_escape {e} (IsEscape.letter {a = a} h is) after u = behind_ascii [] after a (small_letter a h).0 (subst (λ w. IsUtf8 (w ++ after)) is u)
behind_escape {e} (IsEscape.octal {a = a} {b = b} {c = c} h is) after u =
    let o = octal a b c h in
    behind_ascii (a ∷ b ∷ []) after c (omega (arith, o.third)) (subst (λ w. IsUtf8 (w ++ after)) is u)
behind_escape {e} (IsEscape.line is) after u = behind_ascii [] after 10 (omega arith) (subst (λ w. IsUtf8 (w ++ after)) is u)
behind_escape {e} (IsEscape.return_line is) after u = behind_ascii (13 ∷ []) after 10 (omega arith) (subst (λ w. IsUtf8 (w ++ after)) is u)

-- ---- texts in quotes

-- what a text in quotes stands for, behind bytes that go on in it
text_behind : {q : ℕ} {w : List ℕ} → IsText q w → (pre : List ℕ) → IsUtf8 (pre ++ w) → IsUtf8 (pre ++ unescaped w)
text_behind IsText.none pre u = subst (λ x. IsUtf8 (pre ++ x)) (sym unescaped-nil) u
text_behind {q} (IsText.plain {b = b} {bs = bs} h t) pre u =
    subst IsUtf8 (append_assoc pre (b ∷ []) (unescaped bs) ∙ ap (λ x. pre ++ x) (sym (unescaped-plain b bs (plain q b h).1)))
    (text_behind t (pre ++ b ∷ []) (subst IsUtf8 (sym (append_assoc pre (b ∷ []) bs)) u))
text_behind {q} {w} (IsText.escape {e = e} {bs = bs} h t is) pre u =
    let whole : IsUtf8 (pre ++ 92 ∷ (e ++ bs)) = subst (λ x. IsUtf8 (pre ++ x)) is u in
    let front : IsUtf8 pre = before_ascii pre (e ++ bs) 92 (omega arith) whole in
    let rest : IsUtf8 bs = behind_escape h bs (behind_ascii pre (e ++ bs) 92 (omega arith) whole) in
    let gives : unescaped w ≡ escape_bytes (e ++ bs) ++ unescaped bs =
    ap unescaped is ∙ unescaped-escape (e ++ bs) (length e) (escape-exact h bs)
    ∙ ap (λ x. escape_bytes (e ++ bs) ++ unescaped x) (drop_at e bs (length e) refl) in
    subst (λ x. IsUtf8 (pre ++ x)) (sym gives)
    (IsUtf8-append pre _ front (IsUtf8-append (escape_bytes (e ++ bs)) (unescaped bs) (escape_gives h bs) (text_behind t [] rest)))

pub text_utf8 : {q : ℕ} {w : List ℕ} → IsText q w → IsUtf8 w → IsUtf8 (unescaped w)
text_utf8 t u = text_behind t [] u

between_ascii : (q : ℕ) (text w : List ℕ) → q < 128 → w ≡ q ∷ (text ++ q ∷ []) → IsUtf8 w → IsUtf8 text
between_ascii q text w less is u = before_ascii text [] q less (behind_ascii [] (text ++ q ∷ []) q less (subst IsUtf8 is u))

-- ---- names

part_utf8 : (w : List ℕ) → IsPart w → IsUtf8 w → IsUtf8 (part_text w)
part_utf8 w (inl id) u = subst IsUtf8 (sym (id_text w id)) u
part_utf8 w (inr (text, t, some, is)) u =
    subst IsUtf8 (sym (quoted_text w text is)) (text_utf8 t (between_ascii 39 text w (omega arith) is u))

abbrev pub AllUtf8 : List (List ℕ) → Type 0
AllUtf8 [] = Unit {0}
AllUtf8 (t ∷ ts) = IsUtf8 t × AllUtf8 ts

part_alone : (w : List ℕ) → IsPart w → part_texts w ≡ part_text w ∷ []
part_alone w p =
    ap part_texts (sym (append-nil w)) ∙ part_texts-at w [] p (inl refl) ∙ ap (λ ts. part_text w ∷ ts) no_texts

part_before : (first rest w : List ℕ) → IsPart first → w ≡ first ++ 46 ∷ rest → part_texts w ≡ part_text first ∷ part_texts rest
part_before first rest w p is = ap part_texts is ∙ part_texts-at first (46 ∷ rest) p (inr refl)

pub parts_utf8 : {w : List ℕ} → IsName w → IsUtf8 w → AllUtf8 (part_texts w)
parts_utf8 {w} (IsName.part p) u = subst AllUtf8 (sym (part_alone w p)) (part_utf8 w p u, tt)
parts_utf8 {w} (IsName.dotted {first = first} {rest = rest} p more is) u =
    let whole : IsUtf8 (first ++ 46 ∷ rest) = subst IsUtf8 is u in
    subst AllUtf8 (sym (part_before first rest w p is))
    (part_utf8 first p (before_ascii first rest 46 (omega arith) whole), parts_utf8 more (behind_ascii first rest 46 (omega arith) whole))

dotted_utf8 : (ts : List (List ℕ)) → AllUtf8 ts → IsUtf8 (dotted ts)
dotted_utf8 [] h = IsUtf8-nil
dotted_utf8 (t ∷ []) h = h.0
dotted_utf8 (t ∷ v ∷ more) h =
    IsUtf8-append t (46 ∷ dotted (v ∷ more)) h.0
    (IsUtf8-append (46 ∷ []) (dotted (v ∷ more)) (one_ascii 46 (omega arith)) (dotted_utf8 (v ∷ more) h.1))

but_last_utf8 : (ts : List (List ℕ)) → AllUtf8 ts → AllUtf8 (all_but_last ts)
but_last_utf8 [] h = tt
but_last_utf8 (t ∷ []) h = tt
but_last_utf8 (t ∷ v ∷ more) h = (h.0, but_last_utf8 (v ∷ more) h.1)

last_utf8 : (ts : List (List ℕ)) → AllUtf8 ts → IsUtf8 (last_text ts)
last_utf8 [] h = IsUtf8-nil
last_utf8 (t ∷ []) h = h.0
last_utf8 (t ∷ v ∷ more) h = last_utf8 (v ∷ more) h.1

pub record NameUtf8 (text : List ℕ) (last : ℕ) : Type 0 where
  pub whole : IsUtf8 text
  pub space : IsUtf8 (take (last - 1) text)
  pub name : IsUtf8 (drop last text)

pub name_utf8 : (w text : List ℕ) (last : ℕ) → IsName w → IsUtf8 w → IsTextOf (part_texts w) text last → NameUtf8 text last
name_utf8 w text last n u t =
    let all = parts_utf8 n u in
    record {
      whole = subst IsUtf8 (sym t.whole) (dotted_utf8 (part_texts w) all);
      space = subst IsUtf8 (sym t.space) (dotted_utf8 (all_but_last (part_texts w)) (but_last_utf8 (part_texts w) all));
      name = subst IsUtf8 (sym t.name) (last_utf8 (part_texts w) all);
    }

-- ---- tokens

-- an ASCII byte stands first, and one stands last
pub record InAscii (w : List ℕ) : Type 0 where
  pub first : ℕ
  pub rest : List ℕ
  pub begins : w ≡ first ∷ rest
  pub small_first : first < 128
  pub front : List ℕ
  pub last : ℕ
  pub ends : w ≡ front ++ last ∷ []
  pub small_last : last < 128

small_id : (b : ℕ) → is_id_part b ≡ true → b < 128
small_id b h = grind (arith, nat_tests)

start_is_part : (b : ℕ) → is_id_start b ≡ true → is_id_part b ≡ true
start_is_part b h = ap (λ x. x || is_digit b) h

abbrev Last : List ℕ → Type 0
Last w = (front : List ℕ) × (last : ℕ) × (w ≡ front ++ last ∷ []) × (last < 128)

id_last : (b : ℕ) (w : List ℕ) → is_id_part b ≡ true → Each is_id_part w → Last (b ∷ w)
id_last b [] h all = ([], b, refl, small_id b h)
id_last b (c ∷ w) h all =
    let m = id_last c w all.0 all.1 in
    (b ∷ m.0, m.1, ap (λ x. b ∷ x) m.2, m.3)

part_last : (w : List ℕ) → IsPart w → Last w
part_last [] (inl id) = absurd id
part_last (b ∷ w) (inl id) = id_last b w (start_is_part b id.0) id.1
part_last w (inr (text, t, some, is)) = (39 ∷ text, 39, is, omega arith)

name_last : {w : List ℕ} → IsName w → Last w
name_last {w} (IsName.part p) = part_last w p
name_last {w} (IsName.dotted {first = first} {rest = rest} p more is) =
    let m = name_last more in
    (first ++ 46 ∷ m.0, m.1, is ∙ ap (λ x. first ++ 46 ∷ x) m.2 ∙ sym (append_assoc first (46 ∷ m.0) (m.1 ∷ [])), m.3)

abbrev First : List ℕ → Type 0
First w = (first : ℕ) × (rest : List ℕ) × (w ≡ first ∷ rest) × (first < 128)

part_first : (w : List ℕ) → IsPart w → First w
part_first [] (inl id) = absurd id
part_first (b ∷ w) (inl id) = (b, w, refl, small_id b (start_is_part b id.0))
part_first w (inr (text, t, some, is)) = (39, text ++ 39 ∷ [], is, omega arith)

name_first : {w : List ℕ} → IsName w → First w
name_first {w} (IsName.part p) = part_first w p
name_first {w} (IsName.dotted {first = first} {rest = rest} p more is) =
    let f = part_first first p in
    (f.0, f.1 ++ 46 ∷ rest, is ∙ ap (λ x. x ++ 46 ∷ rest) f.2, f.3)

pub name_in_ascii : (w : List ℕ) → IsName w → InAscii w
name_in_ascii w n =
    let f = name_first n in
    let l = name_last n in
    record {
      first = f.0;
      rest = f.1;
      begins = f.2;
      small_first = f.3;
      front = l.0;
      last = l.1;
      ends = l.2;
      small_last = l.3;
    }

pub scope_in_ascii : (w : List ℕ) → IsSpelling Scope w → InAscii w
scope_in_ascii w (name, n, is) = record {
  first = 91;
  rest = name ++ 93 ∷ [];
  begins = is;
  small_first = omega arith;
  front = 91 ∷ name;
  last = 93;
  ends = is;
  small_last = omega arith;
}

pub string_in_ascii : (w : List ℕ) → IsSpelling QString w → InAscii w
string_in_ascii w (text, t, is) = record {
  first = 34;
  rest = text ++ 34 ∷ [];
  begins = is;
  small_first = omega arith;
  front = 34 ∷ text;
  last = 34;
  ends = is;
  small_last = omega arith;
}

-- a token that ASCII begins and ends is cut out of the source where characters end
pub cut_utf8 : (source w : List ℕ) (start count : ℕ) → IsUtf8 source → InAscii w → w ≡ take count (drop start source) → IsUtf8 w
cut_utf8 source w start count u a is =
    let behind = drop count (drop start source) in
    let rest : w ++ behind ≡ drop start source = ap (λ x. x ++ behind) is ∙ take-append-drop count (drop start source) in
    let whole : take start source ++ (a.first ∷ (a.rest ++ behind)) ≡ source =
    ap (λ x. take start source ++ (x ++ behind)) (sym a.begins) ∙ ap (λ x. take start source ++ x) rest ∙ take-append-drop start source in
    let tail : IsUtf8 (a.first ∷ (a.rest ++ behind)) =
    from_ascii (take start source) (a.rest ++ behind) a.first a.small_first (subst IsUtf8 (sym whole) u) in
    let same : a.first ∷ (a.rest ++ behind) ≡ a.front ++ a.last ∷ behind =
    ap (λ x. x ++ behind) (sym a.begins ∙ a.ends) ∙ append_assoc a.front (a.last ∷ []) behind in
    let front : IsUtf8 a.front = before_ascii a.front behind a.last a.small_last (subst IsUtf8 same tail) in
    subst IsUtf8 (sym a.ends) (IsUtf8-append a.front (a.last ∷ []) front (one_ascii a.last a.small_last))

-- a name in brackets, and a text in quotes, without them
pub scope_name_utf8 : (w name : List ℕ) → w ≡ 91 ∷ (name ++ 93 ∷ []) → IsUtf8 w → IsUtf8 name
scope_name_utf8 w name is u = before_ascii name [] 93 (omega arith) (behind_ascii [] (name ++ 93 ∷ []) 91 (omega arith) (subst IsUtf8 is u))

-- ---- names as texts

abbrev pub id_of : List ℕ → List ℕ → TypeId
id_of space name = record { space = space; name = name }

pub named_whole : (w text : List ℕ) (last : ℕ) → (IsName w → IsTextOf (part_texts w) text last) → (t : List ℕ) → (IsUtf8 text → t ≡ text) →
    IsName w → IsUtf8 w → t ≡ dotted (part_texts w)
named_whole w text last of t same n u = same (name_utf8 w text last n u (of n)).whole ∙ (of n).whole

pub bracketed_whole : (w text : List ℕ) (last : ℕ) → (IsSpelling Scope w → IsTextOf (part_texts (between_quotes w)) text last) → (t : List ℕ) →
    (IsUtf8 text → t ≡ text) → IsSpelling Scope w → IsUtf8 w → t ≡ dotted (part_texts (between_quotes w))
bracketed_whole w text last of t same n u =
    same (name_utf8 (between_quotes w) text last (in_brackets w n) (inner n) (of n)).whole ∙ (of n).whole
  where
    inner : IsSpelling Scope w → IsUtf8 (between_quotes w)
    inner (name, h, f) = subst IsUtf8 (sym (brackets_inner w name f)) (scope_name_utf8 w name f u)

pub named_id : (w text : List ℕ) (last : ℕ) → (IsName w → IsTextOf (part_texts w) text last) → (space name : List ℕ) →
    (IsUtf8 (take (last - 1) text) → space ≡ take (last - 1) text) → (IsUtf8 (drop last text) → name ≡ drop last text) →
    IsName w → IsUtf8 w → id_of space name ≡ id_of_texts (part_texts w)
named_id w text last of space name a b n u =
    let t = of n in
    let k = name_utf8 w text last n u t in
    let p : space ≡ dotted (all_but_last (part_texts w)) = a k.space ∙ t.space in
    let q : name ≡ last_text (part_texts w) = b k.name ∙ t.name in
    ap (λ x. id_of x name) p ∙ ap (λ x. id_of (dotted (all_but_last (part_texts w))) x) q
