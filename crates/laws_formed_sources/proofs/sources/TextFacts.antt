-- Texts that tokens spell have no zero byte, and a name has one byte at least (ECMA-335 II.5.2, II.5.3).
use Rattle.std.proofs.Common.{◌≡◌, ℕ, zero, suc, ◌+◌, ◌*◌, ◌-◌, ◌<◌, ◌≤◌, Bool, true, false, ◌==◌, nat_lt, inl, inr, ◌⊎◌, List, [], ◌∷◌, ◌++◌, length, refl, ap, sym, subst, ◌∙◌, arith, length-append, append-nil, drop_at}
use Rattle.std.specs.Prelude.{if◌then◌else◌}
use Rattle.std.proofs.lemmas.Bool.{cond-true, lt-ltb, ltb-true, and_from, and_parts}
use Rattle.std.proofs.lemmas.Bool.Decides.{nat_tests}
use Rattle.il_lexer.specs.Classes.{is_id_start, is_id_part}
use Rattle.il_lexer.specs.Lexing.{Lexes}
use Rattle.il_lexer.specs.Longest.{LongestSpelling}
use Rattle.il_lexer.specs.Quotes.{is_octal_code, is_escape_letter}
use Rattle.il_lexer.specs.Spelled.{Each, IsEscape, IsText, IsPart, IsEmptyText, IsName, is_plain}
use Rattle.il_lexer.specs.Unplaced.{ReadsAsItLexes}
use Rattle.il_lexer.specs.declared.types.TokenKind.TheVariants.{Name, QString}
use Rattle.assembly_tree.specs.WellFormedNames.{has_no_zero, is_name, is_type_id}
use Rattle.source_model.specs.Nodes.{id_of_texts, type_id}
use Rattle.source_model.specs.Source.{Source, spelling}
use Rattle.source_model.specs.Values.{all_but_last, between_quotes, dotted, escape_bytes, last_text, letter_value, name_text, octal_value, part_text, part_texts, unescaped}
use Rattle.source_nodes.specs.Readers.{IsOf}
use Rattle.source_nodes.proofs.Lexed.{escape-exact}
use Rattle.source_nodes.proofs.NameLemmas.{id_text, no_texts, part_texts-at, quoted_text, string_text}
use Rattle.source_nodes.proofs.ReaderLemmas.{token_spelled}
use Rattle.source_nodes.proofs.Texts.{plain, unescaped-escape, unescaped-nil, unescaped-plain}

pub no_zero-append : (xs ys : List ℕ) → has_no_zero xs ≡ true → has_no_zero ys ≡ true → has_no_zero (xs ++ ys) ≡ true
no_zero-append [] ys h i = i
no_zero-append (x ∷ xs) ys h i =
    let b = and_parts (nat_lt 0 x) (has_no_zero xs) h in and_from (nat_lt 0 x) (has_no_zero (xs ++ ys)) b.0 (no_zero-append xs ys b.1 i)

one : (x : ℕ) → 0 < x → has_no_zero (x ∷ []) ≡ true
one x h = and_from (nat_lt 0 x) true (lt-ltb 0 x h) refl

-- ---- escapes

chosen : (c : Bool) (v x : ℕ) → 0 < v → 0 < x → 0 < (if c then v else x)
chosen true v x h i = h
chosen false v x h i = i

positive_letter : (b : ℕ) → is_escape_letter b ≡ true → 0 < letter_value b
positive_letter zero h = absurd cc
positive_letter (suc b) h =
    chosen (suc b == 116) 9 _ (omega arith) (chosen (suc b == 110) 10 _ (omega arith) (chosen (suc b == 114) 13 _ (omega arith)
    (chosen (suc b == 97) 7 _ (omega arith) (chosen (suc b == 98) 8 _ (omega arith) (chosen (suc b == 102) 12 _ (omega arith)
    (chosen (suc b == 118) 11 _ (omega arith) (omega arith)))))))

-- three octal digits give no zero
record Octal (a b c : ℕ) : Type 0 where
  first : (a ≡ 48) ⊎ (a ≡ 49)
  second : b ≤ 55
  third : c ≤ 55
  low-second : 48 ≤ b
  low-third : 48 ≤ c

octal : (a b c : ℕ) → is_octal_code (a ∷ b ∷ c ∷ []) ≡ true → Octal a b c
octal a b c h = grind (arith, nat_tests)

later : (b c : ℕ) → is_octal_code (48 ∷ b ∷ c ∷ []) ≡ true → 96 < b + c
later b c h = grind (arith, nat_tests)

escape_gives : {e : List ℕ} → IsEscape e → (after : List ℕ) → has_no_zero (escape_bytes (e ++ after)) ≡ true
escape_gives {e} (IsEscape.letter {a = a} h is) after =
    subst (λ w. has_no_zero (escape_bytes (w ++ after)) ≡ true) (sym is)
    (subst (λ w. has_no_zero w ≡ true) (sym (cond-true (is_escape_letter a) _ _ h)) (one (letter_value a) (positive_letter a h)))
escape_gives {e} (IsEscape.octal {a = a} {b = b} {c = c} h is) after =
    let o = octal a b c h in
    subst (λ w. has_no_zero (escape_bytes (w ++ after)) ≡ true) (sym is)
    (elim o.first [
      | inl e ↦
          let some = later b c (subst (λ x. is_octal_code (x ∷ b ∷ c ∷ []) ≡ true) e h) in
          let value : 0 < (0 + (b - 48)) * 8 + (c - 48) = omega (arith, some, o.second, o.third, o.low-second, o.low-third) in
          subst (λ x. has_no_zero (escape_bytes (x ∷ b ∷ c ∷ after)) ≡ true) (sym e) (one (octal_value (48 ∷ b ∷ c ∷ after)) value)
      | inr e ↦
          let value : 0 < (1 * 8 + (b - 48)) * 8 + (c - 48) = omega arith in
          subst (λ x. has_no_zero (escape_bytes (x ∷ b ∷ c ∷ after)) ≡ true) (sym e) (one (octal_value (49 ∷ b ∷ c ∷ after)) value)
    ])
escape_gives {e} (IsEscape.line is) after = subst (λ w. has_no_zero (escape_bytes (w ++ after)) ≡ true) (sym is) refl
escape_gives {e} (IsEscape.return_line is) after = subst (λ w. has_no_zero (escape_bytes (w ++ after)) ≡ true) (sym is) refl

-- ---- texts between quotes

not_zero : (q b : ℕ) → is_plain q b ≡ true → 0 < b
not_zero q zero h = absurd (go (zero == q) h)
  where
    go : (c : Bool) → is_plain q zero ≡ true → ⊥
    go c e = grind (arith, nat_tests)
not_zero q (suc b) h = omega arith

gives : {e : List ℕ} (bs w : List ℕ) → IsEscape e → w ≡ 92 ∷ (e ++ bs) → unescaped w ≡ escape_bytes (e ++ bs) ++ unescaped bs
gives {e} bs w h is =
    ap unescaped is ∙ unescaped-escape (e ++ bs) (length e) (escape-exact h bs)
    ∙ ap (λ x. escape_bytes (e ++ bs) ++ unescaped x) (drop_at e bs (length e) refl)

pub text_has_no_zero : {q : ℕ} {w : List ℕ} → IsText q w → has_no_zero (unescaped w) ≡ true
text_has_no_zero IsText.none = ap has_no_zero unescaped-nil
text_has_no_zero {q} (IsText.plain {b = b} {bs = bs} h t) =
    ap has_no_zero (unescaped-plain b bs (plain q b h).1)
    ∙ and_from (nat_lt 0 b) (has_no_zero (unescaped bs)) (lt-ltb 0 b (not_zero q b h)) (text_has_no_zero t)
text_has_no_zero {q} {w} (IsText.escape {e = e} {bs = bs} h t is) =
    ap has_no_zero (gives bs w h is) ∙ no_zero-append (escape_bytes (e ++ bs)) (unescaped bs) (escape_gives h bs) (text_has_no_zero t)

-- an escape gives a byte, or is a line's end
some_byte : {e : List ℕ} → IsEscape e → (bs : List ℕ) → (0 < length (escape_bytes (e ++ bs))) ⊎ ((e ≡ 10 ∷ []) ⊎ (e ≡ 13 ∷ 10 ∷ []))
some_byte {e} (IsEscape.letter {a = a} h is) bs =
    inl (subst (λ w. 0 < length (escape_bytes (w ++ bs))) (sym is) (subst (λ w. 0 < length w) (sym (cond-true (is_escape_letter a) _ _ h)) (omega arith)))
some_byte {e} (IsEscape.octal {a = a} {b = b} {c = c} h is) bs =
    inl (subst (λ w. 0 < length (escape_bytes (w ++ bs))) (sym is) (elim (octal a b c h).first [
      | inl e ↦ subst (λ x. 0 < length (escape_bytes (x ∷ b ∷ c ∷ bs))) (sym e) (omega arith)
      | inr e ↦ subst (λ x. 0 < length (escape_bytes (x ∷ b ∷ c ∷ bs))) (sym e) (omega arith)
    ]))
some_byte {e} (IsEscape.line is) bs = inr (inl is)
some_byte {e} (IsEscape.return_line is) bs = inr (inr is)

text_is_some : {q : ℕ} {w : List ℕ} → IsText q w → (IsEmptyText w → ⊥) → 0 < length (unescaped w)
text_is_some IsText.none some = absurd (some IsEmptyText.nothing)
text_is_some {q} (IsText.plain {b = b} {bs = bs} h t) some =
    subst (λ x. 0 < length x) (sym (unescaped-plain b bs (plain q b h).1)) (omega arith)
text_is_some {q} {w} (IsText.escape {e = e} {bs = bs} h t is) some =
    let l : length (unescaped w) ≡ length (escape_bytes (e ++ bs)) + length (unescaped bs) = ap length (gives bs w h is) ∙ length-append (escape_bytes (e ++ bs)) (unescaped bs) in
    elim (some_byte h bs) [
      | inl more ↦ omega (arith, l, more)
      | inr (inl line) ↦
          let more = text_is_some t (λ n. some (IsEmptyText.line n (is ∙ ap (λ x. 92 ∷ (x ++ bs)) line))) in omega (arith, l, more)
      | inr (inr line) ↦
          let more = text_is_some t (λ n. some (IsEmptyText.return_line n (is ∙ ap (λ x. 92 ∷ (x ++ bs)) line))) in omega (arith, l, more)
    ]

-- ---- names

id_byte : (b : ℕ) → is_id_part b ≡ true → 0 < b
id_byte zero h = absurd cc
id_byte (suc b) h = omega arith

start_byte : (b : ℕ) → is_id_start b ≡ true → 0 < b
start_byte zero h = absurd cc
start_byte (suc b) h = omega arith

id_bytes : (w : List ℕ) → Each is_id_part w → has_no_zero w ≡ true
id_bytes [] h = refl
id_bytes (b ∷ w) h = and_from (nat_lt 0 b) (has_no_zero w) (lt-ltb 0 b (id_byte b h.0)) (id_bytes w h.1)

named : (w : List ℕ) → 0 < length w → has_no_zero w ≡ true → is_name w ≡ true
named w some clean = and_from (nat_lt 0 (length w)) (has_no_zero w) (lt-ltb 0 (length w) some) clean

part_is_name : (w : List ℕ) → IsPart w → is_name (part_text w) ≡ true
part_is_name [] (inl id) = absurd id
part_is_name (b ∷ w) (inl id) =
    ap is_name (id_text (b ∷ w) id)
    ∙ named (b ∷ w) (omega arith) (and_from (nat_lt 0 b) (has_no_zero w) (lt-ltb 0 b (start_byte b id.0)) (id_bytes w id.1))
part_is_name w (inr (text, t, some, is)) =
    ap is_name (quoted_text w text is) ∙ named (unescaped text) (text_is_some t some) (text_has_no_zero t)

-- each of these texts is a name, and there is one at least
abbrev AllNames : List (List ℕ) → Type 0
AllNames [] = Unit {0}
AllNames (t ∷ ts) = (is_name t ≡ true) × AllNames ts

-- the parts of a name
record HasParts (w : List ℕ) : Type 0 where
  first : List ℕ
  more : List (List ℕ)
  are : part_texts w ≡ first ∷ more
  named : AllNames (first ∷ more)

has_parts : {w : List ℕ} → IsName w → HasParts w
has_parts {w} (IsName.part p) = record {
  first = part_text w;
  more = [];
  are = ap part_texts (sym (append-nil w)) ∙ part_texts-at w [] p (inl refl) ∙ ap (λ ts. part_text w ∷ ts) no_texts;
  named = (part_is_name w p, tt);
}
has_parts {w} (IsName.dotted {first = first} {rest = rest} p more is) =
    let r = has_parts more in
    record {
      first = part_text first;
      more = r.first ∷ r.more;
      are = ap part_texts is ∙ part_texts-at first (46 ∷ rest) p (inr refl) ∙ ap (λ ts. part_text first ∷ ts) r.are;
      named = (part_is_name first p, r.named);
    }

parts_of_name : (w : List ℕ) → is_name w ≡ true → (0 < length w) × (has_no_zero w ≡ true)
parts_of_name w h = let b = and_parts (nat_lt 0 (length w)) (has_no_zero w) h in (ltb-true 0 (length w) b.0, b.1)

dotted_clean : (ts : List (List ℕ)) → AllNames ts → has_no_zero (dotted ts) ≡ true
dotted_clean [] h = refl
dotted_clean (t ∷ []) h = (parts_of_name t h.0).1
dotted_clean (t ∷ u ∷ more) h = no_zero-append t (46 ∷ dotted (u ∷ more)) (parts_of_name t h.0).1 (dotted_clean (u ∷ more) h.1)

dotted_some : (t : List ℕ) (ts : List (List ℕ)) → AllNames (t ∷ ts) → 0 < length (dotted (t ∷ ts))
dotted_some t [] h = (parts_of_name t h.0).0
dotted_some t (u ∷ more) h =
    omega (arith, (parts_of_name t h.0).0, length-append t (46 ∷ dotted (u ∷ more)))

last_is_name : (t : List ℕ) (ts : List (List ℕ)) → AllNames (t ∷ ts) → is_name (last_text (t ∷ ts)) ≡ true
last_is_name t [] h = h.0
last_is_name t (u ∷ more) h = last_is_name u more h.1

but_last_named : (ts : List (List ℕ)) → AllNames ts → AllNames (all_but_last ts)
but_last_named [] h = tt
but_last_named (t ∷ []) h = tt
but_last_named (t ∷ u ∷ more) h = (h.0, but_last_named (u ∷ more) h.1)

pub dotted_is_name : (w : List ℕ) → IsName w → is_name (dotted (part_texts w)) ≡ true
dotted_is_name w h =
    let p = has_parts h in
    ap (λ ts. is_name (dotted ts)) p.are
    ∙ named (dotted (p.first ∷ p.more)) (dotted_some p.first p.more p.named) (dotted_clean (p.first ∷ p.more) p.named)

pub parts_are_id : (w : List ℕ) → IsName w → is_type_id (id_of_texts (part_texts w)) ≡ true
parts_are_id w h =
    let p = has_parts h in
    ap (λ ts. is_type_id (id_of_texts ts)) p.are
    ∙ and_from (has_no_zero (dotted (all_but_last (p.first ∷ p.more)))) (is_name (last_text (p.first ∷ p.more)))
    (dotted_clean (all_but_last (p.first ∷ p.more)) (but_last_named (p.first ∷ p.more) p.named))
    (last_is_name p.first p.more p.named)

-- ---- tokens of a source that lexes

module _ (longest : LongestSpelling) (reads : ReadsAsItLexes) (s : Source) (lexes : Lexes s.bytes s.tokens) where
  pub name_token : (k : ℕ) → IsOf s Name k → is_name (name_text s k) ≡ true
  name_token k is = dotted_is_name (spelling s k) (token_spelled longest reads s lexes Name k is)

  pub id_token : (k : ℕ) → IsOf s Name k → is_type_id (type_id s k) ≡ true
  id_token k is = parts_are_id (spelling s k) (token_spelled longest reads s lexes Name k is)

  pub string_token : (k : ℕ) → IsOf s QString k → has_no_zero (unescaped (between_quotes (spelling s k))) ≡ true
  string_token k is =
      let t = string_text (spelling s k) (token_spelled longest reads s lexes QString k is) in
      subst (λ x. has_no_zero (unescaped x) ≡ true) t.3 (text_has_no_zero t.1)
