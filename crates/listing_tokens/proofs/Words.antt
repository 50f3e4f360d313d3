-- Each leaf ends before what stands behind it, so that the text of leaves reads as them.
use Rattle.std.proofs.Common.{◌≡◌, inl, inr, ℕ, zero, suc, ◌+◌, ◌*◌, ◌<◌, ◌&&◌, ◌||◌, not, nat_eq, Bool, true, false, cond, List, [], ◌∷◌, ◌++◌, map, length, None, Some, refl, sym, subst, ap, ◌∙◌, append_assoc, arith}
use Rattle.std.proofs.lemmas.Bool.{and_parts, cases_Bool, eqb-true, false≢true}
use Rattle.std.specs.Cmp.Lexicographic.{bytes_decides}
use Rattle.std.specs.Prelude.{codes, Option}
use Rattle.std.specs.Str.{bytes_eq}
use Rattle.il_lexer.specs.Classes.{is_blank}
use Rattle.il_lexer.specs.Longest.{IsOwn, ends, ends_word, is_word}
use Rattle.il_lexer.specs.Spelled.{Each}
use Rattle.il_lexer.specs.Unplaced.{Reads, PrintedReads}
use Rattle.il_lexer.specs.WordList.{words, word_number}
use Rattle.il_lexer.specs.declared.types.TokenKind.{TokenKind}
use Rattle.il_lexer.specs.declared.types.TokenKind.TheVariants.{Name, Scope, Int, QString, EqBytes, ByteArray, RealBytes, Hash, Unused, Word}
use Rattle.il_lexer.specs.declared.word.TheConstants as word
use Rattle.listing_leaves.specs.Laws.{IsLeaf, goes_on, LeavesEnd}
use Rattle.listing_model.specs.Shown.{Leaf, Shown, leaves}
use Rattle.listing_model.specs.Text.{State, is_the, shuts_behind, joins_integer, has_blank, lead, gap, blanks, line_depth, line_end, next, text_from}
use Rattle.listing_tokens.specs.Laws.{spelling}
use Rattle.listing_tokens.proofs.Ends.{behind, AreFine, BeginsWithEnd, then_end, then_end_at, word_text, goes_far, is_far, near_test, all_near, tested_at, paren_ends, bracket_ends, slash_ends, bang_ends, equals_ends, colon_ends, starts_line, within, with_blank, one_of, worded, direct}
use Rattle.listing_tokens.proofs.Sound.{word_passes, passes, room_behind, Sound}

-- ---- texts that may go on

no_five : (a b c d e x y : Bool) → (a || b || c || d || e) ≡ false → ((a && x) || (b && y) || c || d || e) ≡ false
no_five false false false false false x y h = refl
no_five true b c d e x y h = absurd (grind (arith, h))
no_five false true c d e x y h = absurd (grind (arith, h))
no_five false false true d e x y h = absurd (grind (arith, h))
no_five false false false true e x y h = absurd (grind (arith, h))
no_five false false false false true x y h = absurd (grind (arith, h))

stops : (w : List ℕ) (c : ℕ) → goes_far w ≡ false → goes_on w c ≡ false
stops w c h = no_five (bytes_eq w (codes ":")) (bytes_eq w (codes "/")) (bytes_eq w (codes "=")) (bytes_eq w (codes "(")) (bytes_eq w (codes "bytearray")) _ _ h

isnt : (w v : List ℕ) (k : ℕ) → word_number w ≡ None → word_number v ≡ Some k → bytes_eq w v ≡ false
isnt w v k n s = elim (cases_Bool (bytes_eq w v)) [
  | inl e ↦ let same : w ≡ v = (bytes_decides w v).0 e in let bad : None ≡ Some k = sym n ∙ (ap word_number same ∙ s) in absurd cc
  | inr e ↦ e
]

all_false : (a b c d e : Bool) → a ≡ false → b ≡ false → c ≡ false → d ≡ false → e ≡ false → (a || b || c || d || e) ≡ false
all_false a b c d e f g h i j = simp (f, g, h, i, j) refl

-- a text that is no word is none of these
not_far : (w : List ℕ) → word_number w ≡ None → goes_far w ≡ false
unfolding words
not_far w n =
    all_false _ _ _ _ _ (isnt w (codes ":") word.COLON n refl) (isnt w (codes "/") word.SLASH n refl) (isnt w (codes "=") word.EQUALS n refl)
    (isnt w (codes "(") word.OPEN_PAREN n refl) (isnt w (codes "bytearray") word.BYTEARRAY n refl)

own_number : (kind : TokenKind) (w : List ℕ) → is_word kind ≡ false → IsOwn kind w → word_number w ≡ None
own_number kind w h (inl e) = absurd (false≢true (sym h ∙ e))
own_number kind w h (inr n) = n

-- ---- words

abbrev EndsAs : ℕ → Type 0
EndsAs k = (s : State) (ls : List Leaf) → s.last ≡ Some (Word k) → word_passes k ls ≡ true → AreFine ls → ends_word (word_text k) (behind s ls) ≡ true

paren : EndsAs word.OPEN_PAREN
unfolding words
paren s ls e h f = paren_ends s ls e h f

bracket : EndsAs word.OPEN_BRACKET
unfolding words
bracket s ls e h f = bracket_ends s ls e h f

slash : EndsAs word.SLASH
unfolding words
slash s ls e h f = slash_ends s ls e h f

bang : EndsAs word.BANG
unfolding words
bang s ls e h f = bang_ends s ls e h f

equals : EndsAs word.EQUALS
unfolding words
equals s ls e h f = equals_ends s ls e h f

colon : EndsAs word.COLON
unfolding words
colon s ls e h f = colon_ends s ls e h f

less : EndsAs word.LESS
unfolding words
less s ls e h f = refl

double_colon : EndsAs word.DOUBLE_COLON
unfolding words
double_colon s ls e h f = refl

double_bang : EndsAs word.DOUBLE_BANG
unfolding words
double_bang s ls e h f = refl

ellipsis : EndsAs word.ELLIPSIS
unfolding words
ellipsis s ls e h f = refl

turned : (k j : ℕ) → nat_eq k j ≡ false → nat_eq j k ≡ false
turned k j h = grind arith

not_so : (b : Bool) → not b ≡ true → b ≡ false
not_so false h = refl
not_so true h = absurd (false≢true h)

module _ (leaves_end : LeavesEnd) where
  from_end : (kind : TokenKind) (w after : List ℕ) → goes_far w ≡ false → BeginsWithEnd after → ends kind w after ≡ true
  from_end kind w after far b =
      subst (λ y. ends kind w y ≡ true) (sym b.is) (leaves_end kind w b.first b.rest b.ends (stops w b.first far))

  other : (k : ℕ) → k < length words → nat_eq k word.OPEN_PAREN ≡ false → nat_eq k word.OPEN_BRACKET ≡ false → nat_eq k word.SLASH ≡ false →
      nat_eq k word.BANG ≡ false → nat_eq k word.EQUALS ≡ false → nat_eq k word.COLON ≡ false → nat_eq k word.LESS ≡ false →
      nat_eq k word.DOUBLE_COLON ≡ false → nat_eq k word.DOUBLE_BANG ≡ false → nat_eq k word.ELLIPSIS ≡ false → EndsAs k
  other k low e1 e2 e3 e4 e5 e6 e7 e8 e9 e10 s ls e h f =
      let last : not (nat_eq k word.BYTEARRAY) ≡ true = simp (e1, e2, e3, e4, e5, e6) at h in
      let no_bytes : nat_eq k word.BYTEARRAY ≡ false = not_so (nat_eq k word.BYTEARRAY) last in
      let at : 0 + k ≡ k = omega arith in
      let t : (is_far k || not (goes_far (word_text k))) ≡ true = subst (λ j. near_test j (word_text k) ≡ true) at (tested_at near_test 0 words all_near k low) in
      let near : is_far k ≡ false = simp (e6, e3, e5, e1, no_bytes) refl in
      let short : not (goes_far (word_text k)) ≡ true = subst (λ b. (b || not (goes_far (word_text k))) ≡ true) near t in
      let far : goes_far (word_text k) ≡ false = not_so (goes_far (word_text k)) short in
      let quiet : shuts_behind (Word k) ≡ false =
      simp (turned k word.OPEN_PAREN e1, turned k word.OPEN_BRACKET e2, turned k word.LESS e7, turned k word.DOUBLE_COLON e8, turned k word.SLASH e3, turned k word.BANG e4, turned k word.DOUBLE_BANG e9) refl in
      let apart : (o : TokenKind) → joins_integer (Word k) o ≡ false = λ o. simp (turned k word.COLON e6, turned k word.ELLIPSIS e10) refl in
      from_end (Word k) (word_text k) (behind s ls) far (then_end s ls (Word k) e f quiet apart)

  -- a number that is one of these, or none of them
  or_this : (P : ℕ → Type 0) (k j : ℕ) → P j → (nat_eq k j ≡ false → P k) → P k
  or_this P k j p q = elim (cases_Bool (nat_eq k j)) [
    | inl e ↦ subst P (sym (eqb-true k j e)) p
    | inr e ↦ q e
  ]

  word_ends : (k : ℕ) → k < length words → EndsAs k
  word_ends k low =
      or_this EndsAs k word.OPEN_PAREN paren (λ e1.
      or_this EndsAs k word.OPEN_BRACKET bracket (λ e2.
      or_this EndsAs k word.SLASH slash (λ e3.
      or_this EndsAs k word.BANG bang (λ e4.
      or_this EndsAs k word.EQUALS equals (λ e5.
      or_this EndsAs k word.COLON colon (λ e6.
      or_this EndsAs k word.LESS less (λ e7.
      or_this EndsAs k word.DOUBLE_COLON double_colon (λ e8.
      or_this EndsAs k word.DOUBLE_BANG double_bang (λ e9.
      or_this EndsAs k word.ELLIPSIS ellipsis (λ e10.
      other k low e1 e2 e3 e4 e5 e6 e7 e8 e9 e10))))))))))

  -- ---- integers

  ellipsis_kind : (kind : TokenKind) → is_the word.ELLIPSIS kind ≡ true → kind ≡ Word word.ELLIPSIS
  ellipsis_kind kind h =
      let is = one_of (λ j. nat_eq j word.ELLIPSIS) (word.ELLIPSIS ∷ []) kind h refl in is.1 ∙ ap (λ k. Word k) (eqb-true is.0 word.ELLIPSIS is.2)

  dots_text : (m : Leaf) → m.kind ≡ Word word.ELLIPSIS → IsLeaf m.kind m.text → codes "..." ≡ m.text
  unfolding words
  dots_text m e f = worded m word.ELLIPSIS e f

  before_dots : (w : List ℕ) (s : State) (m : Leaf) (ms : List Leaf) → s.last ≡ Some Int → m.kind ≡ Word word.ELLIPSIS → IsLeaf m.kind m.text →
      goes_far w ≡ false → ends Int w (behind s (m ∷ ms)) ≡ true
  before_dots w s m ms e k f far = elim (cases_Bool m.starts) [
    | inl b ↦ from_end Int w (behind s (m ∷ ms)) far (starts_line s m ms Int e b)
    | inr b ↦ elim (cases_Bool (has_blank Int m)) [
      | inl g ↦ subst (λ y. ends Int w y ≡ true) (sym (within s m ms Int e b ∙ with_blank Int m (m.text ++ behind (next s m) ms) g)) refl
      | inr g ↦
          subst (λ y. ends Int w y ≡ true) (sym (direct s m ms Int e b g))
          (subst (λ t. ends Int w (t ++ behind (next s m) ms) ≡ true) (dots_text m k f) refl)
    ]
  ]

  int_ends : (w : List ℕ) (s : State) (ls : List Leaf) → s.last ≡ Some Int → AreFine ls → goes_far w ≡ false → ends Int w (behind s ls) ≡ true
  int_ends w s [] e f far = refl
  int_ends w s (m ∷ ms) e f far = elim (cases_Bool (is_the word.ELLIPSIS m.kind)) [
    | inl d ↦ before_dots w s m ms e (ellipsis_kind m.kind d) f.0 far
    | inr d ↦ from_end Int w (behind s (m ∷ ms)) far (then_end_at s m ms Int e f.0 refl d)
  ]

  -- ---- tokens

  token_ends : (kind : TokenKind) (w : List ℕ) → IsLeaf kind w → (s : State) (ls : List Leaf) → s.last ≡ Some kind → passes kind ls ≡ true → AreFine ls →
      ends kind w (behind s ls) ≡ true
  token_ends Name w l s ls e h f = from_end Name w (behind s ls) (not_far w (own_number Name w refl l.own)) (then_end s ls Name e f refl (λ o. refl))
  token_ends Int w l s ls e h f = int_ends w s ls e f (not_far w (own_number Int w refl l.own))
  token_ends Scope w l s ls e h f = refl
  token_ends QString w l s ls e h f = refl
  token_ends EqBytes w l s ls e h f = refl
  token_ends ByteArray w l s ls e h f = refl
  token_ends RealBytes w l s ls e h f = absurd (false≢true h)
  token_ends Hash w l s ls e h f = absurd (false≢true h)
  token_ends Unused w l s ls e h f = absurd (false≢true h)
  token_ends (Word k) w l s ls e h f =
      subst (λ t. ends_word t (behind s ls) ≡ true) l.spelled.1 (word_ends k l.spelled.0 s ls e (and_parts _ _ h).1 f)

  -- ---- the text

  blank_depth : (n : ℕ) → Each is_blank (blanks n)
  blank_depth zero = tt
  blank_depth (suc n) = (refl, blank_depth n)

  each_both : (xs ys : List ℕ) → Each is_blank xs → Each is_blank ys → Each is_blank (xs ++ ys)
  each_both [] ys h k = k
  each_both (x ∷ xs) ys h k = (h.0, each_both xs ys h.1 k)

  blank_end : (o : Option TokenKind) → Each is_blank (line_end o)
  blank_end None = tt
  blank_end (Some k) = (refl, tt)

  blank_by : (b : Bool) → Each is_blank (cond b (32 ∷ []) [])
  blank_by true = (refl, tt)
  blank_by false = tt

  blank_gap : (o : Option TokenKind) (l : Leaf) → Each is_blank (gap o l)
  blank_gap None l = tt
  blank_gap (Some k) l = blank_by (has_blank k l)

  lead_by : (b : Bool) (xs ys : List ℕ) → Each is_blank xs → Each is_blank ys → Each is_blank (cond b xs ys)
  lead_by true xs ys h k = h
  lead_by false xs ys h k = k

  blank_lead : (s : State) (l : Leaf) → Each is_blank (lead s l)
  blank_lead s l =
      lead_by l.starts (line_end s.last ++ blanks (2 * line_depth s.depth l)) (gap s.last l)
      (each_both (line_end s.last) (blanks (2 * line_depth s.depth l)) (blank_end s.last) (blank_depth (2 * line_depth s.depth l))) (blank_gap s.last l)

  -- the text of leaves that are fine reads as they
  pub reads : PrintedReads → (s : State) (ls : List Leaf) → AreFine ls → Reads (behind s ls) (map spelling ls)
  reads printed s [] f = printed.last (10 ∷ []) (refl, tt)
  reads printed s (l ∷ ls) f =
      subst (λ t. Reads t (map spelling (l ∷ ls)))
      (sym (append_assoc (lead s l) (l.text ++ text_from (next s l) ls) (10 ∷ []) ∙ ap (λ t. lead s l ++ t) (append_assoc l.text (text_from (next s l) ls) (10 ∷ []))))
      (printed.next (lead s l) (spelling l) (behind (next s l) ls) (map spelling ls) (blank_lead s l) f.0.spelled f.0.own
      (token_ends l.kind l.text f.0 (next s l) ls refl f.1 f.2) (reads printed (next s l) ls f.2))

-- sound trees are fine
pub fine : (r : ℕ) (g : Shown) (rest : List Leaf) → Sound r g rest → AreFine rest → AreFine (leaves g ++ rest)
fine r Shown.none rest h f = f
fine r (Shown.leaf l after) rest h f = (h.0.spelled, h.0.ends, fine (room_behind l.kind r) after rest h.1 f)
fine r (Shown.branch p below after) rest h f =
    subst AreFine (sym (append_assoc (leaves below) (leaves after) rest)) (fine r below (leaves after ++ rest) h.0 (fine r after rest h.1 f))
