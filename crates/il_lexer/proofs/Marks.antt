-- Words and their numbers, and the marks among them.
use Rattle.std.proofs.Common.{◌≡◌, ℕ, ◌+◌, ◌<◌, List, [], ◌∷◌, length, get_or, codes, Some, refl, sym, subst, arith}
use Rattle.il_lexer.specs.WordList.{words, word_number}
use Rattle.il_lexer.specs.Spelled.{IsWord}
use Rattle.il_lexer.specs.declared.word.TheConstants.{
  BANG,
  DOUBLE_BANG,
  AMPERSAND,
  OPEN_PAREN,
  CLOSE_PAREN,
  STAR,
  PLUS,
  COMMA,
  MINUS,
  ELLIPSIS,
  SLASH,
  COLON,
  DOUBLE_COLON,
  LESS,
  EQUALS,
  GREATER,
  OPEN_BRACKET,
  CLOSE_BRACKET,
  OPEN_BRACE,
  CLOSE_BRACE,
  BYTEARRAY,
}
use Rattle.il_lexer.proofs.WordNumbers.{Found, place-some, number-some, words-len}

pub number-word : (w : List ℕ) (k : ℕ) → word_number w ≡ Some k → IsWord k w
number-word w k h =
    let f : Found words 0 w k = place-some words 0 w k h in
    let place : k ≡ 0 + f.behind = f.place in
    let same : f.behind ≡ k = omega arith in
    (subst (λ n. n < length words) same f.within, subst (λ n. get_or words n [] ≡ w) same f.same)

pub word-number : (w : List ℕ) (k : ℕ) → IsWord k w → word_number w ≡ Some k
word-number w k h = number-some w k (subst (λ n. k < n) words-len h.0) h.1

word_at : (k : ℕ) (w : List ℕ) → k < 401 → get_or words k [] ≡ w → IsWord k w
word_at k w lt e = (subst (λ n. k < n) (sym words-len) lt, e)

pub bytearray : IsWord BYTEARRAY (codes "bytearray")
unfolding words
bytearray = word_at BYTEARRAY (codes "bytearray") (omega arith) refl

pub bang : IsWord BANG (33 ∷ [])
unfolding words
bang = word_at BANG (33 ∷ []) (omega arith) refl

pub double_bang : IsWord DOUBLE_BANG (33 ∷ 33 ∷ [])
unfolding words
double_bang = word_at DOUBLE_BANG (33 ∷ 33 ∷ []) (omega arith) refl

pub ampersand : IsWord AMPERSAND (38 ∷ [])
unfolding words
ampersand = word_at AMPERSAND (38 ∷ []) (omega arith) refl

pub open_paren : IsWord OPEN_PAREN (40 ∷ [])
unfolding words
open_paren = word_at OPEN_PAREN (40 ∷ []) (omega arith) refl

pub close_paren : IsWord CLOSE_PAREN (41 ∷ [])
unfolding words
close_paren = word_at CLOSE_PAREN (41 ∷ []) (omega arith) refl

pub star : IsWord STAR (42 ∷ [])
unfolding words
star = word_at STAR (42 ∷ []) (omega arith) refl

pub plus : IsWord PLUS (43 ∷ [])
unfolding words
plus = word_at PLUS (43 ∷ []) (omega arith) refl

pub comma : IsWord COMMA (44 ∷ [])
unfolding words
comma = word_at COMMA (44 ∷ []) (omega arith) refl

pub minus : IsWord MINUS (45 ∷ [])
unfolding words
minus = word_at MINUS (45 ∷ []) (omega arith) refl

pub ellipsis : IsWord ELLIPSIS (46 ∷ 46 ∷ 46 ∷ [])
unfolding words
ellipsis = word_at ELLIPSIS (46 ∷ 46 ∷ 46 ∷ []) (omega arith) refl

pub slash : IsWord SLASH (47 ∷ [])
unfolding words
slash = word_at SLASH (47 ∷ []) (omega arith) refl

pub colon : IsWord COLON (58 ∷ [])
unfolding words
colon = word_at COLON (58 ∷ []) (omega arith) refl

pub double_colon : IsWord DOUBLE_COLON (58 ∷ 58 ∷ [])
unfolding words
double_colon = word_at DOUBLE_COLON (58 ∷ 58 ∷ []) (omega arith) refl

pub less : IsWord LESS (60 ∷ [])
unfolding words
less = word_at LESS (60 ∷ []) (omega arith) refl

pub equals : IsWord EQUALS (61 ∷ [])
unfolding words
equals = word_at EQUALS (61 ∷ []) (omega arith) refl

pub greater : IsWord GREATER (62 ∷ [])
unfolding words
greater = word_at GREATER (62 ∷ []) (omega arith) refl

pub open_bracket : IsWord OPEN_BRACKET (91 ∷ [])
unfolding words
open_bracket = word_at OPEN_BRACKET (91 ∷ []) (omega arith) refl

pub close_bracket : IsWord CLOSE_BRACKET (93 ∷ [])
unfolding words
close_bracket = word_at CLOSE_BRACKET (93 ∷ []) (omega arith) refl

pub open_brace : IsWord OPEN_BRACE (123 ∷ [])
unfolding words
open_brace = word_at OPEN_BRACE (123 ∷ []) (omega arith) refl

pub close_brace : IsWord CLOSE_BRACE (125 ∷ [])
unfolding words
close_brace = word_at CLOSE_BRACE (125 ∷ []) (omega arith) refl
