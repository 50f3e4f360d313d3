-- What spells a token of each kind (II.5.2 to II.5.4): a set of byte strings for each, without a search, and whatever stands
-- behind them.
use Rattle.std.specs.Prelude.{ℕ, suc, ◌≡◌, ◌<◌, Bool, true, false, not, ◌==◌, ◌||◌, ◌⊎◌, List, [], ◌∷◌, ◌++◌, length, slice_index_or, codes, ⊤}
use Rattle.il_lexer.specs.Classes.{is_blank, is_digit, is_hex, is_id_start, is_id_part}
use Rattle.il_lexer.specs.Gaps.{is_close}
use Rattle.il_lexer.specs.Quotes.{is_octal_code, is_escape_letter}
use Rattle.il_lexer.specs.WordList.{words}
use Rattle.il_lexer.specs.declared.types.TokenKind.{TokenKind}
use Rattle.il_lexer.specs.declared.types.TokenKind.TheVariants.{Name, Scope, Int, QString, EqBytes, ByteArray, RealBytes, Hash, Unused, Word}

-- each of the bytes passes
abbrev pub Each : (ℕ → Bool) → List ℕ → Type 0
Each p [] = ⊤
Each p (b ∷ bs) = (p b ≡ true) × Each p bs

-- one byte at least, and each passes
abbrev pub EachOf : (ℕ → Bool) → List ℕ → Type 0
EachOf p [] = ⊥
EachOf p (b ∷ bs) = (p b ≡ true) × Each p bs

-- an identifier: a byte that begins one, and then any that go on in one
abbrev pub IsId : List ℕ → Type 0
IsId [] = ⊥
IsId (b ∷ bs) = (is_id_start b ≡ true) × Each is_id_part bs

-- what a backslash in quotes may take along: a letter of an escape, three octal digits from 001 to 177, or a line's end
pub data IsEscape : List ℕ → Type 0 where
  letter : {a : ℕ} {w : List ℕ} → is_escape_letter a ≡ true → w ≡ a ∷ [] → IsEscape w
  octal : {a b c : ℕ} {w : List ℕ} → is_octal_code (a ∷ b ∷ c ∷ []) ≡ true → w ≡ a ∷ b ∷ c ∷ [] → IsEscape w
  line : {w : List ℕ} → w ≡ 10 ∷ [] → IsEscape w
  return_line : {w : List ℕ} → w ≡ 13 ∷ 10 ∷ [] → IsEscape w

-- a byte that stands for itself between the quotes `q`: no quote, no line feed, no zero and no backslash
abbrev pub is_plain : ℕ → ℕ → Bool
is_plain q b = not (b == q || b == 10 || b == 0 || b == 92)

-- characters of one line, and escapes, between the quotes `q`
pub data IsText (q : ℕ) : List ℕ → Type 0 where
  none : IsText q []
  plain : {b : ℕ} {bs : List ℕ} → is_plain q b ≡ true → IsText q bs → IsText q (b ∷ bs)
  escape : {e bs w : List ℕ} → IsEscape e → IsText q bs → w ≡ 92 ∷ (e ++ bs) → IsText q w

-- a text of escaped line ends alone, which is the empty one
pub data IsEmptyText : List ℕ → Type 0 where
  nothing : IsEmptyText []
  line : {bs w : List ℕ} → IsEmptyText bs → w ≡ 92 ∷ 10 ∷ bs → IsEmptyText w
  return_line : {bs w : List ℕ} → IsEmptyText bs → w ≡ 92 ∷ 13 ∷ 10 ∷ bs → IsEmptyText w

-- a text in the quotes `q`
abbrev pub IsQuoted : ℕ → List ℕ → Type 0
IsQuoted q w = (text : List ℕ) × IsText q text × (w ≡ q ∷ (text ++ q ∷ []))

-- a part of a name in single quotes, which isn't empty
abbrev pub IsQuotedPart : List ℕ → Type 0
IsQuotedPart w = (text : List ℕ) × IsText 39 text × (¬ (IsEmptyText text)) × (w ≡ 39 ∷ (text ++ 39 ∷ []))

abbrev pub IsPart : List ℕ → Type 0
IsPart w = IsId w ⊎ IsQuotedPart w

-- a name: parts joined by single dots
pub data IsName : List ℕ → Type 0 where
  part : {w : List ℕ} → IsPart w → IsName w
  dotted : {first rest w : List ℕ} → IsPart first → IsName rest → w ≡ first ++ 46 ∷ rest → IsName w

-- a text up to and with the first `*/`
pub data IsClosed : List ℕ → Type 0 where
  close : {w : List ℕ} → w ≡ 42 ∷ 47 ∷ [] → IsClosed w
  before : {b : ℕ} {bs : List ℕ} → is_close (b ∷ bs) ≡ false → IsClosed bs → IsClosed (b ∷ bs)

abbrev pub is_no_line_feed : ℕ → Bool
is_no_line_feed b = not (b == 10)

-- A gap within a token: blanks, comments from `//` to the end of the line, and comments from `/*` to the next `*/`.
pub data IsGap : List ℕ → Type 0 where
  none : IsGap []
  blank : {b : ℕ} {bs : List ℕ} → is_blank b ≡ true → IsGap bs → IsGap (b ∷ bs)
  line : (text : List ℕ) {bs w : List ℕ} → Each is_no_line_feed text → IsGap (10 ∷ bs) → w ≡ 47 ∷ 47 ∷ (text ++ 10 ∷ bs) → IsGap w
  block : {text bs w : List ℕ} → IsClosed text → IsGap bs → w ≡ 47 ∷ 42 ∷ (text ++ bs) → IsGap w

-- so many pairs of hexadecimal digits, a gap behind each, which only behind the last may be nothing
pub data IsPairs : ℕ → List ℕ → Type 0 where
  none : {n : ℕ} {w : List ℕ} → n ≡ 0 → w ≡ [] → IsPairs n w
  last : {n a b : ℕ} {g w : List ℕ} → n ≡ 1 → is_hex a ≡ true → is_hex b ≡ true → IsGap g → w ≡ a ∷ b ∷ g → IsPairs n w
  more : {m n a b : ℕ} {g rest w : List ℕ} → n ≡ suc (suc m) → is_hex a ≡ true → is_hex b ≡ true → IsGap g → 0 < length g →
      IsPairs (suc m) rest → w ≡ a ∷ b ∷ (g ++ rest) → IsPairs n w

-- `(`, so many pairs with gaps, `)`
pub record IsBytes (count : ℕ) (w : List ℕ) : Type 0 where
  pub lead : List ℕ
  pub pairs : List ℕ
  pub gap : IsGap lead
  pub spelled : IsPairs count pairs
  pub is : w ≡ 40 ∷ (lead ++ (pairs ++ 41 ∷ []))

-- a gap, and bytes in parentheses
pub record HasBytes (w : List ℕ) : Type 0 where
  pub lead : List ℕ
  pub inner : List ℕ
  pub count : ℕ
  pub gap : IsGap lead
  pub bytes : IsBytes count inner
  pub is : w ≡ lead ++ inner

-- decimal digits
abbrev pub IsDecimal : List ℕ → Type 0
IsDecimal w = EachOf is_digit w

-- `0x` and hexadecimal digits
abbrev pub IsHexadecimal : List ℕ → Type 0
IsHexadecimal w = (digits : List ℕ) × EachOf is_hex digits × (w ≡ 48 ∷ 120 ∷ digits)

-- with a `-` before it or without
abbrev pub Signed : (List ℕ → Type 0) → List ℕ → Type 0
Signed P w = P w ⊎ ((digits : List ℕ) × P digits × (w ≡ 45 ∷ digits))

-- the word with the number `k`
abbrev pub IsWord : ℕ → List ℕ → Type 0
IsWord k w = (k < length words) × (slice_index_or words k [] ≡ w)

-- The bytes spell a token of the kind.
abbrev pub IsSpelling : TokenKind → List ℕ → Type 0
IsSpelling Name w = IsName w
IsSpelling Scope w = (name : List ℕ) × IsName name × (w ≡ 91 ∷ (name ++ 93 ∷ []))
IsSpelling Int w = Signed IsDecimal w ⊎ Signed IsHexadecimal w
IsSpelling QString w = IsQuoted 34 w
IsSpelling EqBytes w = (bytes : List ℕ) × HasBytes bytes × (w ≡ 61 ∷ bytes)
IsSpelling ByteArray w = (bytes : List ℕ) × HasBytes bytes × (w ≡ codes "bytearray" ++ bytes)
IsSpelling RealBytes w = IsBytes 4 w ⊎ IsBytes 8 w
IsSpelling Hash w = (id : List ℕ) × IsId id × (w ≡ 35 ∷ id)
IsSpelling Unused w = (id : List ℕ) × IsId id × (w ≡ 46 ∷ id)
IsSpelling (Word k) w = IsWord k w
