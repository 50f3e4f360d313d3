-- What these spellings are: each is a token of its kind, whatever it spells, and no word takes it from that kind.
use Rattle.std.specs.Prelude.{ℕ, ◌≡◌, ◌<◌, ◌^◌, ◌&&◌, ◌||◌, ◌==◌, nat_lt, Bool, true, false, ℤ, List, [], ◌∷◌, length, codes, bytes_eq}
use lib.Signed.{mag}
use Rattle.std.specs.List.{list_all, list_any}
use Rattle.il_lexer.specs.Spelled.{IsSpelling}
use Rattle.il_lexer.specs.Longest.{IsOwn, ends}
use Rattle.il_lexer.specs.declared.types.TokenKind.{TokenKind}
use Rattle.il_lexer.specs.declared.types.TokenKind.TheVariants.{Name, Scope, Int, QString, EqBytes, ByteArray}
use Rattle.listing_leaves.specs.Bytes.{equals_bytes, byte_array}
use Rattle.listing_leaves.specs.Names.{name, type_name, scope}
use Rattle.listing_leaves.specs.Numbers.{hexadecimal, natural, integer, label, data_label}
use Rattle.listing_leaves.specs.Texts.{quoted, quoted_units, is_simple_string}

-- the bytes are a token of the kind, and no word is spelled so
pub record IsLeaf (kind : TokenKind) (text : List ℕ) : Type 0 where
  pub spelled : IsSpelling kind text
  pub own : IsOwn kind text

-- numbers below 2^128 are integers, and labels are names
pub record NumbersAreLeaves : Type 0 where
  pub natural : (n : ℕ) → n < 2 ^ 128 → IsLeaf Int (natural n)
  pub integer : (z : ℤ) → mag z < 2 ^ 127 → IsLeaf Int (integer z)
  pub hexadecimal : (width n : ℕ) → n < 2 ^ 128 → IsLeaf Int (hexadecimal width n)
  pub label : (offset : ℕ) → offset < 2 ^ 128 → IsLeaf Name (label offset)
  pub data_label : (k : ℕ) → k < 2 ^ 128 → IsLeaf Name (data_label k)

-- bytes are
abbrev pub are_bytes : List ℕ → Bool
are_bytes bytes = list_all (λ b. nat_lt b 256) bytes

pub record BytesAreLeaves : Type 0 where
  pub equals : (bytes : List ℕ) → are_bytes bytes ≡ true → IsLeaf EqBytes (equals_bytes bytes)
  pub array : (bytes : List ℕ) → are_bytes bytes ≡ true → IsLeaf ByteArray (byte_array bytes)

-- texts without a zero byte are, and strings of which each unit is simple
abbrev pub has_no_zero : List ℕ → Bool
has_no_zero text = list_all (λ b. nat_lt 0 b) text

pub record TextsAreLeaves : Type 0 where
  pub text : (text : List ℕ) → has_no_zero text ≡ true → IsLeaf QString (quoted 34 text)
  pub units : (units : List ℕ) → is_simple_string units ≡ true → IsLeaf QString (quoted_units units)

-- and so are names: texts that aren't empty and have no zero byte. A type's space may be empty.
abbrev pub is_name : List ℕ → Bool
is_name text = nat_lt 0 (length text) && has_no_zero text

pub record NamesAreLeaves : Type 0 where
  pub name : (text : List ℕ) → is_name text ≡ true → IsLeaf Name (name text)
  pub type_name : (space text : List ℕ) → has_no_zero space ≡ true → is_name text ≡ true → IsLeaf Name (type_name space text)
  pub scope : (text : List ℕ) → is_name text ≡ true → IsLeaf Scope (scope text)

-- ---- where they end

-- a blank, a line's end, or one of `, ) ] > : / ( [ < & *`
abbrev pub is_end : ℕ → Bool
is_end c = list_any (λ e. e == c) (32 ∷ 10 ∷ 44 ∷ 41 ∷ 93 ∷ 62 ∷ 58 ∷ 47 ∷ 40 ∷ 91 ∷ 60 ∷ 38 ∷ 42 ∷ [])

-- the text may go on with this byte: `:` with another one, `/` with a comment's second byte, and `=`, `(` and `bytearray` with bytes
-- in parentheses
abbrev pub goes_on : List ℕ → ℕ → Bool
goes_on text c =
    (bytes_eq text (codes ":") && (c == 58)) || (bytes_eq text (codes "/") && ((c == 42) || (c == 47))) || bytes_eq text (codes "=")
    || bytes_eq text (codes "(") || bytes_eq text (codes "bytearray")

-- any other token ends before such a byte, whatever stands behind that
abbrev pub LeavesEnd : Type 0
LeavesEnd =
    (kind : TokenKind) (text : List ℕ) (c : ℕ) (rest : List ℕ) → is_end c ≡ true → goes_on text c ≡ false →
    ends kind text (c ∷ rest) ≡ true
