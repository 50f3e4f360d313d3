-- What a listing is written on: the text so far, and the state behind its last token.
use Rattle.std.specs.Prelude.{ℕ, ◌-◌, ◌*◌, ◌==◌, ◌||◌, Bool, true, false, if◌then◌else◌, List, [], ◌∷◌, ◌++◌, Option}
use Rattle.il_lexer.specs.declared.types.TokenKind.{TokenKind}
use Rattle.il_lexer.specs.declared.types.TokenKind.TheVariants.{QString, ByteArray, Word}
use Rattle.il_lexer.specs.declared.word.TheConstants.{CLOSE_BRACE}
use Rattle.listing_leaves.specs.Bytes.{byte_array}
use Rattle.listing_leaves.specs.Texts.{quoted_units, is_simple_string, unit_bytes, is_control}
use Rattle.listing_model.specs.Shown.{Leaf, Shown, none, leaf, branch, token, word_text}
use Rattle.listing_model.specs.Text.{State, front, lead, next, line_end, blanks, gap}

pub record Page : Type 0 where
  pub text : List ℕ
  pub state : State

-- nothing is written
abbrev pub blank : Page
blank = record { text = []; state = front }

-- more bytes of the last token
abbrev pub added : Page → List ℕ → Page
added p bytes = record { text = p.text ++ bytes; state = p.state }

-- a token by what the blanks before it depend on
abbrev pub leaf_of : Bool → Bool → TokenKind → Leaf
leaf_of starts apart kind = record { starts = starts; apart = apart; kind = kind; text = [] }

abbrev pub word_leaf : Bool → Bool → ℕ → Leaf
word_leaf starts apart k = record { starts = starts; apart = apart; kind = Word k; text = word_text k }

-- a token is begun: what stands before it is written
unfoldable pub begun : Page → Leaf → Page
begun p l = record { text = p.text ++ lead p.state l; state = next p.state l }

-- a token is written
unfoldable pub written : Page → Leaf → Page
written p l = added (begun p (leaf_of l.starts l.apart l.kind)) l.text

-- the tokens of a piece are written, from left to right
abbrev pub drawn : Page → Shown → Page
drawn p none = p
drawn p (leaf l after) = drawn (written p l) after
drawn p (branch production below after) = drawn (drawn p below) after

-- the depth of a word's line: a `}` stands as deep as its `{`
abbrev pub depth_of_line : ℕ → ℕ → ℕ
depth_of_line depth k = if k == CLOSE_BRACE then depth - 1 else depth

-- the end of the line before, if there is one, and two blanks a brace
abbrev pub line_begin : Bool → ℕ → List ℕ
line_begin ends depth = (if ends then 10 ∷ [] else []) ++ blanks (2 * depth)

-- what stands before a token in a line of this depth, behind a token of this kind
abbrev pub lead_in : ℕ → Option TokenKind → Leaf → List ℕ
lead_in depth last l = if l.starts then line_end last ++ blanks (2 * depth) else gap last l

-- a kind that no brace has
abbrev pub is_no_word : TokenKind → Bool
is_no_word (Word k) = false
is_no_word _ = true

-- a string of UTF-16 units is written
abbrev pub units_drawn : Page → List ℕ → Page
units_drawn p units =
    if is_simple_string units then drawn p (token QString (quoted_units units) none)
    else drawn p (token ByteArray (byte_array (unit_bytes units)) none)

-- a byte between the quotes `q` is spelled by an escape
abbrev pub wants_escape : ℕ → ℕ → Bool
wants_escape q b = b == 92 || b == q || is_control b
