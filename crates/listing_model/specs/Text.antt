-- The text of a listing: its tokens with the blanks and the lines between them.
use Rattle.std.specs.Prelude.{ℕ, zero, suc, ◌-◌, ◌*◌, ◌==◌, ◌&&◌, ◌||◌, not, Bool, true, false, if◌then◌else◌, List, [], ◌∷◌, ◌++◌, Option, None, Some}
use Rattle.std.specs.List.{list_any}
use Rattle.il_lexer.specs.declared.types.TokenKind.{TokenKind}
use Rattle.il_lexer.specs.declared.types.TokenKind.TheVariants.{Scope, Int, Word}
use Rattle.il_lexer.specs.declared.word.TheConstants.{
  BANG,
  DOUBLE_BANG,
  AMPERSAND,
  OPEN_PAREN,
  CLOSE_PAREN,
  STAR,
  COMMA,
  ELLIPSIS,
  SLASH,
  COLON,
  DOUBLE_COLON,
  LESS,
  GREATER,
  OPEN_BRACKET,
  CLOSE_BRACKET,
  OPEN_BRACE,
  CLOSE_BRACE,
}
use Rattle.listing_model.specs.Shown.{Leaf, Shown, leaves}

-- ---- kinds

-- the token is one of these words
abbrev pub is_one_of : List ℕ → TokenKind → Bool
is_one_of ks (Word k) = list_any (λ j. j == k) ks
is_one_of ks _ = false

abbrev pub is_the : ℕ → TokenKind → Bool
is_the k kind = is_one_of (k ∷ []) kind

abbrev pub is_int : TokenKind → Bool
is_int Int = true
is_int _ = false

abbrev pub is_scope : TokenKind → Bool
is_scope Scope = true
is_scope _ = false

-- ---- blanks

-- behind these stands no blank: `( [ < :: / ! !!` and a name in brackets
abbrev pub shuts_behind : TokenKind → Bool
shuts_behind kind =
    is_one_of (OPEN_PAREN ∷ OPEN_BRACKET ∷ LESS ∷ DOUBLE_COLON ∷ SLASH ∷ BANG ∷ DOUBLE_BANG ∷ []) kind || is_scope kind

-- before these stands none: `, ) ] > : :: / ( [ < & *`
abbrev pub shuts_before : TokenKind → Bool
shuts_before kind =
    is_one_of
    (COMMA ∷ CLOSE_PAREN ∷ CLOSE_BRACKET ∷ GREATER ∷ COLON ∷ DOUBLE_COLON ∷ SLASH ∷ OPEN_PAREN ∷ OPEN_BRACKET ∷ LESS ∷ AMPERSAND
    ∷ STAR ∷ [])
    kind

-- none stands between `:` and an integer, nor between `...` and an integer on either side
abbrev pub joins_integer : TokenKind → TokenKind → Bool
joins_integer before after =
    (is_one_of (COLON ∷ ELLIPSIS ∷ []) before && is_int after) || (is_int before && is_the ELLIPSIS after)

-- A blank stands between a token of the first kind and the next of its line. Behind `,` one stands always; a `[` that stands apart has one before it, unless
-- none stands behind what is before it.
abbrev pub has_blank : TokenKind → Leaf → Bool
has_blank before after =
    is_the COMMA before
    || (not (shuts_behind before) && (after.apart || not (shuts_before after.kind || joins_integer before after.kind)))

-- ---- lines

-- how many braces are open, and the kind of the last token, if there is one
pub record State : Type 0 where
  pub depth : ℕ
  pub last : Option TokenKind

abbrev pub front : State
front = record { depth = 0; last = None }

abbrev pub blanks : ℕ → List ℕ
blanks zero = []
blanks (suc n) = 32 ∷ blanks n

-- the depth of a token's line: a `}` stands as deep as its `{`
abbrev pub line_depth : ℕ → Leaf → ℕ
line_depth depth l = if is_the CLOSE_BRACE l.kind then depth - 1 else depth

-- and that behind it
abbrev pub depth_behind : ℕ → Leaf → ℕ
depth_behind depth l = if is_the OPEN_BRACE l.kind then suc depth else line_depth depth l

-- the end of the line before, if there is one
abbrev pub line_end : Option TokenKind → List ℕ
line_end None = []
line_end (Some kind) = 10 ∷ []

abbrev pub gap : Option TokenKind → Leaf → List ℕ
gap None l = []
gap (Some before) l = if has_blank before l then 32 ∷ [] else []

-- what stands before a token: at the begin of a line the end of the one before and two blanks for each open brace
abbrev pub lead : State → Leaf → List ℕ
lead s l = if l.starts then line_end s.last ++ blanks (2 * line_depth s.depth l) else gap s.last l

abbrev pub next : State → Leaf → State
next s l = record { depth = depth_behind s.depth l; last = Some l.kind }

-- the text of leaves, and the state behind them
abbrev pub text_from : State → List Leaf → List ℕ
text_from s [] = []
text_from s (l ∷ ls) = lead s l ++ (l.text ++ text_from (next s l) ls)

abbrev pub state_after : State → List Leaf → State
state_after s [] = s
state_after s (l ∷ ls) = state_after (next s l) ls

-- the text of a piece within a line, and that of a whole listing, whose last line ends too
unfoldable pub line_text : Shown → List ℕ
line_text g = text_from front (leaves g)

unfoldable pub text : Shown → List ℕ
text g = text_from front (leaves g) ++ 10 ∷ []
