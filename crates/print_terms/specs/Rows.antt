-- Rows of pieces, drawn one after the other.
use Rattle.std.specs.Prelude.{List, [], ◌∷◌, fold}
use Rattle.il_lexer.specs.declared.word.TheConstants.{COMMA}
use Rattle.listing_model.specs.Shown.{Item, none, w}
use Rattle.print_leaves.specs.Page.{Page, drawn}

-- what stands below a production is drawn
abbrev pub under : Page → Item → Page
under p i = drawn p i.below

-- one after the other
abbrev pub in_row : Page → List Item → Page
in_row p items = fold under p items

-- a comma, and one more
abbrev pub behind : Page → Item → Page
behind p i = under (drawn p (w COMMA none)) i

-- with commas between them
abbrev pub between : Page → List Item → Page
between p [] = p
between p (i ∷ is) = fold behind (under p i) is

-- one more, with a comma behind it
abbrev pub before_comma : Page → Item → Page
before_comma p i = drawn (under p i) (w COMMA none)
