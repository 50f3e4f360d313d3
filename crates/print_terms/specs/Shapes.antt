-- The dimensions of an array.
use Rattle.std.specs.Prelude.{ℕ, ◌==◌, if◌then◌else◌, List, [], ◌∷◌, length, fold, Option, None, Some}
use Rattle.il_lexer.specs.declared.word.TheConstants.{ELLIPSIS}
use Rattle.listing_model.specs.Shown.{Item, none, w}
use Rattle.listing_model.specs.Types.{bound_opt, comma_bound}
use Rattle.print_leaves.specs.Page.{Page, drawn}
use Rattle.print_terms.specs.Rows.{under}

-- the first of so many: `...` where it is the only one and has neither size nor bound
abbrev pub lone_drawn : Page → ℕ → Option Item → Page
lone_drawn p rank None = if rank == 1 then drawn p (w ELLIPSIS none) else p
lone_drawn p rank (Some b) = under p b

-- each of the others behind a comma
abbrev pub others_drawn : Page → List (Option Item) → Page
others_drawn p ds = fold (λ q d. under q (comma_bound d)) p ds

abbrev pub dimensions_drawn : Page → List (Option Item) → Page
dimensions_drawn p [] = p
dimensions_drawn p (d ∷ ds) = others_drawn (lone_drawn p (length (d ∷ ds)) d) ds
