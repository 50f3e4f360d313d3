-- The key of another assembly, drawn where it has one.
use Rattle.std.specs.Prelude.{ℕ, Bool, if◌then◌else◌}
use Rattle.il_lexer.specs.declared.word.TheConstants.{AS}
use Rattle.listing_model.specs.Shown.{none, w}
use Rattle.listing_model.specs.Types.{name, alias}
use Rattle.print_leaves.specs.Page.{Page, drawn}

-- `as #k`
abbrev pub alias_drawn : Page → Bool → ℕ → Page
alias_drawn p aliased k = if aliased then drawn p (w AS (name (alias k) none)) else p
