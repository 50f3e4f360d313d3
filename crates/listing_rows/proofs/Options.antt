-- What stands below what may be there, and below a row.
use Rattle.std.proofs.Common.{◌≡◌, ℕ, true, false, if◌then◌else◌, List, [], ◌∷◌, Option, None, Some, ap, ◌∙◌}
use Rattle.source_model.specs.Forest as f
use Rattle.listing_model.specs.Shown.{Shown, Item, opt_production, opt_below, star_production, star_below}
use Rattle.listing_reading.specs.Numbered.{numbered}
use Rattle.listing_rows.specs.Laws.{OptionsAreRead}

option_child : (some nothing : ℕ) → f.is_among (some ∷ []) some ≡ true → f.is_among (some ∷ []) nothing ≡ false → (x : Option Shown) (at : ℕ) (after : f.Forest) →
    f.child (some ∷ []) after ≡ f.none → f.child (some ∷ []) (f.branch (opt_production some nothing x) (numbered at (opt_below x)) after) ≡ numbered at (opt_below x)
option_child some nothing is not_it None at after h = ap (λ c. if c then f.none else f.child (some ∷ []) after) not_it ∙ h
option_child some nothing is not_it (Some g) at after h = ap (λ c. if c then numbered at g else f.child (some ∷ []) after) is

row_child : (more end : ℕ) → f.is_among (more ∷ []) more ≡ true → f.is_among (more ∷ []) end ≡ false → (items : List Item) (at : ℕ) (after : f.Forest) →
    f.child (more ∷ []) after ≡ f.none → f.child (more ∷ []) (f.branch (star_production more end items) (numbered at (star_below more end items)) after) ≡ numbered at (star_below more end items)
row_child more end is not_it [] at after h = ap (λ c. if c then f.none else f.child (more ∷ []) after) not_it ∙ h
row_child more end is not_it (i ∷ items) at after h = ap (λ c. if c then numbered at (star_below more end (i ∷ items)) else f.child (more ∷ []) after) is

pub options_are_read : OptionsAreRead
options_are_read = record { option = option_child; row = row_child }
